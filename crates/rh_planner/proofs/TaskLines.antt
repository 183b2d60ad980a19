-- A line that opens a task or a group keeps the facts sound: what it awaits is put by nodes above.
use Rattle.std.proofs.Common.{◌≡◌, ℕ, ◌<◌, ◌≤◌, List, [], ◌∷◌, ◌++◌, Bool, true, false, Some, not, length, map, refl, ap, sym, ◌∙◌, subst, inl, inr, arith, append_assoc}
use Rattle.std.specs.Prelude.{slice_get, IsSomeAnd, nat_eq}
use Rattle.std.specs.List.{AllByRecursion, IsDistinct, list_any}
use Rattle.std.specs.Str.{bytes_eq}
use Rattle.std.proofs.lemmas.Bool.{false≢true, true≢false, and_parts}
use Rattle.std.proofs.lemmas.Bool.Decides.{eqb_tells}
use Rattle.std.proofs.lemmas.Option.{same_Some, slice_get_within}
use Rattle.std.proofs.lemmas.List.{map-append, length-map}
use Rattle.rh_words.specs.Naming.{is_name}
use Rattle.rh_task_text.specs.declared.statement.SchemeText.{SchemeText}
use Rattle.rh_rules.specs.declared.shape.Shape.{Shape}
use Rattle.rh_rules.specs.declared.node.Node.{Node}
use Rattle.rh_rules.specs.declared.node.Kind.TheVariants as kinds
use Rattle.rh_rules.specs.declared.body.Step.{Step}
use Rattle.rh_rules.specs.declared.node.PlannedPromise.{PlannedPromise}
use Rattle.rh_rules.specs.Tables.{is_among, is_promise, is_put, promise_number, lens_of}
use Rattle.rh_rules.specs.Bodies.{lens_at}
use Rattle.rh_rules.specs.Lawful.{promise_lens, putter_of, IsAmong}
use Rattle.rh_rules.specs.Above.{Facts, await_local}
use Rattle.rh_rules.specs.Rules.{are_distinct}
use Rattle.rh_planner.proofs.After.{with_task, with_group, group_in_facts}
use Rattle.rh_tables.proofs.Using.{neither, not_false}
use Rattle.rh_planner.proofs.DeclaredPromises.{some_of, all_at, name_is, putter_at, declared, slice_get_append}
use Rattle.rh_tables.proofs.SoundTasks.{IsShort, some_and, some_is, some_parts}
use Rattle.rh_planner.proofs.SoundFacts.{AreNamed, AreSound, IsSoundPromise, IsSoundNode, a_group, IsGroupNode, IsPutBy, block_names, named_kept, named_insert, blocks_grown, idle_task, no_numbers, slice_get_last, slice_get_push_cases}
use Rattle.rh_planner.proofs.PromiseLines.{enclosed_more}
use Rattle.rh_planner.proofs.LocalNames.{no_locals, locals_opened}

-- the names are those of promises
abbrev AreDeclared : List PlannedPromise → List (List ℕ) → Type 0
AreDeclared ps names = AllByRecursion (λ q. is_promise ps q ≡ true) names

all_declared : (ps : List PlannedPromise) (names : List (List ℕ)) → list_any (λ q. not (is_promise ps q)) names ≡ false → AreDeclared ps names
all_declared ps [] e = tt
all_declared ps (q ∷ names) e =
    let (first, rest) = neither (not (is_promise ps q)) (list_any (λ q. not (is_promise ps q)) names) e in
    (not_false (is_promise ps q) first, all_declared ps names rest)

put_above : (ps : List PlannedPromise) (nodes : List Node) (names : List (List ℕ)) → ((q v : ℕ) → putter_of ps q ≡ Some v → IsPutBy nodes [] q v) → AreDeclared ps names → list_any (λ q. not (is_put ps q)) names ≡ false
    → AllByRecursion (λ q. IsSomeAnd (putter_of ps q) (λ u. u < length nodes)) (map (promise_number ps) names)
put_above ps nodes [] put known e = tt
put_above ps nodes (q ∷ names) put known e =
    let (first, rest) = neither (not (is_put ps q)) (list_any (λ q. not (is_put ps q)) names) e in
    let (p, d) = declared ps q known.0 in
    let (u, by) = some_of p.putter (sym d.put ∙ not_false (is_put ps q) first) in
    let is : putter_of ps (promise_number ps q) ≡ Some u = putter_at ps (promise_number ps q) p d.at ∙ by in
    let below : u < length nodes = elim (put (promise_number ps q) u is) [
      | inl ended ↦ let k = some_parts (λ (node : Node). IsAmong node.puts (promise_number ps q)) (slice_get nodes u) ended in slice_get_within nodes u k.0 k.1
      | inr none ↦ absurd (false≢true none.1)
    ] in
    (some_is (λ u. u < length nodes) (putter_of ps (promise_number ps q)) u is below, put_above ps nodes names put known.1 rest)

-- distinct names have distinct numbers
number_apart : (ps : List PlannedPromise) (name : List ℕ) (names : List (List ℕ)) → is_promise ps name ≡ true → AreDeclared ps names → is_among name names ≡ false → AllByRecursion (λ k. nat_eq (promise_number ps name) k ≡ false) (map (promise_number ps) names)
number_apart ps name [] here known e = tt
number_apart ps name (q ∷ names) here known e =
    let (first, rest) = neither (bytes_eq q name) (is_among name names) e in
    let (p, d) = declared ps name here in
    let (r, g) = declared ps q known.0 in
    let apart : nat_eq (promise_number ps name) (promise_number ps q) ≡ false = elim (eqb_tells (promise_number ps name) (promise_number ps q)) [
      | inl same ↦
          let one : p ≡ r = same_Some p r (sym d.at ∙ ap (λ (k : ℕ). slice_get ps k) same.1 ∙ g.at) in
          absurd (true≢false (sym (name_is q name (sym g.named ∙ ap (λ (x : PlannedPromise). x.name) (sym one) ∙ d.named)) ∙ first))
      | inr other ↦ other.0
    ] in
    (apart, number_apart ps name names here known.1 rest)

numbers_distinct : (ps : List PlannedPromise) (names : List (List ℕ)) → AreDeclared ps names → are_distinct names ≡ true → IsDistinct nat_eq (map (promise_number ps) names)
unfolding IsDistinct
numbers_distinct ps [] known e = tt
numbers_distinct ps (name ∷ names) known e =
    let parts = and_parts (not (is_among name names)) (are_distinct names) e in
    (number_apart ps name names known.0 known.1 (is_false (is_among name names) parts.0), numbers_distinct ps names known.1 parts.1)
  where
    is_false : (b : Bool) → not b ≡ true → b ≡ false
    is_false true e = absurd (false≢true e)
    is_false false e = refl

awaits_short : (ps : List PlannedPromise) (names : List (List ℕ)) → AllByRecursion IsSoundPromise ps → AreDeclared ps names → AllByRecursion IsShort (lens_at (promise_lens ps) (map (promise_number ps) names))
awaits_short ps [] sound known = tt
awaits_short ps (q ∷ names) sound known =
    let (p, d) = declared ps q known.0 in
    (subst IsShort (sym d.long) (all_at IsSoundPromise ps (promise_number ps q) p sound d.at).len, awaits_short ps names sound known.1)

awaits_long : (ps : List PlannedPromise) (names : List (List ℕ)) → AreDeclared ps names → lens_at (promise_lens ps) (map (promise_number ps) names) ≡ lens_of (map (await_local ps) names)
awaits_long ps [] known = refl
awaits_long ps (q ∷ names) known =
    let (p, d) = declared ps q known.0 in
    ap (λ (n : ℕ). n ∷ lens_at (promise_lens ps) (map (promise_number ps) names)) (d.long ∙ sym d.len)
    ∙ ap (λ (l : List ℕ). (await_local ps q).len ∷ l) (awaits_long ps names known.1)

pub sound_task : (shapes : List Shape) (f : Facts) (name : List ℕ) (scheme : SchemeText) (awaits : List (List ℕ)) → AreSound shapes f → f.steps ≡ [] → is_among name f.names ≡ false → is_name name ≡ true
    → are_distinct awaits ≡ true → list_any (λ q. not (is_promise f.promises q)) awaits ≡ false → list_any (λ q. not (is_put f.promises q)) awaits ≡ false → AreSound shapes (with_task f name scheme awaits)
sound_task shapes f name scheme awaits s idle fresh named distinct known in_order =
    let ps : List PlannedPromise = f.promises in
    let all = all_declared ps awaits known in
    let put : (q v : ℕ) → putter_of ps q ≡ Some v → IsPutBy f.nodes [] q v = λ q v e. subst (λ (steps : List Step). IsPutBy f.nodes steps q v) idle (s.put q v e) in
    record {
      promise_names = named_kept (map (λ (p : PlannedPromise). p.name) ps) f.names name s.promise_names;
      node_names = named_insert (map (λ (node : Node). node.name) f.nodes) (block_names f.blocks) f.names name s.node_names fresh;
      blocks = (named, s.blocks);
      promises = s.promises;
      few = s.few;
      total = s.total;
      shown = s.shown;
      ended = s.ended;
      matrices = s.matrices;
      enclosed = s.enclosed;
      task = record {
        awaited = put_above ps f.nodes awaits put all in_order;
        awaits_once = numbers_distinct ps awaits all distinct;
        sound = tt;
        own = tt;
        once = no_numbers;
        unscoped = tt;
        dropped = tt;
        drops_once = no_numbers;
        short = awaits_short ps awaits s.promises all;
      };
      lens = awaits_long ps awaits all;
      drops = refl;
      drops_within = tt;
      named = locals_opened ps awaits all distinct;
      checks = tt;
      unchecked = λ none. refl;
      put = put;
      scopes = s.scopes;
    }

pub sound_group : (shapes : List Shape) (f : Facts) (name : List ℕ) (awaits : List (List ℕ)) → AreSound shapes f → f.count ≡ length f.nodes → f.steps ≡ [] → is_among name f.names ≡ false → is_name name ≡ true → length awaits ≤ 16
    → are_distinct awaits ≡ true → list_any (λ q. not (is_promise f.promises q)) awaits ≡ false → list_any (λ q. not (is_put f.promises q)) awaits ≡ false → AreSound shapes (with_group f name awaits)
sound_group shapes f name awaits s counted idle fresh named few distinct known in_order =
    let ps : List PlannedPromise = f.promises in
    let n : Node = group_in_facts f name awaits in
    let all = all_declared ps awaits known in
    let put : (q v : ℕ) → putter_of ps q ≡ Some v → IsPutBy f.nodes [] q v = λ q v e. subst (λ (steps : List Step). IsPutBy f.nodes steps q v) idle (s.put q v e) in
    let names = map (λ (node : Node). node.name) f.nodes in
    let long : length (map (promise_number ps) awaits) ≡ length awaits = length-map awaits (promise_number ps) in
    let same : names ++ name ∷ block_names f.blocks ≡ map (λ (node : Node). node.name) (f.nodes ++ n ∷ []) ++ block_names f.blocks =
    sym (append_assoc names (name ∷ []) (block_names f.blocks)) ∙ ap (λ (l : List (List ℕ)). l ++ block_names f.blocks) (sym (map-append (λ (node : Node). node.name) f.nodes (n ∷ []))) in
    let group : IsGroupNode ps (length f.nodes) n = record {
      name = named;
      is = refl;
      few = omega arith;
      awaited = put_above ps f.nodes awaits put all in_order;
      awaits_once = numbers_distinct ps awaits all distinct;
    } in
    let here : slice_get (f.nodes ++ n ∷ []) f.count ≡ Some n = ap (λ (k : ℕ). slice_get (f.nodes ++ n ∷ []) k) counted ∙ slice_get_last f.nodes n in
    record {
      promise_names = named_kept (map (λ (p : PlannedPromise). p.name) ps) f.names name s.promise_names;
      node_names = subst (λ (l : List (List ℕ)). AreNamed l (f.names ++ name ∷ [])) same (named_insert names (block_names f.blocks) f.names name s.node_names fresh);
      blocks = (some_is (λ (node : Node). node.kind ≡ kinds.Group) (slice_get (f.nodes ++ n ∷ []) f.count) n here refl, blocks_grown f.nodes (n ∷ []) ps f.blocks s.blocks);
      promises = s.promises;
      few = s.few;
      total = s.total;
      shown = s.shown;
      ended = λ v node at. elim (slice_get_push_cases f.nodes n v node at) [
        | inl old ↦ s.ended v node old
        | inr new ↦ subst (λ (m : Node). IsSoundNode shapes ps v m) new.1 (subst (λ (k : ℕ). IsSoundNode shapes ps k n) (sym new.0) (a_group group))
      ];
      matrices = s.matrices;
      enclosed = enclosed_more shapes f n s refl;
      task = idle_task shapes ps (length (f.nodes ++ n ∷ []));
      lens = refl;
      drops = refl;
      drops_within = tt;
      checks = tt;
      unchecked = λ h. refl;
      named = no_locals ps;
      put = λ q v e. elim (put q v e) [
        | inl old ↦ inl (some_and (λ (node : Node). IsAmong node.puts q) (slice_get f.nodes v) (slice_get (f.nodes ++ n ∷ []) v) (λ node is. slice_get_append f.nodes (n ∷ []) v node is) old)
        | inr none ↦ absurd (false≢true none.1)
      ];
      scopes = s.scopes;
    }
