-- The `end` of a scope keeps the facts sound: the scope puts its own promise, and no other.
use Rattle.std.proofs.Common.{◌≡◌, ℕ, zero, suc, ◌<◌, ◌≤◌, List, [], ◌∷◌, ◌++◌, Bool, true, false, Some, cond, not, length, map, sum, slice_index, refl, ap, sym, ◌∙◌, subst, inl, inr}
use Rattle.std.specs.Prelude.{slice_get, is_some, ◌&&◌, ◌||◌}
use Rattle.std.specs.List.{AllByRecursion, IsDistinct, list_any}
use Rattle.std.specs.Str.{bytes_eq}
use Rattle.std.proofs.lemmas.Bool.{false≢true, true≢false, or_left, or_right}
use Rattle.std.proofs.lemmas.Option.{none-some, same_Some}
use Rattle.std.proofs.lemmas.List.{length-map}
use Rattle.std.proofs.lemmas.Map.Keys.{IsDistinct-head, IsDistinct-tail}
use Rattle.rh_rules.specs.declared.shape.Shape.{Shape}
use Rattle.rh_rules.specs.declared.block.OpenBlock.{OpenBlock}
use Rattle.rh_rules.specs.declared.block.OpenBlock.TheVariants.{TaskBlock, MatrixBlock, GroupBlock, ScopeBlock}
use Rattle.rh_rules.specs.declared.body.Step.{Step}
use Rattle.rh_rules.specs.declared.node.Node.{Node}
use Rattle.rh_rules.specs.declared.node.PlannedPromise.{PlannedPromise}
use Rattle.rh_rules.specs.Tables.{Putting, putting, given, is_among, is_promise, is_put, promise_number}
use Rattle.rh_rules.specs.Bodies.{promises_put}
use Rattle.rh_rules.specs.Lawful.{promise_lens, IsAmong}
use Rattle.rh_rules.specs.Above.{Facts, group_in, scope_node}
use Rattle.rh_planner.proofs.After.{ended_scope, with_scope_end}
use Rattle.rh_tables.proofs.FirstPlaces.{is_some_position}
use Rattle.rh_planner.proofs.DeclaredPromises.{IsDeclaredAs, declared, same_name, name_is, one_place, scope_at, slice_get_append}
use Rattle.rh_planner.proofs.PutPromises.{stays_given, all_given, put_grows, put_new, put_split, given_other, unput_given, unput_apart}
use Rattle.rh_tables.proofs.SoundTasks.{some_and, some_is}
use Rattle.rh_planner.proofs.SoundFacts.{AreNamed, AreSound, IsSoundPromise, IsSoundNode, a_scope, IsScopeNode, IsSoundBlock, IsOpenScope, block_names, scope_names, node_grown, blocks_grown, blocks_kept, idle_task, among_last, slice_get_last, slice_get_push_cases}
use Rattle.rh_planner.proofs.LocalNames.{no_locals}
use Rattle.rh_planner.proofs.PromiseLines.{names_ended, enclosed_more}

any_at : (test : PlannedPromise → Bool) (ps : List PlannedPromise) (i : ℕ) (p : PlannedPromise) → slice_get ps i ≡ Some p → test p ≡ true → list_any test ps ≡ true
any_at test [] i p at e = absurd (none-some p at)
any_at test (x ∷ ps) zero p at e = or_left (test x) (list_any test ps) (ap test (same_Some x p at) ∙ e)
any_at test (x ∷ ps) (suc i) p at e = or_right (test x) (list_any test ps) (any_at test ps i p at e)

-- the own promise of an open scope, by its name
pub own_there : (ps : List PlannedPromise) (name : List ℕ) → IsOpenScope ps name → is_promise ps name ≡ true
own_there ps name o = is_some_position (λ (p : PlannedPromise). bytes_eq p.name name) ps ∙ any_at (λ p. bytes_eq p.name name) ps o.at o.own o.there (name_is o.own.name name o.is)

record IsOwnNumber (ps : List PlannedPromise) (name : List ℕ) (o : IsOpenScope ps name) : Type 0 where
  number : promise_number ps name ≡ o.at
  at : slice_get ps (promise_number ps name) ≡ Some o.own
  declared : IsDeclaredAs ps name o.own

own_number : (ps : List PlannedPromise) (name : List ℕ) → IsDistinct bytes_eq (map (λ (p : PlannedPromise). p.name) ps) → (o : IsOpenScope ps name) → IsOwnNumber ps name o
own_number ps name distinct o =
    let (p, d) = declared ps name (own_there ps name o) in
    let place : promise_number ps name ≡ o.at = one_place ps (promise_number ps name) o.at p o.own distinct d.at o.there (d.named ∙ sym o.is) in
    let at : slice_get ps (promise_number ps name) ≡ Some o.own = ap (λ (k : ℕ). slice_get ps k) place ∙ o.there in
    record { number = place; at = at; declared = subst (IsDeclaredAs ps name) (same_Some p o.own (sym d.at ∙ at)) d }

pub own_unput : (ps : List PlannedPromise) (name : List ℕ) → IsDistinct bytes_eq (map (λ (p : PlannedPromise). p.name) ps) → IsOpenScope ps name → is_put ps name ≡ false
own_unput ps name distinct o = (own_number ps name distinct o).declared.put ∙ ap is_some o.unput

-- a name that stands behind another of distinct ones is another
apart_behind : (xs : List (List ℕ)) (y : List ℕ) (zs : List (List ℕ)) → IsDistinct bytes_eq (xs ++ y ∷ zs) → AllByRecursion (λ z. bytes_eq y z ≡ false) zs
apart_behind [] y zs distinct = IsDistinct-head bytes_eq y zs distinct
apart_behind (x ∷ xs) y zs distinct = apart_behind xs y zs (IsDistinct-tail bytes_eq x (xs ++ y ∷ zs) distinct)

-- and so are the names of the scopes among these
scopes_apart : (y : List ℕ) (blocks : List OpenBlock) (n : List ℕ) → AllByRecursion (λ z. bytes_eq y z ≡ false) (block_names blocks) → is_among n (scope_names blocks) ≡ true → bytes_eq y n ≡ false
scopes_apart y [] n apart e = absurd (false≢true e)
scopes_apart y (TaskBlock name ∷ blocks) n apart e = scopes_apart y blocks n apart.1 e
scopes_apart y (MatrixBlock ∷ blocks) n apart e = scopes_apart y blocks n apart e
scopes_apart y (GroupBlock number ∷ blocks) n apart e = scopes_apart y blocks n apart e
scopes_apart y (ScopeBlock name first ∷ blocks) n apart e = step (scopes_apart y blocks n apart.1) (bytes_eq name n) refl e
  where
    step : (is_among n (scope_names blocks) ≡ true → bytes_eq y n ≡ false) → (b : Bool) → bytes_eq name n ≡ b → (b || is_among n (scope_names blocks)) ≡ true → bytes_eq y n ≡ false
    step below true same rest = subst (λ (m : List ℕ). bytes_eq y m ≡ false) (same_name name n same) apart.0
    step below false same rest = below rest

abbrev shown_by : PlannedPromise → ℕ
shown_by p = cond (not p.temp && not p.scope) p.len 0

other_left : (a b : Bool) → (a || b) ≡ true → a ≡ false → b ≡ true
other_left true b e h = absurd (true≢false h)
other_left false b e h = e

-- what holds of the open scope that ends
record IsEnding (f : Facts) (name : List ℕ) (first : ℕ) (outer : List OpenBlock) : Type 0 where
  scope : IsOpenScope f.promises name
  number : IsOwnNumber f.promises name scope
  rest : AllByRecursion (IsSoundBlock f.nodes f.promises) outer
  apart : (n : List ℕ) → is_among n (scope_names outer) ≡ true → bytes_eq name n ≡ false

ending : (shapes : List Shape) (f : Facts) (name : List ℕ) (first : ℕ) (outer : List OpenBlock) → AreSound shapes f → f.blocks ≡ ScopeBlock name first ∷ outer → IsEnding f name first outer
ending shapes f name first outer s block =
    let inner : AllByRecursion (IsSoundBlock f.nodes f.promises) (ScopeBlock name first ∷ outer) = subst (AllByRecursion (IsSoundBlock f.nodes f.promises)) block s.blocks in
    let names = map (λ (n : Node). n.name) f.nodes in
    let distinct : IsDistinct bytes_eq (names ++ name ∷ block_names outer) = subst (λ (l : List (List ℕ)). IsDistinct bytes_eq (names ++ l)) (ap block_names block) s.node_names.once in
    record {
      scope = inner.0;
      number = own_number f.promises name s.promise_names.once inner.0;
      rest = inner.1;
      apart = λ n e. scopes_apart name outer n (apart_behind names name (block_names outer) distinct) e;
    }

scope_ended : (f : Facts) (name : List ℕ) (first : ℕ) (outer : List OpenBlock) → f.count ≡ length f.nodes → IsEnding f name first outer → IsScopeNode (map (given (putting name f.count)) f.promises) (length f.nodes) (ended_scope f name first outer)
scope_ended f name first outer counted e =
    let t : Putting = putting name f.count in
    let o = e.scope in
    let own : ℕ = promise_number f.promises name in
    let lens : promise_lens (map (given t) f.promises) ≡ promise_lens f.promises = stays_given (λ x. x.len) (λ x o. refl) t f.promises in
    record {
      name = o.named;
      own = own;
      first = first;
      is = ap (λ (k : ℕ). scope_node name own (group_in outer) first k) counted;
      put = put_new t f.promises own o.own e.number.at (name_is name o.own.name (sym o.is)) o.unput ∙ ap Some counted;
      scope = (put_grows t f.promises).scopes own true (scope_at f.promises own o.own e.number.at ∙ ap Some o.scope);
      within = subst (λ (l : List ℕ). own < length l) (sym lens) e.number.declared.within;
      len = ap (λ (l : List ℕ). slice_index l own) lens ∙ e.number.declared.long ∙ o.len;
    }

pub sound_end_scope : (shapes : List Shape) (f : Facts) (name : List ℕ) (first : ℕ) (outer : List OpenBlock) → AreSound shapes f → f.count ≡ length f.nodes → f.steps ≡ [] → f.blocks ≡ ScopeBlock name first ∷ outer → AreSound shapes (with_scope_end f name first outer)
sound_end_scope shapes f name first outer s counted idle block =
    let ps : List PlannedPromise = f.promises in
    let t : Putting = putting name f.count in
    let qs : List PlannedPromise = map (given t) ps in
    let n : Node = ended_scope f name first outer in
    let own : ℕ = promise_number ps name in
    let e = ending shapes f name first outer s block in
    let grows = put_grows t ps in
    let names : map (λ (x : PlannedPromise). x.name) qs ≡ map (λ (x : PlannedPromise). x.name) ps = stays_given (λ x. x.name) (λ x o. refl) t ps in
    let lens : promise_lens qs ≡ promise_lens ps = stays_given (λ x. x.len) (λ x o. refl) t ps in
    record {
      promise_names = subst (λ (l : List (List ℕ)). AreNamed l f.names) (sym names) s.promise_names;
      node_names = names_ended shapes f n outer s (ap block_names block);
      blocks = blocks_kept (f.nodes ++ n ∷ []) ps qs outer (λ i x at among scope. given_other t ps i x at (e.apart x.name among)) (blocks_grown f.nodes (n ∷ []) ps outer e.rest);
      promises = all_given IsSoundPromise (λ x o h. record { name = h.name; len = h.len }) t ps s.promises;
      few = let h : length qs ≡ length ps = simp length-map in rw h s.few;
      total = subst (λ (k : ℕ). k ≤ 16777216) (ap sum (sym lens)) s.total;
      shown = subst (λ (k : ℕ). k ≤ 1048576) (ap sum (sym (stays_given shown_by (λ x o. refl) t ps))) s.shown;
      ended = λ v node at. elim (slice_get_push_cases f.nodes n v node at) [
        | inl old ↦ node_grown shapes ps qs v node grows (s.ended v node old)
        | inr new ↦ subst (λ (m : Node). IsSoundNode shapes qs v m) new.1 (subst (λ (k : ℕ). IsSoundNode shapes qs k n) (sym new.0) (a_scope (scope_ended f name first outer counted e)))
      ];
      matrices = s.matrices;
      enclosed = enclosed_more shapes f n s (ap group_in (sym block));
      task = idle_task shapes qs (length (f.nodes ++ n ∷ []));
      lens = refl;
      drops = refl;
      drops_within = tt;
      checks = tt;
      unchecked = λ h. refl;
      named = no_locals qs;
      put = λ k u h. elim (put_split t ps k u h) [
        | inl old ↦ elim (s.put k u old) [
          | inl ended ↦ inl (some_and (λ (node : Node). IsAmong node.puts k) (slice_get f.nodes u) (slice_get (f.nodes ++ n ∷ []) u) (λ node is. slice_get_append f.nodes (n ∷ []) u node is) ended)
          | inr open_one ↦ absurd (false≢true (subst (λ (l : List Step). IsAmong (promises_put l) k) idle open_one.1))
        ]
        | inr new ↦
            let place : own ≡ k = one_place ps own k e.scope.own new.0 s.promise_names.once e.number.at new.1 (e.scope.is ∙ same_name name (new.0).name new.2) in
            inl (some_is (λ (node : Node). IsAmong node.puts k) (slice_get (f.nodes ++ n ∷ []) u) n (ap (λ (m : ℕ). slice_get (f.nodes ++ n ∷ []) m) (sym new.3 ∙ counted) ∙ slice_get_last f.nodes n) (subst (λ (m : ℕ). IsAmong (own ∷ []) m) place (among_last [] own)))
      ];
      scopes = λ k x at scope none.
          let (y, old, is, unput) = unput_given t ps k x at none in
          let among : is_among x.name (name ∷ scope_names outer) ≡ true = subst (λ (l : List (List ℕ)). is_among x.name l ≡ true) (ap scope_names block)
          (subst (λ (z : PlannedPromise). is_among z.name (scope_names f.blocks) ≡ true) (sym is) (s.scopes k y old (ap (λ (z : PlannedPromise). z.scope) (sym is) ∙ scope) unput)) in
          other_left (bytes_eq name x.name) (is_among x.name (scope_names outer)) among (unput_apart t ps k x at none);
    }
