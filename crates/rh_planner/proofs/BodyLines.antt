-- The lines of a task, `let`, `put` and `drop`, keep the facts sound.
use Rattle.std.proofs.Common.{◌≡◌, ℕ, zero, suc, ◌<◌, ◌≤◌, ◌≢◌, List, [], ◌∷◌, ◌++◌, Bool, true, false, Option, Some, None, cond, not, length, map, slice_index, refl, arith, ap, sym, ◌∙◌, subst, inl, inr, append-nil, append_assoc}
use Rattle.std.specs.Prelude.{nat_eq, sum, ◌||◌, ◌&&◌}
use Rattle.std.specs.List.{AllByRecursion, IsDistinct}
use Rattle.std.proofs.lemmas.Bool.{false≢true, true≢false, cases_lt}
use Rattle.std.proofs.lemmas.Bool.Decides.{eqb_tells}
use Rattle.std.specs.Str.{bytes_eq}
use Rattle.std.specs.Prelude.{slice_get}
use Rattle.std.proofs.lemmas.Option.{none-some, same_Some}
use Rattle.std.proofs.lemmas.List.{map-append, length-map}
use Rattle.std.proofs.lemmas.Map.Keys.{apart_from_distinct}
use Rattle.rh_words.specs.Naming.{is_name}
use Rattle.rh_rules.specs.declared.shape.Shape.{Shape}
use Rattle.rh_rules.specs.declared.body.Step.{Step}
use Rattle.rh_rules.specs.declared.body.Step.TheVariants as steps
use Rattle.rh_rules.specs.declared.node.PlannedPromise.{PlannedPromise}
use Rattle.rh_rules.specs.Tables.{LocalName, local, Putting, putting, given, is_in, is_among, promise_number, lens_of, is_local}
use Rattle.rh_rules.specs.Bodies.{AreSoundSteps, IsSoundStep, let_len, with_len, lens_at, lens_after, put_at, drop_at, promises_put, drops_of}
use Rattle.rh_rules.specs.Lawful.{promise_lens, putter_of, IsAmong}
use Rattle.rh_rules.specs.Above.{Facts}
use Rattle.rh_tables.proofs.Stepping.{promises_put_push}
use Rattle.rh_planner.proofs.DeclaredPromises.{IsDeclaredAs, putter_at, scope_at, same_name, name_is, one_place}
use Rattle.rh_planner.proofs.PutPromises.{stays_given, all_given, put_grows, put_new, put_split, given_other, unput_given}
use Rattle.rh_tables.proofs.SoundTasks.{IsShort, IsSoundTask, scope_of, lens_here, awaited_within, locals_grown, task_grown, steps_push, lens_after_push, all_map, all_append}
use Rattle.rh_planner.proofs.SoundFacts.{AreNamed, AreSound, IsSoundPromise, scope_names, node_grown, blocks_kept, distinct_push, among_last, among_more}
use Rattle.rh_rules.specs.Kept.{KeptCheck}
use Rattle.rh_rules.specs.Rules.{may_check}
use Rattle.rh_planner.proofs.SoundChecks.{IsSoundCheck, check_grown}
use Rattle.rh_planner.proofs.LocalNames.{locals_pushed, locals_named_grown}

abbrev shown_by : PlannedPromise → ℕ
shown_by p = cond (not p.temp && not p.scope) p.len 0

drops_of_push : (xs : List Step) (y : Step) → drops_of (xs ++ y ∷ []) ≡ drops_of xs ++ drop_at y
drops_of_push [] y = append-nil (drop_at y)
drops_of_push (x ∷ xs) y = ap (λ (l : List ℕ). drop_at x ++ l) (drops_of_push xs y) ∙ sym (append_assoc (drop_at x) (drops_of xs) (drop_at y))

-- a step that adds nothing to a list of the steps
nothing_more : (whole before added : List ℕ) → whole ≡ before ++ added → added ≡ [] → whole ≡ before
nothing_more whole before added more none = more ∙ ap (λ (l : List ℕ). before ++ l) none ∙ append-nil before

-- a step that is sound among the locals is sound after the steps before it
sound_push : (shapes : List Shape) (ps : List PlannedPromise) (v : ℕ) (inputs : List ℕ) (body : List Step) (lens : List ℕ) (step : Step) → IsSoundTask shapes ps v inputs body → lens_here shapes ps inputs body ≡ lens → IsSoundStep shapes (promise_lens ps) lens step
    → AreSoundSteps shapes (promise_lens ps) (lens_at (promise_lens ps) inputs) (body ++ step ∷ [])
sound_push shapes ps v inputs body lens step task same sound = steps_push shapes (promise_lens ps) (lens_at (promise_lens ps) inputs) body step task.sound (subst (λ (l : List ℕ). IsSoundStep shapes (promise_lens ps) l step) (sym same) sound)

pub sound_let : (shapes : List Shape) (f : Facts) (x : List ℕ) (len : ℕ) (step : Step) → AreSound shapes f → is_local f.locals x ≡ false → is_name x ≡ true → IsSoundStep shapes (promise_lens f.promises) (lens_of f.locals) step → let_len shapes (lens_of f.locals) step ≡ Some len → IsShort len → put_at step ≡ [] → drop_at step ≡ []
    → AreSound shapes (record f { locals = f.locals ++ local x len ∷ []; steps = f.steps ++ step ∷ [] })
sound_let shapes f x len step s fresh named sound long short no_put no_drop =
    let ps : List PlannedPromise = f.promises in
    let puts : promises_put (f.steps ++ step ∷ []) ≡ promises_put f.steps = nothing_more _ (promises_put f.steps) (put_at step) (promises_put_push f.steps step) no_put in
    let drops : drops_of (f.steps ++ step ∷ []) ≡ drops_of f.steps = nothing_more _ (drops_of f.steps) (drop_at step) (drops_of_push f.steps step) no_drop in
    let longer : lens_here shapes ps f.inputs (f.steps ++ step ∷ []) ≡ lens_of f.locals ++ len ∷ [] =
    lens_after_push shapes (lens_at (promise_lens ps) f.inputs) f.steps step
    ∙ ap (λ (l : List ℕ). lens_after shapes l step) s.lens
    ∙ ap (λ (o : Option ℕ). with_len (lens_of f.locals) o) long in
    let all_short : AllByRecursion IsShort (lens_of f.locals) = subst (AllByRecursion IsShort) s.lens s.task.short in
    record {
      promise_names = s.promise_names;
      node_names = s.node_names;
      blocks = s.blocks;
      promises = s.promises;
      few = s.few;
      total = s.total;
      shown = s.shown;
      ended = s.ended;
      matrices = s.matrices;
      enclosed = s.enclosed;
      scopes = s.scopes;
      task = record {
        awaited = s.task.awaited;
        awaits_once = s.task.awaits_once;
        sound = sound_push shapes ps (length f.nodes) f.inputs f.steps (lens_of f.locals) step s.task s.lens sound;
        own = subst (AllByRecursion (λ q. putter_of ps q ≡ Some (length f.nodes))) (sym puts) s.task.own;
        once = subst (IsDistinct nat_eq) (sym puts) s.task.once;
        unscoped = subst (AllByRecursion (λ q. scope_of ps q ≡ Some false)) (sym puts) s.task.unscoped;
        dropped = subst (AllByRecursion (IsAmong f.inputs)) (sym drops) s.task.dropped;
        drops_once = subst (IsDistinct nat_eq) (sym drops) s.task.drops_once;
        short = subst (AllByRecursion IsShort) (sym longer) (all_append IsShort (lens_of f.locals) (len ∷ []) all_short (short, tt));
      };
      lens = longer ∙ sym (map-append (λ (t : LocalName). t.len) f.locals (local x len ∷ []));
      drops = drops ∙ s.drops;
      drops_within = s.drops_within;
      named = locals_pushed ps f.inputs f.locals x len s.named fresh named;
      checks = subst (λ (l : List ℕ). AllByRecursion (IsSoundCheck shapes ps f.inputs l) f.checks) (sym puts) s.checks;
      unchecked = s.unchecked;
      put = λ q v e. elim (s.put q v e) [
        | inl old ↦ inl old
        | inr open_one ↦ inr (open_one.0, subst (λ (l : List ℕ). IsAmong l q) (sym puts) open_one.1)
      ];
    }

all_index : (P : ℕ → Type 0) (ns : List ℕ) (i : ℕ) → AllByRecursion P ns → i < length ns → P (slice_index ns i)
all_index P [] i all h = absurd (omega arith)
all_index P (n ∷ ns) zero all h = all.0
all_index P (n ∷ ns) (suc i) all h = all_index P ns i all.1 (omega arith)

index_among : (ns : List ℕ) (i : ℕ) → i < length ns → IsAmong ns (slice_index ns i)
index_among [] i h = absurd (omega arith)
index_among (n ∷ ns) zero h = elim (eqb_tells n n) [ inl e ↦ rw e.0 refl | inr o ↦ absurd (o.1 refl) ]
index_among (n ∷ ns) (suc i) h = first (nat_eq n (slice_index ns i)) (is_in (slice_index ns i) ns) (index_among ns i (omega arith))
  where
    first : (a b : Bool) → b ≡ true → (a || b) ≡ true
    first true b e = refl
    first false b e = e

flip : (a b : ℕ) → nat_eq a b ≡ false → nat_eq b a ≡ false
flip a b e = elim (eqb_tells b a) [
  | inl same ↦ absurd (true≢false (sym same.0 ∙ ap (λ k. nat_eq k a) same.1 ∙ sym (ap (λ k. nat_eq a k) same.1) ∙ e))
  | inr other ↦ other.0
]

-- distinct numbers differ at two places
places_apart : (ns : List ℕ) (i j : ℕ) → IsDistinct nat_eq ns → i < length ns → j < length ns → i ≢ j → nat_eq (slice_index ns i) (slice_index ns j) ≡ false
places_apart ns i j distinct hi hj differ = elim (cases_lt i j) [
  | inl below ↦ apart_from_distinct nat_eq ns i j 0 distinct below hj
  | inr least ↦ flip (slice_index ns j) (slice_index ns i) (apart_from_distinct nat_eq ns j i 0 distinct (omega arith) hi)
]

drops_apart : (inputs drops : List ℕ) (i : ℕ) → IsDistinct nat_eq inputs → AllByRecursion (λ j. j < length inputs) drops → i < length inputs → is_in i drops ≡ false → AllByRecursion (λ x. nat_eq x (slice_index inputs i) ≡ false) (map (λ j. slice_index inputs j) drops)
drops_apart inputs [] i distinct all h e = tt
drops_apart inputs (j ∷ drops) i distinct all h e = step (nat_eq j i) refl e (drops_apart inputs drops i distinct all.1 h)
  where
    step : (b : Bool) → nat_eq j i ≡ b → (b || is_in i drops) ≡ false → (is_in i drops ≡ false → AllByRecursion (λ x. nat_eq x (slice_index inputs i) ≡ false) (map (λ k. slice_index inputs k) drops))
        → AllByRecursion (λ x. nat_eq x (slice_index inputs i) ≡ false) (map (λ k. slice_index inputs k) (j ∷ drops))
    step true is out rest = absurd (true≢false out)
    step false is out rest = (places_apart inputs j i distinct all.0 h (λ same. false≢true (sym is ∙ ap (λ k. nat_eq k i) same ∙ own i)), rest out)
      where
        own : (k : ℕ) → nat_eq k k ≡ true
        own k = elim (eqb_tells k k) [ inl e ↦ e.0 | inr o ↦ absurd (o.1 refl) ]

pub sound_drop : (shapes : List Shape) (f : Facts) (i : ℕ) → AreSound shapes f → i < length f.inputs → is_in i f.drops ≡ false → AreSound shapes (record f { drops = f.drops ++ i ∷ []; steps = f.steps ++ steps.DropAwait (slice_index f.inputs i) ∷ [] })
sound_drop shapes f i s within fresh =
    let ps : List PlannedPromise = f.promises in
    let step : Step = steps.DropAwait (slice_index f.inputs i) in
    let at = λ (j : ℕ). slice_index f.inputs j in
    let puts : promises_put (f.steps ++ step ∷ []) ≡ promises_put f.steps = nothing_more _ (promises_put f.steps) [] (promises_put_push f.steps step) refl in
    let drops : drops_of (f.steps ++ step ∷ []) ≡ drops_of f.steps ++ slice_index f.inputs i ∷ [] = drops_of_push f.steps step in
    let same : lens_here shapes ps f.inputs (f.steps ++ step ∷ []) ≡ lens_here shapes ps f.inputs f.steps = lens_after_push shapes (lens_at (promise_lens ps) f.inputs) f.steps step in
    let there : slice_index f.inputs i < length (promise_lens ps) = all_index (λ q. q < length (promise_lens ps)) f.inputs i (awaited_within ps (length f.nodes) f.inputs s.task.awaited) within in
    let apart : AllByRecursion (λ x. nat_eq x (slice_index f.inputs i) ≡ false) (drops_of f.steps) = subst (AllByRecursion (λ x. nat_eq x (slice_index f.inputs i) ≡ false)) (sym s.drops) (drops_apart f.inputs f.drops i s.task.awaits_once s.drops_within within fresh) in
    record {
      promise_names = s.promise_names;
      node_names = s.node_names;
      blocks = s.blocks;
      promises = s.promises;
      few = s.few;
      total = s.total;
      shown = s.shown;
      ended = s.ended;
      matrices = s.matrices;
      enclosed = s.enclosed;
      scopes = s.scopes;
      task = record {
        awaited = s.task.awaited;
        awaits_once = s.task.awaits_once;
        sound = sound_push shapes ps (length f.nodes) f.inputs f.steps (lens_of f.locals) step s.task s.lens there;
        own = subst (AllByRecursion (λ q. putter_of ps q ≡ Some (length f.nodes))) (sym puts) s.task.own;
        once = subst (IsDistinct nat_eq) (sym puts) s.task.once;
        unscoped = subst (AllByRecursion (λ q. scope_of ps q ≡ Some false)) (sym puts) s.task.unscoped;
        dropped = subst (AllByRecursion (IsAmong f.inputs)) (sym drops) (all_append (IsAmong f.inputs) (drops_of f.steps) (slice_index f.inputs i ∷ []) s.task.dropped (index_among f.inputs i within, tt));
        drops_once = subst (IsDistinct nat_eq) (sym drops) (distinct_push (drops_of f.steps) (slice_index f.inputs i) s.task.drops_once apart);
        short = subst (AllByRecursion IsShort) (sym same) s.task.short;
      };
      lens = same ∙ s.lens;
      drops = drops ∙ ap (λ (l : List ℕ). l ++ slice_index f.inputs i ∷ []) s.drops ∙ sym (map-append at f.drops (i ∷ []));
      drops_within = all_append (λ j. j < length f.inputs) f.drops (i ∷ []) s.drops_within (within, tt);
      named = s.named;
      checks = subst (λ (l : List ℕ). AllByRecursion (IsSoundCheck shapes ps f.inputs l) f.checks) (sym puts) s.checks;
      unchecked = s.unchecked;
      put = λ q v e. elim (s.put q v e) [
        | inl old ↦ inl old
        | inr open_one ↦ inr (open_one.0, subst (λ (l : List ℕ). IsAmong l q) (sym puts) open_one.1)
      ];
    }

-- a promise that is a scope's own is not one that is not
not_own : (q : List ℕ) (p x : PlannedPromise) (j : ℕ) (ps : List PlannedPromise) (i : ℕ) → IsDistinct bytes_eq (map (λ (y : PlannedPromise). y.name) ps) → slice_get ps i ≡ Some p → q ≡ p.name → slice_get ps j ≡ Some x → p.scope ≡ false → x.scope ≡ true → bytes_eq q x.name ≡ false
not_own q p x j ps i distinct here named at unscoped scope = step (bytes_eq q x.name) refl
  where
    step : (b : Bool) → bytes_eq q x.name ≡ b → b ≡ false
    step false e = refl
    step true e =
        let place : i ≡ j = one_place ps i j p x distinct here at (sym named ∙ same_name q x.name e) in
        let one : p ≡ x = same_Some p x (sym here ∙ ap (λ (k : ℕ). slice_get ps k) place ∙ at) in
        absurd (false≢true (sym unscoped ∙ ap (λ (y : PlannedPromise). y.scope) one ∙ scope))

pub sound_put : (shapes : List Shape) (f : Facts) (q : List ℕ) (p : PlannedPromise) (a : ℕ) (when : Option ℕ) → AreSound shapes f → f.count ≡ length f.nodes → IsDeclaredAs f.promises q p → p.putter ≡ None → p.scope ≡ false
    → IsSoundStep shapes (promise_lens f.promises) (lens_of f.locals) (steps.Put (promise_number f.promises q) a when)
    → AreSound shapes (record f { promises = map (given (putting q f.count)) f.promises; steps = f.steps ++ steps.Put (promise_number f.promises q) a when ∷ [] })
sound_put shapes f q p a when s counted d none unscoped sound =
    let ps : List PlannedPromise = f.promises in
    let t : Putting = putting q f.count in
    let qs : List PlannedPromise = map (given t) ps in
    let i : ℕ = promise_number ps q in
    let v : ℕ = length f.nodes in
    let step : Step = steps.Put i a when in
    let grows = put_grows t ps in
    let names : map (λ (x : PlannedPromise). x.name) qs ≡ map (λ (x : PlannedPromise). x.name) ps = stays_given (λ x. x.name) (λ x o. refl) t ps in
    let lens : promise_lens qs ≡ promise_lens ps = stays_given (λ x. x.len) (λ x o. refl) t ps in
    let puts : promises_put (f.steps ++ step ∷ []) ≡ promises_put f.steps ++ i ∷ [] = promises_put_push f.steps step in
    let drops : drops_of (f.steps ++ step ∷ []) ≡ drops_of f.steps = nothing_more _ (drops_of f.steps) [] (drops_of_push f.steps step) refl in
    let task = task_grown shapes ps qs v f.inputs f.steps grows s.task in
    let here : lens_here shapes qs f.inputs f.steps ≡ lens_of f.locals = locals_grown shapes ps qs v f.inputs f.steps grows s.task.awaited ∙ s.lens in
    let same : lens_here shapes qs f.inputs (f.steps ++ step ∷ []) ≡ lens_here shapes qs f.inputs f.steps = lens_after_push shapes (lens_at (promise_lens qs) f.inputs) f.steps step in
    let before : putter_of ps i ≡ None = putter_at ps i p d.at ∙ none in
    let after : putter_of qs i ≡ Some v = put_new t ps i p d.at (name_is q p.name (sym d.named)) none ∙ ap Some counted in
    let apart : AllByRecursion (λ k. nat_eq k i ≡ false) (promises_put f.steps) =
    all_map (promises_put f.steps) (λ k own. elim (eqb_tells k i) [
      | inl is ↦ absurd (none-some v (sym before ∙ ap (λ (m : ℕ). putter_of ps m) (sym is.1) ∙ own))
      | inr other ↦ other.0
    ]) s.task.own in
    record {
      promise_names = subst (λ (l : List (List ℕ)). AreNamed l f.names) (sym names) s.promise_names;
      node_names = s.node_names;
      blocks = blocks_kept f.nodes ps qs f.blocks (λ j x at among scope. given_other t ps j x at (not_own q p x j ps i s.promise_names.once d.at (sym d.named) at unscoped scope)) s.blocks;
      promises = all_given IsSoundPromise (λ x o h. record { name = h.name; len = h.len }) t ps s.promises;
      few = let h : length qs ≡ length ps = simp length-map in rw h s.few;
      total = subst (λ (n : ℕ). n ≤ 16777216) (ap sum (sym lens)) s.total;
      shown = subst (λ (n : ℕ). n ≤ 1048576) (ap sum (sym (stays_given shown_by (λ x o. refl) t ps))) s.shown;
      ended = λ u node at. node_grown shapes ps qs u node grows (s.ended u node at);
      matrices = s.matrices;
      enclosed = s.enclosed;
      scopes = λ k x at scope none. let (y, old, is, unput) = unput_given t ps k x at none in
          subst (λ (z : PlannedPromise). is_among z.name (scope_names f.blocks) ≡ true) (sym is) (s.scopes k y old (ap (λ (z : PlannedPromise). z.scope) (sym is) ∙ scope) unput);
      task = record {
        awaited = task.awaited;
        awaits_once = task.awaits_once;
        sound = sound_push shapes qs v f.inputs f.steps (lens_of f.locals) step task here (subst (λ (l : List ℕ). IsSoundStep shapes l (lens_of f.locals) step) (sym lens) sound);
        own = subst (AllByRecursion (λ k. putter_of qs k ≡ Some v)) (sym puts) (all_append (λ k. putter_of qs k ≡ Some v) (promises_put f.steps) (i ∷ []) task.own (after, tt));
        once = subst (IsDistinct nat_eq) (sym puts) (distinct_push (promises_put f.steps) i task.once apart);
        unscoped = subst (AllByRecursion (λ k. scope_of qs k ≡ Some false)) (sym puts) (all_append (λ k. scope_of qs k ≡ Some false) (promises_put f.steps) (i ∷ []) task.unscoped (grows.scopes i false (scope_at ps i p d.at ∙ ap Some unscoped), tt));
        dropped = subst (AllByRecursion (IsAmong f.inputs)) (sym drops) task.dropped;
        drops_once = subst (IsDistinct nat_eq) (sym drops) task.drops_once;
        short = subst (AllByRecursion IsShort) (sym same) task.short;
      };
      lens = same ∙ here;
      drops = drops ∙ s.drops;
      drops_within = s.drops_within;
      named = locals_named_grown ps qs v f.inputs f.locals grows s.task.awaited s.named;
      checks = subst (λ (l : List ℕ). AllByRecursion (IsSoundCheck shapes qs f.inputs l) f.checks) (sym puts)
          (all_map f.checks (λ c h. let g = check_grown shapes ps qs v f.inputs (promises_put f.steps) c grows s.task.awaited s.task.own h in record { put = among_more (promises_put f.steps) (i ∷ []) c.promise g.put; fits = g.fits }) s.checks);
      unchecked = s.unchecked;
      put = λ k u e. elim (put_split t ps k u e) [
        | inl old ↦ elim (s.put k u old) [
          | inl ended ↦ inl ended
          | inr open_one ↦ inr (open_one.0, subst (λ (l : List ℕ). IsAmong l k) (sym puts) (among_more (promises_put f.steps) (i ∷ []) k open_one.1))
        ]
        | inr new ↦
            let place : i ≡ k = one_place ps i k p new.0 s.promise_names.once d.at new.1 (d.named ∙ same_name q (new.0).name new.2) in
            inr (sym new.3 ∙ counted, subst (λ (l : List ℕ). IsAmong l k) (sym puts) (subst (λ (m : ℕ). IsAmong (promises_put f.steps ++ i ∷ []) m) place (among_last (promises_put f.steps) i)))
      ];
    }

-- one more check, of a task that may have checks
pub sound_check : (shapes : List Shape) (f : Facts) (c : KeptCheck) → AreSound shapes f → may_check f.scheme ≡ true → IsSoundCheck shapes f.promises f.inputs (promises_put f.steps) c → AreSound shapes (record f { checks = f.checks ++ c ∷ [] })
sound_check shapes f c s may sound = record {
  promise_names = s.promise_names;
  node_names = s.node_names;
  blocks = s.blocks;
  promises = s.promises;
  few = s.few;
  total = s.total;
  shown = s.shown;
  ended = s.ended;
  matrices = s.matrices;
  enclosed = s.enclosed;
  scopes = s.scopes;
  task = s.task;
  lens = s.lens;
  drops = s.drops;
  drops_within = s.drops_within;
  named = s.named;
  checks = all_append (IsSoundCheck shapes f.promises f.inputs (promises_put f.steps)) f.checks (c ∷ []) s.checks (sound, tt);
  unchecked = λ none. absurd (true≢false (sym may ∙ none));
  put = s.put;
}
