-- A lawful line that keeps the rules keeps the facts sound, whatever it is.
use Rattle.std.proofs.Common.{◌≡◌, ℕ, ◌<◌, ◌≤◌, ◌==◌, List, [], ◌∷◌, ◌++◌, Bool, true, false, Option, Some, None, not, length, map, unwrap_or, slice_index, refl, arith, ap, sym, ◌∙◌, subst}
use Rattle.std.specs.Prelude.{slice_get, drop, option_to_list, nat_lt}
use Rattle.std.specs.List.{list_all, AllByRecursion}
use Rattle.std.proofs.lemmas.Bool.{false≢true, and_parts}
use Rattle.std.proofs.lemmas.Bool.Decides.{nat_tests}
use Rattle.rh_task_text.specs.declared.statement.Statement.{Statement}
use Rattle.rh_task_text.specs.declared.statement.Statement.TheVariants as text
use Rattle.rh_task_text.specs.declared.form.Standing.TheVariants.{Outside}
use Rattle.rh_task_text.specs.Blocks.{open_blocks, innermost, may_stand}
use Rattle.rh_task_text.specs.declared.statement.SchemeText.{SchemeText}
use Rattle.rh_check.specs.Users.{HandedChecks, ArePaired}
use Rattle.rh_words.specs.Naming.{is_name}
use Rattle.rh_words.specs.Values.{AreSayable}
use Rattle.rh_task_text.specs.Statements.{said}
use Rattle.rh_task_text.specs.Program.{IsLawful, AllStand}
use Rattle.rh_task_text.proofs.CountsOfLines.{lets_small, checks_small}
use Rattle.rh_rules.specs.declared.shape.Shape.{Shape}
use Rattle.rh_rules.specs.declared.body.Step.{Step}
use Rattle.rh_rules.specs.Tables.{LocalName, local, if_any, is_in, is_local, is_own, is_put, is_promise, place_of, number_of, lens_of, promise_number, promise_len}
use Rattle.rh_task_text.specs.declared.form.Standing.{Standing}
use Rattle.rh_task_text.specs.declared.form.Standing.TheVariants.{Outside}
use Rattle.rh_rules.specs.Kept.{KeptCheck}
use Rattle.rh_rules.specs.Facets.{facets}
use Rattle.rh_rules.specs.Bodies.{IsSoundWhen, lens_at, promises_put}
use Rattle.rh_rules.specs.Lawful.{promise_lens}
use Rattle.rh_rules.specs.declared.block.OpenBlock.{OpenBlock}
use Rattle.rh_rules.specs.Above.{Facts, local_made, made_len, matrix_used, shape_used, numbers_used, lens_read, checks_by}
use Rattle.rh_rules.specs.Rules.{reason_in, is_await, is_dropped, is_put_here, may_check, is_unanswered}
use Rattle.rh_planner.specs.Planned.{look_above}
use Rattle.rh_planner.specs.Following.{after}
use Rattle.rh_planner.specs.Sound.{IsIdle, IsIdleIn, AreCounted, shapes_named}
use Rattle.rh_tables.proofs.Using.{not_false, neither}
use Rattle.rh_planner.proofs.Keeping.{keeps}
use Rattle.rh_planner.proofs.Views.{IsLet, View, as_promise, as_matrix, as_row, as_task, as_finish, as_group, as_end, as_let, as_put, as_drop, view, IsCheck, as_check}
use Rattle.rh_planner.proofs.After.{with_promise, after_promise, with_matrix, after_matrix, after_row, after_end_matrix, with_task, after_task, with_finish, after_finish, with_group, after_group, after_end, after_end_group, after_end_scope, with_drop, after_drop}
use Rattle.rh_planner.proofs.Lets.{with_local, after_let}
use Rattle.rh_planner.proofs.Puts.{with_put, after_put}
use Rattle.rh_planner.proofs.OpenBlocks.{outside, idle, Closed, closed_matrix, closed_task, closed_group, closed_scope, closed}
use Rattle.rh_planner.proofs.CheckLines.{with_check, after_check}
use Rattle.rh_planner.proofs.SoundChecks.{check_sound}
use Rattle.rh_planner.proofs.Counting.{task_outside, check_added, one_check}
use Rattle.rh_planner.proofs.Grammar.{within}
use Rattle.rh_planner.proofs.RulesKept.{Rules, rules}
use Rattle.rh_planner.proofs.DeclaredPromises.{none_of, declared}
use Rattle.rh_tables.proofs.SoundTasks.{IsShort, lens_begin}
use Rattle.rh_planner.proofs.SoundLets.{IsKnown, all_known, AreFirstShapes, let_sound}
use Rattle.rh_planner.proofs.SoundFacts.{AreSound}
use Rattle.rh_planner.proofs.PromiseLines.{sound_promise, sound_matrix, sound_row, sound_finish, sound_end_matrix, sound_end, sound_end_group}
use Rattle.rh_planner.proofs.ScopeLines.{sound_end_scope}
use Rattle.rh_planner.proofs.TaskLines.{sound_task, sound_group}
use Rattle.rh_planner.proofs.BodyLines.{sound_let, sound_put, sound_drop, sound_check}

not_below : (a b : ℕ) → nat_lt a b ≡ false → b ≤ a
not_below a b e = grind (arith, nat_tests)

below : (a b : ℕ) → nat_lt a b ≡ true → a < b
below a b e = grind (arith, nat_tests)

same : (a b : ℕ) → (a == b) ≡ true → a ≡ b
same a b e = grind (arith, nat_tests)

promise_line : (shapes : List Shape) (above : List Statement) (f : Facts) (name : List ℕ) (len : ℕ) (temp : Bool) → AreSound shapes f → IsLawful above (text.Promise name len temp) → Rules f (text.Promise name len temp) → AreSound shapes (with_promise f name len temp)
unfolding facets
promise_line shapes above f name len temp s h r = sound_promise shapes f name len temp s r.fresh r.promise_room h.sayable.1.0 (within above (text.Promise name len temp) h)

-- where no task is open, no step is planned
idle_steps : (above : List Statement) (f : Facts) → AreCounted above f → may_stand Outside (innermost (open_blocks above)) ≡ true → f.steps ≡ []
idle_steps above f c placed = (idle (open_blocks above) f.blocks f (outside (open_blocks above) f.blocks c.blocks placed) c.idle).steps

matrix_line : (shapes : List Shape) (above : List Statement) (f : Facts) (name : List ℕ) (rows cols : ℕ) → AreCounted above f → AreSound shapes f → IsLawful above (text.Matrix name rows cols) → Rules f (text.Matrix name rows cols) → AreSound shapes (with_matrix f name rows cols)
unfolding facets
matrix_line shapes above f name rows cols c s h r = sound_matrix shapes f name rows cols s (idle_steps above f c h.placed.0) r.fresh (within above (text.Matrix name rows cols) h).0

task_name : (scheme : SchemeText) (name : List ℕ) (awaits : List (List ℕ)) → AreSayable (said (text.Task name scheme awaits)) → is_name name ≡ true
task_name scheme name awaits h = h.1.0

task_line : (shapes : List Shape) (above : List Statement) (f : Facts) (name : List ℕ) (scheme : SchemeText) (awaits : List (List ℕ)) → AreCounted above f → AreSound shapes f → IsLawful above (text.Task name scheme awaits) → Rules f (text.Task name scheme awaits) → AreSound shapes (with_task f name scheme awaits)
unfolding facets
task_line shapes above f name scheme awaits c s h r =
    let place : may_stand Outside (innermost (open_blocks above)) ≡ true = subst (λ (standing : Standing). may_stand standing (innermost (open_blocks above)) ≡ true) (task_outside name scheme awaits) h.placed.0 in
    sound_task shapes f name scheme awaits s (idle_steps above f c place) r.fresh (task_name scheme name awaits h.sayable) r.distinct r.awaited r.in_order

finish_line : (shapes : List Shape) (above : List Statement) (f : Facts) (name : List ℕ) → AreCounted above f → AreSound shapes f → IsLawful above (text.Finish name) → Rules f (text.Finish name) → AreSound shapes (with_finish f name)
unfolding facets
finish_line shapes above f name c s h r = sound_finish shapes f name s (idle_steps above f c h.placed.0) r.fresh r.promise_room h.sayable.1.0

group_line : (shapes : List Shape) (above : List Statement) (f : Facts) (name : List ℕ) (awaits : List (List ℕ)) → AreCounted above f → AreSound shapes f → IsLawful above (text.Group name awaits) → Rules f (text.Group name awaits) → AreSound shapes (with_group f name awaits)
unfolding facets
group_line shapes above f name awaits c s h r = sound_group shapes f name awaits s (sym c.counted) (idle_steps above f c h.placed.0) r.fresh h.sayable.1.0 (within above (text.Group name awaits) h) r.distinct r.awaited r.in_order

-- an `end`, by the block that it closes
end_line : (shapes : List Shape) (handed : HandedChecks) (above : List Statement) (f : Facts) → Closed (open_blocks above) f.blocks → AreCounted above f → AreSound shapes f → AllStand above → Rules f text.End → AreSound shapes (after (look_above handed) f text.End)
end_line shapes handed above f (closed_matrix rows cols around outer opens block are) c s stand r =
    let none : IsIdle f = subst (λ (l : List OpenBlock). IsIdleIn l f) block c.idle in
    subst (AreSound shapes) (sym (after_end_matrix (look_above handed) f outer block)) (sound_end_matrix shapes f outer s none.steps block)
end_line shapes handed above f (closed_task name around outer opens block are) c s stand r = subst (AreSound shapes) (sym (after_end (look_above handed) f name outer block)) (sound_end shapes above f name outer s c (lets_small above stand) (checks_small above stand) r.corrected block)
end_line shapes handed above f (closed_group number around outer opens block are) c s stand r =
    let none : IsIdle f = subst (λ (l : List OpenBlock). IsIdleIn l f) block c.idle in
    subst (AreSound shapes) (sym (after_end_group (look_above handed) f number outer block)) (sound_end_group shapes f number outer s none.steps block)
end_line shapes handed above f (closed_scope name first around outer opens block are) c s stand r =
    let none : IsIdle f = subst (λ (l : List OpenBlock). IsIdleIn l f) block c.idle in
    subst (AreSound shapes) (sym (after_end_scope (look_above handed) f name first outer block)) (sound_end_scope shapes f name first outer s (sym c.counted) none.steps block)

let_line : (shapes : List Shape) (above : List Statement) (f : Facts) (s : Statement) (x : List ℕ) → AreFirstShapes shapes f.matrices → AreSound shapes f → IsLet s x → IsLawful above s → Rules f s → AreSound shapes (with_local f (local_made f.matrices f.locals s) (option_to_list ((facets s).step (matrix_used f.matrices s) (numbers_used f.locals s))))
let_line shapes above f s x first sound is h r =
    let len : ℕ = made_len f.matrices f.locals s in
    let most : len ≤ 4096 = not_below 4096 len (subst (λ (o : Option (List ℕ)). if_any (λ y. nat_lt 4096 len) o ≡ false) is.made r.local_room) in
    let short : AllByRecursion IsShort (lens_of f.locals) = subst (AllByRecursion IsShort) sound.lens sound.task.short in
    let step = let_sound shapes s (promise_lens f.promises) f.matrices f.locals x first r.matrix is.made (within above s h) short (all_known f.locals (facets s).used r.used) r.fits most in
    let fresh : is_local f.locals x ≡ false = subst (λ (o : Option (List ℕ)). if_any (is_local f.locals) o ≡ false) is.made r.unmade in
    let more = sound_let shapes f x len step.made sound fresh (is.named h.sayable) step.sound step.long (step.short, most) step.puts step.drops in
    let locals : local_made f.matrices f.locals s ≡ local x len ∷ [] = ap (λ (o : Option (List ℕ)). map (λ y. local y len) (option_to_list o)) is.made in
    let body : option_to_list ((facets s).step (matrix_used f.matrices s) (numbers_used f.locals s)) ≡ step.made ∷ [] = ap (λ (o : Option Step). option_to_list o) step.is in
    subst (λ (l : List LocalName). AreSound shapes (with_local f l (option_to_list ((facets s).step (matrix_used f.matrices s) (numbers_used f.locals s))))) (sym locals)
    (subst (λ (l : List Step). AreSound shapes (with_local f (local x len ∷ []) l)) (sym body) more)

when_sound : (ls : List LocalName) (x : List ℕ) (when : Option (List ℕ)) → AllByRecursion (IsKnown ls) (x ∷ option_to_list when) → list_all (λ n. n == 1) (drop 1 (map (λ i. slice_index (lens_of ls) i) (map (number_of ls) (x ∷ option_to_list when)))) ≡ true
    → IsSoundWhen (lens_of ls) (slice_get (map (number_of ls) (x ∷ option_to_list when)) 1)
when_sound ls x None k e = tt
when_sound ls x (Some y) k e = (k.1.0, same (slice_index (lens_of ls) (number_of ls y)) 1 (and_parts (slice_index (lens_of ls) (number_of ls y) == 1) true e).0)

put_line : (shapes : List Shape) (f : Facts) (promise x : List ℕ) (when : Option (List ℕ)) → length f.nodes ≡ f.count → AreSound shapes f → Rules f (text.Put promise x when) → AreSound shapes (with_put f promise (text.Put promise x when))
unfolding facets
put_line shapes f promise x when counted s r =
    let (p, d) = declared f.promises promise (not_false (is_promise f.promises promise) r.put_to) in
    let (unowned, unput) = neither (is_own f.promises promise) (is_put f.promises promise) r.unowned in
    let known = all_known f.locals (x ∷ option_to_list when) r.used in
    let number : ℕ = number_of f.locals x in
    let long : slice_index (lens_of f.locals) number ≡ promise_len f.promises promise = same (slice_index (lens_of f.locals) number) (promise_len f.promises promise) (not_false (slice_index (lens_of f.locals) number == promise_len f.promises promise) r.as_long) in
    sound_put shapes f promise p number (slice_get (map (number_of f.locals) (x ∷ option_to_list when)) 1) s (sym counted) d (none_of p.putter (sym d.put ∙ unput)) (sym d.own ∙ unowned)
    (d.within, known.0, long ∙ d.len ∙ sym d.long, when_sound f.locals x when known r.fits)

puts : (promise x : List ℕ) (when : Option (List ℕ)) → (facets (text.Put promise x when)).put_to ≡ Some promise
unfolding facets
puts promise x when = refl

any_there : (t u : ℕ → Bool) (o : Option ℕ) → if_any t o ≡ true → if_any u o ≡ false → (t (unwrap_or o 0) ≡ true) × (u (unwrap_or o 0) ≡ false)
any_there t u None e g = absurd (false≢true e)
any_there t u (Some i) e g = (e, g)

drop_line : (shapes : List Shape) (f : Facts) (promise : List ℕ) → AreSound shapes f → Rules f (text.DropAwait promise) → AreSound shapes (with_drop f promise)
unfolding facets
drop_line shapes f promise s r =
    let parts = neither (not (is_await f promise)) (is_dropped f promise) r.dropped in
    let (within, fresh) = any_there (λ i. nat_lt i (length f.inputs)) (λ i. is_in i f.drops) (place_of promise f.locals) (not_false (is_await f promise) parts.0) parts.1 in
    sound_drop shapes f (number_of f.locals promise) s (below (number_of f.locals promise) (length f.inputs) within) fresh

named_of : (t : List ℕ → Bool) (o : Option (List ℕ)) (q : List ℕ) → o ≡ Some q → if_any t o ≡ false → t q ≡ false
named_of t o q e h = subst (λ (p : Option (List ℕ)). if_any t p ≡ false) e h

check_line : (shapes : List Shape) (handed : HandedChecks) (above : List Statement) (f : Facts) (s : Statement) (q : List ℕ) → ArePaired handed → AreFirstShapes shapes f.matrices → AreSound shapes f → IsCheck s q → IsLawful above s → Rules f s → is_unanswered handed s ≡ false → AreSound shapes (with_check f (checks_by (look_above handed) f.promises f.matrices f.locals s))
check_line shapes handed above f s q paired first sound is h r answered =
    let put : is_put_here f q ≡ true = not_false (is_put_here f q) (named_of (λ x. not (is_put_here f x)) (facets s).checked q is.checked r.checked) in
    let begin = lens_begin shapes (lens_at (promise_lens f.promises) f.inputs) f.steps in
    let there : is_promise f.promises q ≡ true = (and_parts (is_promise f.promises q) (is_in (promise_number f.promises q) (promises_put f.steps)) put).0 in
    let (p, d) = declared f.promises q there in
    let suited : (facets s).suits (shape_used f.matrices s) (promise_len f.promises q) (lens_read f.locals s) ≡ true = not_false ((facets s).suits (shape_used f.matrices s) (promise_len f.promises q) (lens_read f.locals s)) (named_of (λ x. not ((facets s).suits (shape_used f.matrices s) (promise_len f.promises x) (lens_read f.locals s))) (facets s).checked q is.checked r.suited) in
    let suits = subst (λ (n : ℕ). (facets s).suits (shape_used f.matrices s) n (lens_read f.locals s) ≡ true) (d.len ∙ sym d.long) suited in
    let may : may_check f.scheme ≡ true = not_false (may_check f.scheme) (named_of (λ x. not (may_check f.scheme)) (facets s).checked q is.checked r.may_check) in
    let check : KeptCheck = check_added handed f s q in
    subst (λ (l : List KeptCheck). AreSound shapes (with_check f l)) (sym (one_check handed f s q is.checked)) (sound_check shapes f check sound may (check_sound shapes handed f s q paired first r.matrix (within above s h) is.checked put r.read answered
    (lens_at (promise_lens f.promises) f.inputs) begin.0 refl (sym sound.lens ∙ begin.1) (subst (AllByRecursion IsShort) sound.lens sound.task.short) suits))

by_view : (shapes : List Shape) (handed : HandedChecks) (above : List Statement) (f : Facts) (s : Statement) → View s → AreFirstShapes shapes f.matrices → AreCounted above f → AreSound shapes f → AllStand above → IsLawful above s → Rules f s → is_unanswered handed s ≡ false → ArePaired handed → AreSound shapes (after (look_above handed) f s)
by_view shapes handed above f s (as_promise name len temp) first c sound stand h r answered paired = subst (AreSound shapes) (sym (after_promise (look_above handed) f name len temp)) (promise_line shapes above f name len temp sound h r)
by_view shapes handed above f s (as_matrix name rows cols) first c sound stand h r answered paired = subst (AreSound shapes) (sym (after_matrix (look_above handed) f name rows cols)) (matrix_line shapes above f name rows cols c sound h r)
by_view shapes handed above f s (as_row columns values) first c sound stand h r answered paired = subst (AreSound shapes) (sym (after_row (look_above handed) f columns values)) (sound_row shapes f _ sound)
by_view shapes handed above f s (as_task name scheme awaits) first c sound stand h r answered paired = subst (AreSound shapes) (sym (after_task handed f name scheme awaits)) (task_line shapes above f name scheme awaits c sound h r)
by_view shapes handed above f s (as_finish name) first c sound stand h r answered paired = subst (AreSound shapes) (sym (after_finish (look_above handed) f name)) (finish_line shapes above f name c sound h r)
by_view shapes handed above f s (as_group name awaits) first c sound stand h r answered paired = subst (AreSound shapes) (sym (after_group handed f name awaits)) (group_line shapes above f name awaits c sound h r)
by_view shapes handed above f s as_end first c sound stand h r answered paired = end_line shapes handed above f (closed (open_blocks above) f.blocks _ _ c.blocks h.limited) c sound stand r
by_view shapes handed above f s (as_let t x is) first c sound stand h r answered paired = subst (AreSound shapes) (sym (after_let (look_above handed) f t x is.made)) (let_line shapes above f t x first sound is h r)
by_view shapes handed above f s (as_put promise x when) first c sound stand h r answered paired = subst (AreSound shapes) (sym (after_put (look_above handed) f (text.Put promise x when) promise (puts promise x when))) (put_line shapes f promise x when c.counted sound r)
by_view shapes handed above f s (as_drop promise) first c sound stand h r answered paired = subst (AreSound shapes) (sym (after_drop (look_above handed) f promise)) (drop_line shapes f promise sound r)
by_view shapes handed above f s (as_check t q is) first c sound stand h r answered paired = subst (AreSound shapes) (sym (after_check (look_above handed) f s q is.checked)) (check_line shapes handed above f s q paired first sound is h r answered)

-- The shapes are those of the whole plan: they begin with those of the matrices above.
pub sound_next : (shapes more : List Shape) (handed : HandedChecks) → ArePaired handed → (above : List Statement) (f : Facts) (s : Statement) → shapes ≡ shapes_named f.matrices ++ more → AreCounted above f → AreSound shapes f → AllStand above → IsLawful above s → reason_in (look_above handed) f s ≡ None → AreSound shapes (after (look_above handed) f s)
sound_next shapes more handed paired above f s whole c sound stand h kept =
    let k = keeps (look_above handed) f s kept in
    by_view shapes handed above f s (view s) (record { more = more; whole = whole; rows = sound.matrices }) c sound stand h (rules handed f s k) k.answered paired
