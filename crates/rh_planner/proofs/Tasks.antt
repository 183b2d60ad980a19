-- Why a line that opens a task or a group is refused.
use Rattle.std.proofs.Common.{◌≡◌, ℕ, List, Bool, true, false, ◌||◌, refl, not, Option, Some, None, cond, sym, ap, ◌∙◌}
use Rattle.std.specs.Prelude.{nat_le}
use Rattle.std.specs.List.{list_any}
use Rattle.rh_words.specs.declared.limits.TheConstants.{MAX_NODES}
use Rattle.std.proofs.lemmas.Option.{none-some}
use Rattle.rh_words.specs.declared.reason.Reason.{Reason}
use Rattle.rh_words.specs.declared.reason.Reason.TheVariants.{Twice, Unknown, Order, Scheme, PlanLimit}
use Rattle.rh_rules.specs.declared.node.PlannedPromise.{PlannedPromise}
use Rattle.rh_rules.specs.Tables.{is_among, is_promise, is_put}
use Rattle.rh_rules.specs.Rules.{are_distinct, is_bad_scheme}
use Rattle.rh_task_text.specs.declared.statement.Statement.TheVariants as text
use Rattle.rh_task_text.specs.declared.statement.SchemeText.{SchemeText}
use Rattle.rh_task_text.specs.declared.statement.SchemeText.TheVariants.{Plain}
use Rattle.rh_check.specs.Users.{HandedChecks}
use Rattle.rh_rules.specs.Facets.{facets}
use Rattle.rh_rules.specs.Above.{Facts}
use Rattle.rh_rules.specs.Rules.{reason_in}
use Rattle.rh_tables.specs.Making.{start_reason, await_reason, node_reason}
use Rattle.rh_planner.specs.Planned.{look_above}

or_false : (b : Bool) → (b || false) ≡ b
or_false true = refl
or_false false = refl

pub reason_task : (f : Facts) (handed : HandedChecks) (name : List ℕ) (scheme : SchemeText) (awaits : List (List ℕ)) → reason_in (look_above handed) f (text.Task name scheme awaits) ≡ start_reason f.names f.promises f.count name scheme awaits
unfolding facets
reason_task f handed name scheme awaits = simp or_false

pub reason_group : (f : Facts) (handed : HandedChecks) (name : List ℕ) (awaits : List (List ℕ)) → reason_in (look_above handed) f (text.Group name awaits) ≡ start_reason f.names f.promises f.count name Plain awaits
unfolding facets
reason_group f handed name awaits = simp or_false

-- what is awaited in vain refuses it
refused : (unknown early : Bool) (rest : Option Reason) (r : Reason) → cond unknown (Some Unknown) (cond early (Some Order) None) ≡ Some r → cond unknown (Some Unknown) (cond early (Some Order) rest) ≡ Some r
refused true early rest r e = e
refused false true rest r e = e
refused false false rest r e = absurd (none-some r e)

passed : (unknown early : Bool) (rest : Option Reason) → cond unknown (Some Unknown) (cond early (Some Order) None) ≡ None → cond unknown (Some Unknown) (cond early (Some Order) rest) ≡ rest
passed true early rest e = absurd (none-some Unknown (sym e))
passed false true rest e = absurd (none-some Order (sym e))
passed false false rest e = refl

pub start_refused : (names : List (List ℕ)) (promises : List PlannedPromise) (count : ℕ) (name : List ℕ) (scheme : SchemeText) (awaits : List (List ℕ)) (r : Reason) → is_among name names ≡ false → are_distinct awaits ≡ true → await_reason promises awaits ≡ Some r
    → start_reason names promises count name scheme awaits ≡ Some r
start_refused names promises count name scheme awaits r fresh distinct is = rw (fresh, distinct) (refused (list_any (λ q. not (is_promise promises q)) awaits) (list_any (λ q. not (is_put promises q)) awaits) _ r is)

-- and else the node itself
pub start_passed : (names : List (List ℕ)) (promises : List PlannedPromise) (count : ℕ) (name : List ℕ) (scheme : SchemeText) (awaits : List (List ℕ)) → is_among name names ≡ false → are_distinct awaits ≡ true → await_reason promises awaits ≡ None
    → start_reason names promises count name scheme awaits ≡ node_reason count scheme
start_passed names promises count name scheme awaits fresh distinct is = rw (fresh, distinct) (passed (list_any (λ q. not (is_promise promises q)) awaits) (list_any (λ q. not (is_put promises q)) awaits) _ is)

-- what is started awaits promises alone, and has a scheme that a task may have
none_of : (twice unknown early bad full : Bool) → cond twice (Some Twice) (cond unknown (Some Unknown) (cond early (Some Order) (cond bad (Some Scheme) (cond full (Some PlanLimit) None)))) ≡ None → (unknown ≡ false) × (bad ≡ false)
none_of true unknown early bad full e = absurd (none-some Twice (sym e))
none_of false true early bad full e = absurd (none-some Unknown (sym e))
none_of false false true bad full e = absurd (none-some Order (sym e))
none_of false false false true full e = absurd (none-some Scheme (sym e))
none_of false false false false full e = (refl, refl)

pub started : (names : List (List ℕ)) (promises : List PlannedPromise) (count : ℕ) (name : List ℕ) (scheme : SchemeText) (awaits : List (List ℕ)) → start_reason names promises count name scheme awaits ≡ None
    → (list_any (λ q. not (is_promise promises q)) awaits ≡ false) × (is_bad_scheme scheme ≡ false)
started names promises count name scheme awaits is = none_of (is_among name names || not (are_distinct awaits)) (list_any (λ q. not (is_promise promises q)) awaits) (list_any (λ q. not (is_put promises q)) awaits) (is_bad_scheme scheme) (nat_le MAX_NODES count) is

-- by what is counted and named
pub task_judged : (f : Facts) (handed : HandedChecks) (name : List ℕ) (scheme : SchemeText) (awaits names : List (List ℕ)) (count : ℕ) (answer : Option Reason) → count ≡ f.count → names ≡ awaits → answer ≡ start_reason f.names f.promises count name scheme names
    → answer ≡ reason_in (look_above handed) f (text.Task name scheme awaits)
task_judged f handed name scheme awaits names count answer counted named is =
    is
    ∙ ap (λ (n : ℕ). start_reason f.names f.promises n name scheme names) counted
    ∙ ap (λ (l : List (List ℕ)). start_reason f.names f.promises f.count name scheme l) named
    ∙ sym (reason_task f handed name scheme awaits)

pub group_judged : (f : Facts) (handed : HandedChecks) (name : List ℕ) (awaits names : List (List ℕ)) (count : ℕ) (answer : Option Reason) → count ≡ f.count → names ≡ awaits → answer ≡ start_reason f.names f.promises count name Plain names
    → answer ≡ reason_in (look_above handed) f (text.Group name awaits)
group_judged f handed name awaits names count answer counted named is =
    is
    ∙ ap (λ (n : ℕ). start_reason f.names f.promises n name Plain names) counted
    ∙ ap (λ (l : List (List ℕ)). start_reason f.names f.promises f.count name Plain l) named
    ∙ sym (reason_group f handed name awaits)
