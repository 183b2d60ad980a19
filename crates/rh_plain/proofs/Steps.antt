-- From one node to the next.
use Rattle.std.proofs.Common.{◌≡◌, ℕ, suc, ◌+◌, ◌<◌, ◌==◌, ◌||◌, ◌&&◌, List, [], ◌∷◌, ◌++◌, Bool, true, not, Option, Some, None, length, map, refl, arith, ap, sym, ◌∙◌, subst, inl, inr, eqb-true, eq-eqb, append_assoc}
use Rattle.std.proofs.lemmas.Bool.{cases_Bool, false≢true}
use Rattle.std.proofs.lemmas.List.{map-append}
use Rattle.std.proofs.lemmas.Option.{slice_get_within}
use Rattle.std.specs.List.{AllByRecursion, slice_get}
use Rattle.std.specs.Option.{IsSomeAnd, is_some}
use Rattle.rh_injector.specs.declared.faults.Strike.{Strike}
use Rattle.rh_rules.specs.declared.node.Node.{Node}
use Rattle.rh_rules.specs.Lawful.{putter_of}
use Rattle.rh_rules.specs.Tables.{is_in}
use Rattle.rh_plan.specs.declared.made_put.MadePut.{MadePut}
use Rattle.rh_plan.specs.declared.outcome.Trial.{Trial}
use Rattle.rh_plan.specs.declared.outcome.Verdict.{Verdict}
use Rattle.rh_plan.specs.Plans.{PlanData}
use Rattle.rh_plan.specs.Lawful.{IsLawfulPlan}
use Rattle.rh_plan.specs.Buffers.{words_put}
use Rattle.rh_plan.specs.Judging.{NodeResult}
use Rattle.rh_plan.specs.Results.{results, result_of_node, value_in}
use Rattle.rh_plan.proofs.Lists.{filter_agree_on}
use Rattle.rh_plan.proofs.Rows.{results_next, value_there}
use Rattle.rh_plan.proofs.Sources.{node_there}
use Rattle.rh_plan.proofs.Tried.{few_trials}
use Rattle.rh_journal.specs.declared.event.Event.{Event}
use Rattle.rh_journal.specs.declared.event.Event.TheVariants.{Claim, Put, Void, Release, Decide}
use Rattle.rh_journal.specs.Events.{is_release}
use Rattle.rh_journal.specs.Own.{run_of, attempts_from, put_attempt, puts_by, voids_by, drops_by, released_by, node_events, has_value, own_events}
use Rattle.rh_journal.specs.OneThread.{events_below}
use Rattle.rh_journal.proofs.Counts.{count-append}
use Rattle.rh_journal.proofs.Owned.{row, own_there, putter_known, released_known}
use Rattle.rh_journal.proofs.References.{references_are_left}
use Rattle.rh_journal.proofs.Whole.{events_below-suc}
use Rattle.rh_schemes.specs.declared.result.NodeResult as code
use Rattle.rh_schemes.specs.Judges.{result_data}
use Rattle.rh_plain.specs.Values.{words_at, has_words, kept_or, AreGiven}
use Rattle.rh_plain.specs.Drawing.{Drawn, HasDrawn, Draws, listed_events}
use Rattle.rh_plain.specs.Holding.{HoldsWords, KeepsWords}
use Rattle.rh_plain.specs.Listing.{HasLists}
use Rattle.rh_plain.specs.NodeLists.{NodeLists}
use Rattle.rh_plain.specs.declared.progress.Ending.{Ending}
use Rattle.rh_plain.specs.Recording.{IsEndingOf, FitsPlan, HasTold}
use Rattle.rh_plain.specs.Runs.{Progress, progress, AnswersNode, HasAwaited, IsBefore, IsSoFar, made_by}
use Rattle.rh_plain.proofs.NextNode.{next_value}
use Rattle.rh_plain.proofs.OwnPuts.{own_known, puts_own}

-- promises with references left have their words when a node's puts are given
pub held_given : (plan : PlanData) (faults : List Strike) (v : ℕ) (node : Node) (r : NodeResult) (seen : List Event) (values new : List (Option (List ℕ))) → IsLawfulPlan plan → slice_get plan.nodes v ≡ Some node → r ≡ result_of_node plan faults (results plan faults v) v node
    → HoldsWords plan (results plan faults v) seen values → AreGiven (λ q. words_put q (made_by node.puts r.verdict r.accepted)) values new → HoldsWords plan (results plan faults (v + 1)) seen new
held_given plan faults v node r seen values new lawful at is held given = record {
  size = given.count ∙ held.size;
  each = λ q below left.
      given.words q
      ∙ ap (λ (o : Option (List ℕ)). kept_or o (words_put q (made_by node.puts r.verdict r.accepted))) (held.each q below left)
      ∙ next_value plan faults v q node r lawful at is;
}

-- later events leave fewer references
pub held_later : (plan : PlanData) (rs : List NodeResult) (seen xs : List Event) (values : List (Option (List ℕ))) → HoldsWords plan rs seen values → HoldsWords plan rs (seen ++ xs) values
held_later plan rs seen xs values held = record {
  size = held.size;
  each = λ q below left. let more = count-append (is_release q) seen xs in held.each q below (omega arith);
}

-- what holds of each number among a list holds of all of it
all_among : (P : ℕ → Type 0) (xs : List ℕ) → ((q : ℕ) → is_in q xs ≡ true → P q) → AllByRecursion P xs
all_among P [] each = tt
all_among P (x ∷ xs) each = (
  each x (ap (λ (b : Bool). b || is_in x xs) (eq-eqb x x refl)),
  all_among P xs (λ q among. each q (later q x (is_in q xs) among)),
)
  where
    later : (q x : ℕ) (b : Bool) → b ≡ true → ((x == q) || b) ≡ true
    later q x b is = elim (cases_Bool (x == q)) [
      | inl yes1 ↦ ap (λ (c : Bool). c || b) yes1
      | inr no1 ↦ ap (λ (c : Bool). c || b) no1 ∙ is
    ]

-- an awaited promise is there, with a lower putter
awaited_by : (plan : PlanData) (v : ℕ) (awaits : List ℕ) (q : ℕ) → AllByRecursion (λ p. IsSomeAnd (putter_of plan.promises p) (λ u. u < v)) awaits → is_in q awaits ≡ true → (u : ℕ) × (putter_of plan.promises q ≡ Some u) × (u < v)
awaited_by plan v [] q all among = absurd (false≢true among)
awaited_by plan v (p ∷ awaits) q all among = elim (cases_Bool (p == q)) [
  | inl yes1 ↦ subst (λ (k : ℕ). (u : ℕ) × (putter_of plan.promises k ≡ Some u) × (u < v)) (eqb-true p q yes1) (by (putter_of plan.promises p) refl all.0)
  | inr no1 ↦ awaited_by plan v awaits q all.1 (ap (λ (b : Bool). b || is_in q awaits) (sym no1) ∙ among)
]
  where
    by : (o : Option ℕ) → putter_of plan.promises p ≡ o → IsSomeAnd o (λ u. u < v) → (u : ℕ) × (putter_of plan.promises p ≡ Some u) × (u < v)
    by None is below = absurd below
    by (Some u) is below = (u, is, below)

-- the words that a node awaits are there
pub awaited_there : (plan : PlanData) (faults : List Strike) (v : ℕ) (values : List (Option (List ℕ))) → IsLawfulPlan plan → HoldsWords plan (results plan faults v) (events_below (run_of plan faults) v) values → HasAwaited plan faults v values
awaited_there plan faults v values lawful held node at =
    all_among (λ q. words_at values q ≡ value_in plan (results plan faults v) q) node.awaits
    (λ q among.
    let (u, by, below) = awaited_by plan v node.awaits q (lawful.parts.nodes v node at).awaited among in
    held.each q (putter_known plan q u by) ((references_are_left (run_of plan faults) lawful q).awaited v node at among))

pub before_node : (plan : PlanData) (faults : List Strike) (v : ℕ) (p : Progress) (verdicts : List Verdict) (values : List (Option (List ℕ))) → IsLawfulPlan plan → IsSoFar plan faults v p → verdicts ≡ p.verdicts → values ≡ p.values → IsBefore plan faults v verdicts values
before_node plan faults v p verdicts values lawful so_far verdicts_are values_are = record {
  ended = verdicts_are ∙ so_far.ended;
  awaited = awaited_there plan faults v values lawful (subst (HoldsWords plan (results plan faults v) (events_below (run_of plan faults) v)) (sym values_are) so_far.held);
}

-- a node's own events by the words that are there
own_so_far : (plan : PlanData) (faults : List Strike) (v : ℕ) (node : Node) (values : List (Option (List ℕ))) → IsLawfulPlan plan → HasAwaited plan faults v values → slice_get plan.nodes v ≡ Some node
    → node_events (has_words values) v node (row (run_of plan faults) v node) ≡ own_events (run_of plan faults) v
own_so_far plan faults v node values lawful there at =
    let r : NodeResult = row (run_of plan faults) v node in
    let drops : List ℕ = drops_by r.accepted in
    let within = slice_get_within plan.nodes v node at in
    let same : AllByRecursion (λ q. (not (is_in q drops) && has_words values q) ≡ (not (is_in q drops) && has_value (run_of plan faults) q)) node.awaits =
    all_among (λ q. (not (is_in q drops) && has_words values q) ≡ (not (is_in q drops) && has_value (run_of plan faults) q)) node.awaits
    (λ q among. ap (λ (b : Bool). not (is_in q drops) && b) (valued q within among)) in
    let agree = filter_agree_on (λ q. not (is_in q drops) && has_words values q) (λ q. not (is_in q drops) && has_value (run_of plan faults) q) node.awaits same in
    ap (λ (l : List ℕ). Claim v ∷ (attempts_from v 0 r.trials ++ (map (λ q. Put q (put_attempt r.verdict)) (puts_by node r) ++ (map Void (voids_by node r) ++ (map (λ q. Release q (Some v)) (drops ++ (l ++ puts_by node r)) ++ Decide v r.verdict ∷ []))))) agree
    ∙ sym (own_there (run_of plan faults) v node at)
  where
    of_all : (P : ℕ → Type 0) (xs : List ℕ) (q : ℕ) → AllByRecursion P xs → is_in q xs ≡ true → P q
    of_all P [] q all among = absurd (false≢true among)
    of_all P (x ∷ xs) q all among = elim (cases_Bool (x == q)) [
      | inl yes1 ↦ subst P (eqb-true x q yes1) all.0
      | inr no1 ↦ of_all P xs q all.1 (ap (λ (b : Bool). b || is_in q xs) (sym no1) ∙ among)
    ]

    valued : (q : ℕ) → v < length plan.nodes → is_in q node.awaits ≡ true → has_words values q ≡ has_value (run_of plan faults) q
    valued q within among =
        let (u, by, below) = awaited_by plan v node.awaits q (lawful.parts.nodes v node at).awaited among in
        let (other, is) = node_there plan u (omega arith) in
        ap (λ (o : Option (List ℕ)). is_some o)
        (of_all (λ p. words_at values p ≡ value_in plan (results plan faults v) p) node.awaits q (there node at) among
        ∙ value_there plan faults v q u other by is below ∙ sym (value_there plan faults (length plan.nodes) q u other by is (omega arith)))

-- the events of a node by its lists
cut_events : (v : ℕ) (has : ℕ → Bool) (node : Node) (r : NodeResult) → listed_events v r.verdict r.trials (puts_by node r) (voids_by node r) (released_by has node r) ≡ node_events has v node r
cut_events v has node r =
    let tries : List Event = attempts_from v 0 r.trials in
    let puts : List Event = map (λ q. Put q (put_attempt r.verdict)) (puts_by node r) in
    let voids : List Event = map Void (voids_by node r) in
    let rest : List Event = map (λ q. Release q (Some v)) (released_by has node r) ++ Decide v r.verdict ∷ [] in
    ap (λ (l : List Event). Claim v ∷ l) (append_assoc tries (puts ++ voids) rest ∙ ap (λ (l : List Event). tries ++ l) (append_assoc puts voids rest))

-- one more node has ended
recorded : (plan : PlanData) (faults : List Strike) (v : ℕ) (node : Node) (r : NodeResult) (old : Progress) (lists : NodeLists) (puts : List MadePut) (new : Drawn) (given kept : List (Option (List ℕ))) (verdicts : List Verdict)
    → IsLawfulPlan plan → slice_get plan.nodes v ≡ Some node → r ≡ row (run_of plan faults) v node → IsSoFar plan faults v old
    → HasLists (has_words old.values) node r lists → puts ≡ made_by node.puts r.verdict r.accepted → AreGiven (λ q. words_put q puts) old.values given
    → Draws plan old.drawn new (listed_events v r.verdict r.trials lists.puts lists.voids lists.released) → KeepsWords plan old.drawn given kept (listed_events v r.verdict r.trials lists.puts lists.voids lists.released)
    → verdicts ≡ old.verdicts ++ r.verdict ∷ []
    → IsSoFar plan faults (v + 1) (progress verdicts kept new)
recorded plan faults v node r old lists puts new given kept verdicts lawful at is so_far has puts_are gives draws keeps ends = record {
  ended = ends ∙ ap (λ (l : List Verdict). l ++ r.verdict ∷ []) so_far.ended ∙ sym (map-append (λ (x : NodeResult). x.verdict) rs (r ∷ [])) ∙ ap (map (λ (x : NodeResult). x.verdict)) more;
  drawn = subst (λ (l : List Event). HasDrawn plan l new) whole (draws seen so_far.drawn);
  held = subst (λ (l : List Event). HoldsWords plan (results plan faults (v + 1)) l kept) whole (keeps (results plan faults (v + 1)) seen so_far.drawn all_given);
}
  where
    rs : List NodeResult
    rs = results plan faults v

    seen : List Event
    seen = events_below (run_of plan faults) v

    next : v + 1 ≡ suc v
    next = omega arith

    more : rs ++ r ∷ [] ≡ results plan faults (v + 1)
    more = ap (λ (x : NodeResult). rs ++ x ∷ []) is ∙ sym (results_next plan faults v node at) ∙ ap (results plan faults) (sym next)

    all_given : HoldsWords plan (results plan faults (v + 1)) seen given
    all_given = held_given plan faults v node r seen old.values given lawful at is so_far.held (subst (λ (l : List MadePut). AreGiven (λ q. words_put q l) old.values given) puts_are gives)

    own : listed_events v r.verdict r.trials lists.puts lists.voids lists.released ≡ own_events (run_of plan faults) v
    own =
        ap (λ (l : List ℕ). listed_events v r.verdict r.trials l lists.voids lists.released) has.puts
        ∙ ap (λ (l : List ℕ). listed_events v r.verdict r.trials (puts_by node r) l lists.released) has.voids
        ∙ ap (λ (l : List ℕ). listed_events v r.verdict r.trials (puts_by node r) (voids_by node r) l) has.released
        ∙ cut_events v (has_words old.values) node r
        ∙ ap (node_events (has_words old.values) v node) is
        ∙ own_so_far plan faults v node old.values lawful (awaited_there plan faults v old.values lawful so_far.held) at

    whole : seen ++ listed_events v r.verdict r.trials lists.puts lists.voids lists.released ≡ events_below (run_of plan faults) (v + 1)
    whole = ap (λ (l : List Event). seen ++ l) own ∙ sym (events_below-suc (run_of plan faults) v) ∙ ap (events_below (run_of plan faults)) (sym next)

-- one more node has ended and is recorded
pub recorded_node : (plan : PlanData) (faults : List Strike) (v : ℕ) (ended : code.NodeResult) (old new : Progress) (ending : Ending) → IsLawfulPlan plan → v < length plan.nodes → AnswersNode plan faults v ended → IsSoFar plan faults v old
    → IsEndingOf plan v (has_words old.values) ended ending → HasTold plan v ending old new → IsSoFar plan faults (v + 1) new
recorded_node plan faults v ended old new ending lawful within answers so_far of told =
    let (node, at) = node_there plan v within in
    let told_there = λ (d : Verdict) (t : List Trial). listed_events v d t ending.lists.puts ending.lists.voids ending.lists.released in
    recorded plan faults v node (result_data ended) old ending.lists ending.puts.items new.drawn told.given new.values new.verdicts lawful at (answers node at) so_far (of.lists node at) (of.puts node at) told.gives
    (subst (λ (d : Verdict). Draws plan old.drawn new.drawn (told_there d ended.trials)) of.verdict (subst (λ (t : List Trial). Draws plan old.drawn new.drawn (told_there ending.verdict t)) of.trials told.drawn))
    (subst (λ (d : Verdict). KeepsWords plan old.drawn told.given new.values (told_there d ended.trials)) of.verdict (subst (λ (t : List Trial). KeepsWords plan old.drawn told.given new.values (told_there ending.verdict t)) of.trials told.kept))
    (told.verdicts ∙ ap (λ (d : Verdict). old.verdicts ++ d ∷ []) of.verdict)

-- a node's ending fits the plan
pub ending_fits : (plan : PlanData) (faults : List Strike) (v : ℕ) (ended : code.NodeResult) (has : ℕ → Bool) (ending : Ending) → IsLawfulPlan plan → v < length plan.nodes → AnswersNode plan faults v ended → IsEndingOf plan v has ended ending → FitsPlan plan ending
ending_fits plan faults v ended has ending lawful within answers of =
    let (node, at) = node_there plan v within in
    let few = few_trials plan lawful faults v node at in
    let same = ap (λ (r : NodeResult). length r.trials) (answers node at) in
    let long = ap (λ (l : List Trial). length l) of.trials in
    record {
      trials = omega arith;
      released = subst (AllByRecursion (λ (q : ℕ). q < length plan.promises)) (sym ((of.lists node at).released ∙ ap (released_by has node) (answers node at))) (released_known (run_of plan faults) lawful v node at has);
      puts = subst (AllByRecursion (λ (m : MadePut). m.promise < length plan.promises)) (sym (of.puts node at)) (own_known plan v (length plan.promises) (made_by node.puts ended.verdict ended.accepted) refl (puts_own plan faults v node lawful at (result_data ended) (answers node at)));
    }

-- what the calls tell of a node that ended
pub told_by : (plan : PlanData) (v : ℕ) (ending : Ending) (p : Progress) (ends : List Verdict) (values : List (Option (List ℕ))) (drawn : Drawn) (verdicts : List Verdict) (given kept : List (Option (List ℕ))) (new : Drawn) (trials : List Trial) → progress ends values drawn ≡ p → trials ≡ ending.trials
    → AreGiven (λ q. words_put q ending.puts.items) values given
    → Draws plan drawn new (listed_events v ending.verdict trials ending.lists.puts ending.lists.voids ending.lists.released) → KeepsWords plan drawn given kept (listed_events v ending.verdict trials ending.lists.puts ending.lists.voids ending.lists.released)
    → verdicts ≡ ends ++ ending.verdict ∷ [] → HasTold plan v ending p (progress verdicts kept new)
told_by plan v ending p ends values drawn verdicts given kept new trials is are gives draws keeps more = subst (λ (x : Progress). HasTold plan v ending x (progress verdicts kept new)) is (record {
  given = given;
  gives = gives;
  drawn = subst (λ (l : List Trial). Draws plan drawn new (listed_events v ending.verdict l ending.lists.puts ending.lists.voids ending.lists.released)) are draws;
  kept = subst (λ (l : List Trial). KeepsWords plan drawn given kept (listed_events v ending.verdict l ending.lists.puts ending.lists.voids ending.lists.released)) are keeps;
  verdicts = more;
})
