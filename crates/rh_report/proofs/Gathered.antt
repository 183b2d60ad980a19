-- What is gathered from the events of a journal.
use Rattle.std.proofs.Common.{◌≡◌, ℕ, zero, suc, ◌+◌, ◌<◌, ◌==◌, ◌||◌, min, List, [], ◌∷◌, ◌++◌, Bool, true, false, cond, Option, Some, None, length, map, get_or, slice_set, take, replicate, refl, arith, ap, sym, ◌∙◌, inl, inr, subst, eqb-true, eq-eqb, append-nil}
use Rattle.std.proofs.lemmas.Bool.{cases_Bool, cond-true, cond-false, false≢true}
use Rattle.std.proofs.lemmas.List.{get_or-set_same, get_or-set_other, get_or-replicate, length-set, map-append, ext_get_or, take_more}
use Rattle.std.proofs.lemmas.List.Elements.{filter_map-append}
use Rattle.std.proofs.lemmas.List.FromFn.{get_or-map-range_with_len, length-map-range_with_len}
use Rattle.std.proofs.lemmas.Option.{same_Some, slice_get-get_or, slice_get_within, slice_get-map}
use Rattle.std.specs.List.{filter, filter_map, cons_option, find, range_with_len, slice_get}
use Rattle.std.specs.Option.{IsSomeAnd, is_some, option_and_then, option_map}
use Rattle.rh_injector.specs.declared.faults.Strike.{Strike}
use Rattle.rh_rules.specs.declared.node.Node.{Node}
use Rattle.rh_rules.specs.Lawful.{putter_of, IsAmong}
use Rattle.rh_rules.specs.Tables.{is_in}
use Rattle.rh_plan.specs.declared.made_put.MadePut.{MadePut}
use Rattle.rh_plan.specs.declared.outcome.Trial.{Trial}
use Rattle.rh_plan.specs.declared.outcome.Verdict.{Verdict}
use Rattle.rh_plan.specs.declared.outcome.Verdict.TheVariants.{Accepted, Corrected, Failed, Skipped, Opened, Closed, Ended}
use Rattle.rh_plan.specs.Plans.{PlanData}
use Rattle.rh_plan.specs.Lawful.{IsLawfulPlan}
use Rattle.rh_plan.specs.Buffers.{BufferData, words_put}
use Rattle.rh_plan.specs.Judging.{NodeResult}
use Rattle.rh_plan.specs.Results.{results, all_results, result_of_node, value_by, value_put}
use Rattle.rh_plan.proofs.Rows.{length-results, result_there}
use Rattle.rh_plan.proofs.Sources.{node_there}
use Rattle.rh_journal.specs.declared.event.Event.{Event}
use Rattle.rh_journal.specs.declared.event.Event.TheVariants.{Attempt, Put, Decide}
use Rattle.rh_journal.specs.declared.event.Entry.{Entry}
use Rattle.rh_journal.specs.Events.{events}
use Rattle.rh_journal.specs.Own.{run_of, promises_of, put_by, puts_by, put_attempt}
use Rattle.rh_journal.specs.Tells.{Tells}
use Rattle.rh_journal.specs.Told.{verdict_told, trial_told, put_told, TellsResults}
use Rattle.rh_journal.proofs.Told.{telling_journals_tell_results}
use Rattle.rh_report.specs.Tables.{TableData, table_data, put_by_result, put_in, tables_of}
use Rattle.rh_report.specs.Reports.{report_text, text_of}
use Rattle.rh_report.specs.Gathering.{last_or, told_or, put_or, HasGathered, HasTold}

-- the last of a list with what comes behind it
last_more : {X : Type 0} (d : X) (xs : List X) (o : Option X) → last_or d (xs ++ cons_option o []) ≡ told_or (last_or d xs) o
last_more d [] None = refl
last_more d [] (Some x) = refl
last_more d (y ∷ xs) o = last_more y xs o

last_put : (d : Option ℕ) (xs : List ℕ) (o : Option ℕ) → last_or d (map Some (xs ++ cons_option o [])) ≡ put_or (last_or d (map Some xs)) o
last_put d [] None = refl
last_put d [] (Some k) = refl
last_put d (y ∷ xs) o = last_put (Some y) xs o

-- nothing is told at first
pub gathered_none : (n m : ℕ) (t : TableData) → t.verdicts ≡ replicate n Failed → t.trials ≡ replicate n [] → t.puts ≡ replicate m None → HasGathered n m [] t
gathered_none n m t verdicts trials puts = record {
  nodes = (ap (λ (l : List Verdict). length l) verdicts ∙ long n Failed, ap (λ (l : List (List Trial)). length l) trials ∙ long n []);
  promises = ap (λ (l : List (Option ℕ)). length l) puts ∙ long m None;
  verdicts = λ v below. ap (λ (l : List Verdict). get_or l v Failed) verdicts ∙ get_or-replicate n v Failed Failed below;
  trials = λ v below. ap (λ (l : List (List Trial)). get_or l v []) trials ∙ get_or-replicate n v [] [] below;
  puts = λ q below. ap (λ (l : List (Option ℕ)). get_or l q None) puts ∙ get_or-replicate m q None None below;
}
  where
    long : {X : Type 0} (n : ℕ) (x : X) → length (replicate n x) ≡ n
    long zero x = refl
    long (suc n) x = ap suc (long n x)

-- one event more
pub gathered_more : (n m : ℕ) (xs : List Event) (x : Event) (old new : TableData) → HasGathered n m xs old → HasTold x old new → HasGathered n m (xs ++ x ∷ []) new
gathered_more n m xs x old new has told = record {
  nodes = (told.nodes.0 ∙ has.nodes.0, told.nodes.1 ∙ has.nodes.1);
  promises = told.promises ∙ has.promises;
  verdicts = λ v below.
      let size = has.nodes.0 in
      told.verdicts v (omega arith)
      ∙ ap (λ (d : Verdict). told_or d (verdict_told v x)) (has.verdicts v below)
      ∙ sym (last_more Failed (filter_map (verdict_told v) xs) (verdict_told v x))
      ∙ ap (λ (l : List Verdict). last_or Failed l) (sym (filter_map-append (verdict_told v) xs (x ∷ [])));
  trials = λ v below.
      let size = has.nodes.1 in
      told.trials v (omega arith)
      ∙ ap (λ (l : List Trial). l ++ cons_option (trial_told v x) []) (has.trials v below)
      ∙ sym (filter_map-append (trial_told v) xs (x ∷ []));
  puts = λ q below.
      let size = has.promises in
      told.puts q (omega arith)
      ∙ ap (λ (d : Option ℕ). put_or d (put_told q x)) (has.puts q below)
      ∙ sym (last_put None (filter_map (put_told q) xs) (put_told q x))
      ∙ ap (λ (l : List ℕ). last_or None (map Some l)) (sym (filter_map-append (put_told q) xs (x ∷ [])));
}

-- a table with one entry set, read
set_read : {X : Type 0} (xs : List X) (i j : ℕ) (x d : X) → j < length xs → get_or (slice_set xs i x) j d ≡ cond (i == j) x (get_or xs j d)
set_read {X = X} xs i j x d within = elim (cases_Bool (i == j)) [
  | inl same ↦
      let e = eqb-true i j same in
      subst (λ (k : ℕ). get_or (slice_set xs i x) k d ≡ x) e (get_or-set_same xs i x d (omega arith)) ∙ sym (cond-true (i == j) x (get_or xs j d) same)
  | inr other ↦
      get_or-set_other xs i j x d (λ e. false≢true (sym other ∙ eq-eqb i j (sym e))) ∙ sym (cond-false (i == j) x (get_or xs j d) other)
]

told_cond : {X : Type 0} (b : Bool) (x d : X) → cond b x d ≡ told_or d (cond b (Some x) None)
told_cond true x d = refl
told_cond false x d = refl

put_cond : (b : Bool) (k : ℕ) (d : Option ℕ) → cond b (Some k) d ≡ put_or d (cond b (Some k) None)
put_cond true k d = refl
put_cond false k d = refl

trial_cond : (b : Bool) (t : Trial) (l m : List Trial) → (b ≡ true → l ≡ m) → cond b (l ++ t ∷ []) m ≡ m ++ cons_option (cond b (Some t) None) []
trial_cond true t l m same = ap (λ (x : List Trial). x ++ t ∷ []) (same refl)
trial_cond false t l m same = sym (append-nil m)

-- an event that tells nothing
pub told_none : (x : Event) (t : TableData) → ((v : ℕ) → verdict_told v x ≡ None) → ((v : ℕ) → trial_told v x ≡ None) → ((q : ℕ) → put_told q x ≡ None) → HasTold x t t
told_none x t verdicts trials puts = record {
  nodes = (refl, refl);
  promises = refl;
  verdicts = λ v below. ap (told_or (get_or t.verdicts v Failed)) (sym (verdicts v));
  trials = λ v below. sym (append-nil (get_or t.trials v [])) ∙ ap (λ (o : Option Trial). get_or t.trials v [] ++ cons_option o []) (sym (trials v));
  puts = λ q below. ap (put_or (get_or t.puts q None)) (sym (puts q));
}

pub told_decide : (v : ℕ) (d : Verdict) (t new : TableData) (verdicts : List Verdict) → verdicts ≡ slice_set t.verdicts v d → new ≡ table_data verdicts t.trials t.puts → HasTold (Decide v d) t new
told_decide v d t new verdicts is new_is = subst (HasTold (Decide v d) t) (sym new_is) (record {
  nodes = (ap (λ (l : List Verdict). length l) is ∙ length-set t.verdicts v d, refl);
  promises = refl;
  verdicts = λ w below. ap (λ (l : List Verdict). get_or l w Failed) is ∙ set_read t.verdicts v w d Failed below ∙ told_cond (v == w) d (get_or t.verdicts w Failed);
  trials = λ w below. sym (append-nil (get_or t.trials w []));
  puts = λ q below. refl;
})

pub told_attempt : (v k : ℕ) (trial : Trial) (t new : TableData) (trials : List (List Trial)) → trials ≡ slice_set t.trials v (get_or t.trials v [] ++ trial ∷ []) → new ≡ table_data t.verdicts trials t.puts → HasTold (Attempt v k trial) t new
told_attempt v k trial t new trials is new_is = subst (HasTold (Attempt v k trial) t) (sym new_is) (record {
  nodes = (refl, ap (λ (l : List (List Trial)). length l) is ∙ length-set t.trials v (get_or t.trials v [] ++ trial ∷ []));
  promises = refl;
  verdicts = λ w below. refl;
  trials = λ w below.
      ap (λ (l : List (List Trial)). get_or l w []) is
      ∙ set_read t.trials v w (get_or t.trials v [] ++ trial ∷ []) [] below
      ∙ trial_cond (v == w) trial (get_or t.trials v []) (get_or t.trials w []) (λ same. ap (λ (k : ℕ). get_or t.trials k []) (eqb-true v w same));
  puts = λ q below. refl;
})

pub told_put : (p k : ℕ) (t new : TableData) (puts : List (Option ℕ)) → puts ≡ slice_set t.puts p (Some k) → new ≡ table_data t.verdicts t.trials puts → HasTold (Put p k) t new
told_put p k t new puts is new_is = subst (HasTold (Put p k) t) (sym new_is) (record {
  nodes = (refl, refl);
  promises = ap (λ (l : List (Option ℕ)). length l) is ∙ length-set t.puts p (Some k);
  verdicts = λ w below. refl;
  trials = λ w below. sym (append-nil (get_or t.trials w []));
  puts = λ q below. ap (λ (l : List (Option ℕ)). get_or l q None) is ∙ set_read t.puts p q (Some k) None below ∙ put_cond (p == q) k (get_or t.puts q None);
})

-- what is put is there

find_put : (q : ℕ) (puts : List MadePut) → is_in q (map (λ (m : MadePut). m.promise) puts) ≡ is_some (words_put q puts)
find_put q [] = refl
find_put q (m ∷ puts) = elim (cases_Bool (m.promise == q)) [
  | inl here ↦
      ap (λ (b : Bool). b || is_in q (map (λ (x : MadePut). x.promise) puts)) here
      ∙ sym (ap (λ (o : Option MadePut). is_some (option_map (λ (x : MadePut). x.words) o)) (cond-true (m.promise == q) (Some m) (find (λ (x : MadePut). x.promise == q) puts) here))
  | inr other ↦
      ap (λ (b : Bool). b || is_in q (map (λ (x : MadePut). x.promise) puts)) other
      ∙ find_put q puts
      ∙ sym (ap (λ (o : Option MadePut). is_some (option_map (λ (x : MadePut). x.words) o)) (cond-false (m.promise == q) (Some m) (find (λ (x : MadePut). x.promise == q) puts) other))
]

find_in : (q : ℕ) (o : Option BufferData) → is_in q (promises_of o) ≡ is_some (option_and_then (λ b. words_put q b.puts) o)
find_in q None = refl
find_in q (Some b) = find_put q b.puts

-- a node puts a promise of its own exactly where its result gives it words
put_where_valued : (q : ℕ) (node : Node) (o : Option BufferData) (d : Verdict) → IsAmong node.puts q → is_in q (put_by node o d) ≡ is_some (value_put q o d)
put_where_valued q node o (Accepted k) own = find_in q o
put_where_valued q node o (Corrected i) own = find_in q o
put_where_valued q node o Failed own = refl
put_where_valued q node o (Skipped c) own = refl
put_where_valued q node o Opened own = refl
put_where_valued q node o (Closed c) own = refl
put_where_valued q node o (Ended a f s) own = own

same_either : {X : Type 0} (b : Bool) (x : X) → cond b x x ≡ x
same_either true x = refl
same_either false x = refl

-- the last of the puts of a promise
last_same : (q k : ℕ) (d : Option ℕ) (ps : List ℕ) → last_or d (map Some (map (λ p. k) (filter (λ p. p == q) ps))) ≡ cond (is_in q ps) (Some k) d
last_same q k d [] = refl
last_same q k d (p ∷ ps) = elim (cases_Bool (p == q)) [
  | inl yes1 ↦
      ap (λ (l : List ℕ). last_or d (map Some (map (λ x. k) l))) (cond-true (p == q) (p ∷ filter (λ x. x == q) ps) (filter (λ x. x == q) ps) yes1)
      ∙ last_same q k (Some k) ps
      ∙ same_either (is_in q ps) (Some k)
      ∙ sym (ap (λ (b : Bool). cond (b || is_in q ps) (Some k) d) yes1)
  | inr no1 ↦
      ap (λ (l : List ℕ). last_or d (map Some (map (λ x. k) l))) (cond-false (p == q) (p ∷ filter (λ x. x == q) ps) (filter (λ x. x == q) ps) no1)
      ∙ last_same q k d ps
      ∙ sym (ap (λ (b : Bool). cond (b || is_in q ps) (Some k) d) no1)
]

some_put : (k : ℕ) (o : Option (List ℕ)) → cond (is_some o) (Some k) None ≡ option_map (λ words. k) o
some_put k None = refl
some_put k (Some w) = refl

last_is_put : (q : ℕ) (node : Node) (r : NodeResult) → IsAmong node.puts q → last_or None (map Some (map (λ p. put_attempt r.verdict) (filter (λ p. p == q) (puts_by node r)))) ≡ put_by_result q r
last_is_put q node r own =
    last_same q (put_attempt r.verdict) None (puts_by node r)
    ∙ ap (λ (b : Bool). cond b (Some (put_attempt r.verdict)) None) (put_where_valued q node r.accepted r.verdict own)
    ∙ some_put (put_attempt r.verdict) (value_by q r)

-- an element that is there, read by a default
read_there : {X : Type 0} (xs : List X) (i : ℕ) (x d : X) → i < length xs → slice_get xs i ≡ Some x → get_or xs i d ≡ x
read_there xs i x d within is = same_Some (get_or xs i d) x (sym (slice_get-get_or xs i d within) ∙ is)

long_results : (plan : PlanData) (faults : List Strike) → length (all_results plan faults) ≡ length plan.nodes
long_results plan faults = length-results plan faults (length plan.nodes) ∙ least (length plan.nodes)
  where
    least : (n : ℕ) → min n n ≡ n
    least n = omega arith

long_map : {X Y : Type 0} (f : X → Y) (xs : List X) → length (map f xs) ≡ length xs
long_map f [] = refl
long_map f (x ∷ xs) = ap suc (long_map f xs)

read_result : {Y : Type 0} (f : NodeResult → Y) (plan : PlanData) (faults : List Strike) (v : ℕ) (r : NodeResult) (d : Y) → v < length plan.nodes → slice_get (all_results plan faults) v ≡ Some r → get_or (map f (all_results plan faults)) v d ≡ f r
read_result {Y = Y} f plan faults v r d within there =
    let rs : List NodeResult = all_results plan faults in
    let long = long_results plan faults in
    let both = long_map f rs in
    read_there (map f rs) v (f r) d (omega arith) (slice_get-map f rs v ∙ ap (option_map f) there)

-- what the journal tells of the node v
node_result_there : (plan : PlanData) (faults : List Strike) (v : ℕ) → v < length plan.nodes → (node : Node) × (r : NodeResult) × (slice_get plan.nodes v ≡ Some node) × (slice_get (all_results plan faults) v ≡ Some r)
node_result_there plan faults v within =
    let (node, at) = node_there plan v within in
    (node, result_of_node plan faults (results plan faults v) v node, at, result_there plan faults (length plan.nodes) v node at within)

verdicts_whole : (plan : PlanData) (faults : List Strike) (j : List Entry) (t : TableData) → TellsResults (run_of plan faults) j → HasGathered (length plan.nodes) (length plan.promises) (events j) t → t.verdicts ≡ map (λ r. r.verdict) (all_results plan faults)
verdicts_whole plan faults j t tells has =
    ext_get_or Failed t.verdicts (map (λ (r : NodeResult). r.verdict) (all_results plan faults))
    (has.nodes.0 ∙ sym (long_map (λ (r : NodeResult). r.verdict) (all_results plan faults) ∙ long_results plan faults))
    (λ v below.
    let size = has.nodes.0 in
    let within : v < length plan.nodes = omega arith in
    let (node, r, at, there) = node_result_there plan faults v within in
    has.verdicts v within ∙ ap (λ (l : List Verdict). last_or Failed l) (tells.verdicts v node r at there) ∙ sym (read_result (λ (x : NodeResult). x.verdict) plan faults v r Failed within there))

trials_whole : (plan : PlanData) (faults : List Strike) (j : List Entry) (t : TableData) → TellsResults (run_of plan faults) j → HasGathered (length plan.nodes) (length plan.promises) (events j) t → t.trials ≡ map (λ r. r.trials) (all_results plan faults)
trials_whole plan faults j t tells has =
    ext_get_or [] t.trials (map (λ (r : NodeResult). r.trials) (all_results plan faults))
    (has.nodes.1 ∙ sym (long_map (λ (r : NodeResult). r.trials) (all_results plan faults) ∙ long_results plan faults))
    (λ v below.
    let size = has.nodes.1 in
    let within : v < length plan.nodes = omega arith in
    let (node, r, at, there) = node_result_there plan faults v within in
    has.trials v within ∙ tells.trials v node r at there ∙ sym (read_result (λ (x : NodeResult). x.trials) plan faults v r [] within there))

put_is : (plan : PlanData) (faults : List Strike) (j : List Entry) (q : ℕ) → IsLawfulPlan plan → TellsResults (run_of plan faults) j → (o : Option ℕ) → putter_of plan.promises q ≡ o
    → last_or None (map Some (filter_map (put_told q) (events j))) ≡ option_and_then (λ v. option_and_then (put_by_result q) (slice_get (all_results plan faults) v)) o
put_is plan faults j q lawful tells None by = ap (λ (l : List ℕ). last_or None (map Some l)) (tells.unput q by)
put_is plan faults j q lawful tells (Some v) by =
    let own = lawful.parts.put q v by in
    let (node, at, among) = some_node (slice_get plan.nodes v) refl own in
    let there = result_there plan faults (length plan.nodes) v node at (inside plan.nodes v node at) in
    let r : NodeResult = result_of_node plan faults (results plan faults v) v node in
    ap (λ (l : List ℕ). last_or None (map Some l)) (tells.puts q v node r by at there)
    ∙ last_is_put q node r among
    ∙ sym (ap (λ (o : Option NodeResult). option_and_then (put_by_result q) o) there)
  where
    some_node : (o : Option Node) → slice_get plan.nodes v ≡ o → IsSomeAnd o (λ node. IsAmong node.puts q) → (node : Node) × (slice_get plan.nodes v ≡ Some node) × IsAmong node.puts q
    some_node None is some1 = absurd some1
    some_node (Some node) is some1 = (node, is, some1)

    inside : (nodes : List Node) (v : ℕ) (node : Node) → slice_get nodes v ≡ Some node → v < length nodes
    inside nodes v node at = slice_get_within nodes v node at

puts_whole : (plan : PlanData) (faults : List Strike) (j : List Entry) (t : TableData) → IsLawfulPlan plan → TellsResults (run_of plan faults) j → HasGathered (length plan.nodes) (length plan.promises) (events j) t → t.puts ≡ map (put_in plan (all_results plan faults)) (range_with_len 0 (length plan.promises))
puts_whole plan faults j t lawful tells has =
    ext_get_or None t.puts (map (put_in plan (all_results plan faults)) (range_with_len 0 (length plan.promises)))
    (has.promises ∙ sym (length-map-range_with_len (put_in plan (all_results plan faults)) 0 (length plan.promises)))
    (λ q below.
    let size = has.promises in
    let within : q < length plan.promises = omega arith in
    has.puts q within
    ∙ put_is plan faults j q lawful tells (putter_of plan.promises q) refl
    ∙ sym (get_or-map-range_with_len (put_in plan (all_results plan faults)) 0 (length plan.promises) q q None within (omega arith)))

-- what a telling journal tells is what the results say
pub gathered_whole : (plan : PlanData) (faults : List Strike) (j : List Entry) (shown : List (ℕ × List ℕ)) (t : TableData) → IsLawfulPlan plan → Tells (run_of plan faults) j shown → HasGathered (length plan.nodes) (length plan.promises) (events j) t → t ≡ tables_of plan faults
gathered_whole plan faults j shown t lawful tells has =
    let results_told = telling_journals_tell_results (run_of plan faults) j shown tells in
    let rs : List NodeResult = all_results plan faults in
    ap (λ (l : List Verdict). table_data l t.trials t.puts) (verdicts_whole plan faults j t results_told has)
    ∙ ap (λ (l : List (List Trial)). table_data (map (λ (r : NodeResult). r.verdict) rs) l t.puts) (trials_whole plan faults j t results_told has)
    ∙ ap (λ (l : List (Option ℕ)). table_data (map (λ (r : NodeResult). r.verdict) rs) (map (λ (r : NodeResult). r.trials) rs) l) (puts_whole plan faults j t lawful results_told has)

-- one entry more
pub gathered_next : (n m i : ℕ) (entries : List Entry) (d : Entry) (old new : TableData) → i < length entries → HasGathered n m (events (take i entries)) old → HasTold (get_or entries i d).event old new → HasGathered n m (events (take (i + 1) entries)) new
gathered_next n m i entries d old new within has told =
    subst (λ (l : List Event). HasGathered n m l new)
    (sym (ap events (take_more entries i d within) ∙ map-append (λ (e : Entry). e.event) (take i entries) (get_or entries i d ∷ [])))
    (gathered_more n m (events (take i entries)) (get_or entries i d).event old new has told)

-- the text of what was gathered is the report
pub reported : (plan : PlanData) (faults : List Strike) (j entries : List Entry) (shown : List (ℕ × List ℕ)) (t : TableData) (before text : List ℕ) → IsLawfulPlan plan → Tells (run_of plan faults) j shown → entries ≡ j → HasGathered (length plan.nodes) (length plan.promises) (events entries) t → before ≡ [] → text ≡ before ++ text_of plan faults t shown → text ≡ report_text plan faults
unfolding report_text
reported plan faults j entries shown t before text lawful tells same has none is =
    let whole = gathered_whole plan faults j shown t lawful tells (subst (λ (l : List Entry). HasGathered (length plan.nodes) (length plan.promises) (events l) t) same has) in
    is
    ∙ ap (λ (l : List ℕ). l ++ text_of plan faults t shown) none
    ∙ ap (λ (x : TableData). text_of plan faults x shown) whole
    ∙ ap (text_of plan faults (tables_of plan faults)) tells.words
