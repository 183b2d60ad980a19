-- Events: whose they are, and how they are counted.
use Rattle.std.specs.Prelude.{ℕ, ◌||◌, List, Bool, true, false, Option, Some, None, is_some, map}
use Rattle.std.specs.List.{count_by, list_any}
use Rattle.rh_plan.specs.Plans.{PlanData}
use Rattle.rh_rules.specs.Lawful.{putter_of}
use Rattle.rh_plan.specs.Derived.{is_number}
use Rattle.rh_journal.specs.declared.event.Event.{Event}
use Rattle.rh_journal.specs.declared.event.Event.TheVariants.{Claim, Attempt, Put, Void, Release, Free, Decide}
use Rattle.rh_journal.specs.declared.event.Entry.{Entry}

-- The node of an event: the one that it names, or the putter of its promise. A free has none, and a release of the report has none.
abbrev pub node_of : PlanData → Event → Option ℕ
node_of plan (Claim v) = Some v
node_of plan (Attempt v k t) = Some v
node_of plan (Put q k) = putter_of plan.promises q
node_of plan (Void q) = putter_of plan.promises q
node_of plan (Release q by) = by
node_of plan (Free q) = None
node_of plan (Decide v d) = Some v

abbrev pub is_by : PlanData → ℕ → Event → Bool
is_by plan v x = is_number v (node_of plan x)

abbrev pub is_reports_own : Option ℕ → Bool
is_reports_own None = true
is_reports_own (Some v) = false

-- a release of the report
abbrev pub is_reports : Event → Bool
is_reports (Claim v) = false
is_reports (Attempt v k t) = false
is_reports (Put q k) = false
is_reports (Void q) = false
is_reports (Release q by) = is_reports_own by
is_reports (Free q) = false
is_reports (Decide v d) = false

-- the node that an event claims
abbrev pub claimed : Event → Option ℕ
claimed (Claim v) = Some v
claimed (Attempt v k t) = None
claimed (Put q k) = None
claimed (Void q) = None
claimed (Release q by) = None
claimed (Free q) = None
claimed (Decide v d) = None

-- the node that an event decides
abbrev pub decided : Event → Option ℕ
decided (Claim v) = None
decided (Attempt v k t) = None
decided (Put q k) = None
decided (Void q) = None
decided (Release q by) = None
decided (Free q) = None
decided (Decide v d) = Some v

-- the promise that an event puts
abbrev pub put : Event → Option ℕ
put (Claim v) = None
put (Attempt v k t) = None
put (Put q k) = Some q
put (Void q) = None
put (Release q by) = None
put (Free q) = None
put (Decide v d) = None

-- the promise of which an event gives up a reference
abbrev pub released : Event → Option ℕ
released (Claim v) = None
released (Attempt v k t) = None
released (Put q k) = None
released (Void q) = None
released (Release q by) = Some q
released (Free q) = None
released (Decide v d) = None

-- the promise that an event frees
abbrev pub freed : Event → Option ℕ
freed (Claim v) = None
freed (Attempt v k t) = None
freed (Put q k) = None
freed (Void q) = None
freed (Release q by) = None
freed (Free q) = Some q
freed (Decide v d) = None

abbrev pub is_claim : ℕ → Event → Bool
is_claim v x = is_number v (claimed x)

abbrev pub is_decide : ℕ → Event → Bool
is_decide v x = is_number v (decided x)

abbrev pub is_put : ℕ → Event → Bool
is_put q x = is_number q (put x)

abbrev pub is_release : ℕ → Event → Bool
is_release q x = is_number q (released x)

abbrev pub is_free : ℕ → Event → Bool
is_free q x = is_number q (freed x)

-- the event is of a node, of the report, or a free
abbrev pub is_someones : PlanData → Event → Bool
is_someones plan x = is_some (node_of plan x) || (is_reports x || is_some (freed x))

-- the events of a journal
abbrev pub events : List Entry → List Event
events j = map (λ e. e.event) j

-- how many events pass a test
abbrev pub times : (Event → Bool) → List Event → ℕ
times test xs = count_by test xs

-- the node is decided in these events
abbrev pub is_decided : List Event → ℕ → Bool
is_decided xs v = list_any (is_decide v) xs
