-- The promises that a node puts, does not put, and gives up references of.
use Rattle.std.specs.Prelude.{ℕ, ◌≡◌, ◌++◌, ◌&&◌, List, Bool, not}
use Rattle.std.specs.List.{filter}
use Rattle.rh_rules.specs.Tables.{is_in}
use Rattle.rh_rules.specs.declared.node.Node.{Node}
use Rattle.rh_plan.specs.Judging.{NodeResult}
use Rattle.rh_journal.specs.Own.{drops_by, puts_by, voids_by, released_by}
use Rattle.rh_plain.specs.NodeLists.{NodeLists}

-- the lists of a node with this result
pub record HasLists (has : ℕ → Bool) (node : Node) (r : NodeResult) (lists : NodeLists) : Type 0 where
  pub puts : lists.puts ≡ puts_by node r
  pub voids : lists.voids ≡ voids_by node r
  pub released : lists.released ≡ released_by has node r

-- the awaited promises of which a node with this result gives up a reference: those that its accepted buffer drops, and its others that have words
abbrev pub awaits_released : (ℕ → Bool) → Node → NodeResult → List ℕ
awaits_released has node r = drops_by r.accepted ++ filter (λ q. not (is_in q (drops_by r.accepted)) && has q) node.awaits
