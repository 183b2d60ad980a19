-- How many blocks are open below lawful statements: scopes within their limit, and one task or matrix in them.
use Rattle.std.proofs.Common.{◌≡◌, ◌≤◌, List, [], ◌∷◌, true, drop, length, arith}
use Rattle.std.proofs.lemmas.Bool.{ltb-true}
use Rattle.rh_task_text.specs.declared.form.Block.{Block}
use Rattle.rh_task_text.specs.declared.form.Standing.TheVariants.{Outside}
use Rattle.rh_task_text.specs.declared.statement.SchemeText.TheVariants.{Plain, Replicate, Replay, Abft}
use Rattle.rh_task_text.specs.declared.statement.Statement.{Statement}
use Rattle.rh_task_text.specs.declared.statement.Statement.TheVariants.{Matrix, Task, Finish, Group, End}
use Rattle.rh_task_text.specs.Blocks.{open_blocks, innermost, may_stand}
use Rattle.rh_task_text.specs.Program.{AllStand}
use Rattle.rh_task_text.proofs.CountsOfLines.{has_its_room}

-- at most nine blocks, and at most eight where one more may be opened
abbrev AreFew : List Block → Type 0
AreFew blocks = (length blocks ≤ 9) × (may_stand Outside (innermost blocks) ≡ true → length blocks ≤ 8)

closed : (blocks : List Block) → AreFew blocks → AreFew (drop 1 blocks)
closed [] h = ((omega arith), λ e. omega arith)
closed (b ∷ bs) h = let few = h.0 in ((omega arith), λ e. omega arith)

few_open : (above : List Statement) → AllStand above → AreFew (open_blocks above)
few_open [] h = ((omega arith), λ e. omega arith)
few_open (Matrix name rows cols ∷ above) h = let few = (few_open above h.1).1 h.0.placed.0 in ((omega arith), λ e. cc)
few_open (End ∷ above) h = closed (open_blocks above) (few_open above h.1)
few_open (Task name Plain awaits ∷ above) h = let few = (few_open above h.1).1 h.0.placed.0 in ((omega arith), λ e. cc)
few_open (Task name Replicate awaits ∷ above) h = let few = (few_open above h.1).1 h.0.placed.0 in ((omega arith), λ e. cc)
few_open (Task name (Replay limit) awaits ∷ above) h = let few = (few_open above h.1).1 h.0.placed.0 in ((omega arith), λ e. cc)
few_open (Task name Abft awaits ∷ above) h = let few = (few_open above h.1).1 h.0.placed.0 in ((omega arith), λ e. cc)
few_open (Finish name ∷ above) h = let room = ltb-true (length (open_blocks above)) 8 (has_its_room above (Finish name) h.0.limited) in ((omega arith), λ e. omega arith)
few_open (Group name awaits ∷ above) h = let room = ltb-true (length (open_blocks above)) 8 (has_its_room above (Group name awaits) h.0.limited) in ((omega arith), λ e. omega arith)
few_open (s ∷ above) h = few_open above h.1

-- at most nine blocks are open
pub depth_small : (above : List Statement) → AllStand above → length (open_blocks above) ≤ 9
depth_small above h = (few_open above h).0
