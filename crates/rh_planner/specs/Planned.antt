-- Which texts keep the rules, what they are planned as, and where a text first breaks one.
use Rattle.std.specs.Prelude.{ℕ, ◌≡◌, List, [], ◌∷◌, ◌++◌, Some, false}
use Rattle.rh_words.specs.declared.reason.Reason.{Reason}
use Rattle.rh_task_text.specs.declared.statement.Item.{Item}
use Rattle.rh_task_text.specs.Program.{ProgramText, upward}
use Rattle.rh_sparse.specs.Matrix.{MatrixData}
use Rattle.rh_check.specs.Users.{HandedChecks}
use Rattle.rh_rules.specs.declared.node.Node.{Node}
use Rattle.rh_rules.specs.declared.node.PlannedPromise.{PlannedPromise}
use Rattle.rh_rules.specs.Above.{Look, promises_above, closed_above, nodes_above}
use Rattle.rh_rules.specs.Rules.{reason_at, AllKeep}

-- an await list looks at the lines above it alone, and a check at these handed-in ones
abbrev pub look_above : HandedChecks → Look
look_above handed = record { forward = false; promises = []; handed = handed }

-- Each statement of the text keeps the rules, with these handed-in checks, and these are its nodes, promises and matrices, each by its number.
pub record IsDraftOf (handed : HandedChecks) (text : ProgramText) (ns : List Node) (ps : List PlannedPromise) (ms : List MatrixData) : Type 0 where
  pub kept : AllKeep (look_above handed) (upward text.items)
  pub nodes : ns ≡ nodes_above (look_above handed) (upward text.items)
  pub promises : ps ≡ promises_above (upward text.items)
  pub matrices : ms ≡ closed_above (upward text.items)

-- The first item that breaks a rule, given those before it, has this line, and this is the first reason that holds there.
pub record FirstBreak (handed : HandedChecks) (text : ProgramText) (line : ℕ) (reason : Reason) : Type 0 where
  pub before : List Item
  pub item : Item
  pub after : List Item
  pub whole : text.items ≡ before ++ item ∷ after
  pub kept : AllKeep (look_above handed) (upward before)
  pub broken : reason_at (look_above handed) (upward before) item.statement ≡ Some reason
  pub at : line ≡ item.line
