-- What words say is sayable, and a statement that is spelled is lawful.
use Rattle.std.proofs.Common.{◌≡◌, ℕ, List, None}
use Rattle.rh_task_text.specs.declared.statement.Statement.{Statement}
use Rattle.rh_task_text.specs.Statements.{Spells}
use Rattle.rh_task_text.specs.Blocks.{Stands}
use Rattle.rh_task_text.specs.LineReasons.{statement_reason}
use Rattle.rh_task_text.specs.Program.{IsLawful}
use Rattle.rh_words.proofs.SayableWords.{said_sayable}

-- a statement that words spell is lawful where it has its place and keeps its limits
pub spelled_lawful : (above : List Statement) (ws : List (List ℕ)) (s : Statement) → Spells ws s → Stands above s → statement_reason above s ≡ None → IsLawful above s
spelled_lawful above ws s spelled placed limited = record { sayable = said_sayable ws _ spelled.0; whole = spelled.1; placed = placed; limited = limited }
