-- The forms of tasks.
use Rattle.std.proofs.Common.{◌≡◌, ◌≢◌, [], refl}
use Rattle.rh_words.specs.declared.keyword.Keyword.TheVariants.{TaskWord}
use Rattle.rh_task_text.specs.declared.statement.SchemeText.{SchemeText}
use Rattle.rh_task_text.specs.declared.statement.SchemeText.TheVariants.{Plain, Replicate, Replay, Abft}
use Rattle.rh_task_text.specs.Forms.{form}
use Rattle.rh_task_text.specs.Statements.{task_kind}

-- each begins with the word of tasks
pub tasks_begin : (scheme : SchemeText) → (form (task_kind scheme)).first ≡ TaskWord
tasks_begin Plain = refl
tasks_begin Replicate = refl
tasks_begin (Replay limit) = refl
tasks_begin Abft = refl

-- each has a list
pub tasks_repeat : (scheme : SchemeText) → (form (task_kind scheme)).again ≢ []
tasks_repeat Plain e = cc
tasks_repeat Replicate e = cc
tasks_repeat (Replay limit) e = cc
tasks_repeat Abft e = cc
