use Rattle.std.proofs.Common.{rules}
use Rattle.rh_tables.proofs.ProductChecks.{has_planned_product}
use Rattle.rh_tables.proofs.open_task.OpenTask.has_product_check.Goals as goal

pub returns-then-is_corrected : goal.returns-then-is_corrected
returns-then-is_corrected = search (has_planned_product, rules)
