use Rattle.rh_task_text.specs.declared.form.FormKind.TheVariants.{Conserve2Form}
use Rattle.rh_task_text.proofs.StatementLists.{fit_form, conserve2_states}
use Rattle.rh_task_text.proofs.statements.conserve2_statement.Goals as goal

pub name_of-requires-6 : goal.name_of-requires-6
name_of-requires-6 c = fit_form Conserve2Form c.args.values.now 7 _ c.requires c.m-item.is

pub number_of-requires : goal.number_of-requires
number_of-requires c = fit_form Conserve2Form c.args.values.now 8 _ c.requires c.cols-item.is

pub number_of-requires-2 : goal.number_of-requires-2
number_of-requires-2 c = fit_form Conserve2Form c.args.values.now 9 _ c.requires c.k-item.is

pub number_of-requires-3 : goal.number_of-requires-3
number_of-requires-3 c = fit_form Conserve2Form c.args.values.now 10 _ c.requires c.s-item.is

pub returns : goal.returns
returns c = rw c.set.ensures (conserve2_states c.args.values.now _ _ _ _ _ _ _ _ _ _ _ _ _ _ _ _ _ _ c.requires c.promise-item.is c.name_of.ensures c.north-item.is c.name_of-2.ensures c.south-item.is c.name_of-3.ensures c.west-item.is c.name_of-4.ensures c.east-item.is c.name_of-5.ensures c.m-item.is c.name_of-6.ensures c.cols-item.is c.number_of.ensures c.k-item.is c.number_of-2.ensures c.s-item.is c.number_of-3.ensures)
