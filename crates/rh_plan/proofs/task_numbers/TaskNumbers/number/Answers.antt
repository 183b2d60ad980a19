use Rattle.std.proofs.Common.{◌≡◌, ◌∙◌, ℕ, List, true, subst, rules}
use Rattle.rh_words.specs.Naming.{is_name}
use Rattle.rh_plan.specs.FaultTables.{number_known}
use Rattle.rh_plan.proofs.task_numbers.TaskNumbers.number.Goals as goal

pub returns : goal.returns
returns c = λ nodes numbered.
    let named = subst (λ (n : List ℕ). is_name n ≡ true) c.bytes-is_name.ensures.value c.bytes-is_name.ensures.name in
    let found : c.copied.result ≡ number_known c.args.self.now.known c.args.name.now = search rules in
    found ∙ numbered c.args.name.now named
