use Rattle.std.proofs.Common.{◌≡◌, true, inr}
use Rattle.rh_words.specs.Text.{is_printable}
use Rattle.rh_injector.proofs.reading.Reader.line.Goals as goal

pub returns-clause-ok : goal.returns-clause-ok
returns-clause-ok c =
    let printable : is_printable c.args.line.bytes.now ≡ true = cc in
    (printable, inr (c.in_ok-fault.fault, (rw c.self.view_is at c.in_ok-push.ensures.items), c.in_ok-fault.ensures.ok))
