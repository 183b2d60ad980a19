use Rattle.std.proofs.Common.{not, ap, sym, ◌∙◌}
use Rattle.rh_report.proofs.Looking.{putter_there, put_declared, unput_declared}
use Rattle.rh_report.proofs.promises.is_declared.Goals.{in-Scope, in_default}
use Rattle.rh_report.proofs.promises.is_declared.Goals as goal

pub kind-requires : goal.kind-requires
kind-requires c = putter_there c.args.plan.now c.args.promise c.in-Some.node c.nodes-known.ensures.lawful (sym c.putter.ensures ∙ c.in-Some.is)

pub returns-after-matches : goal.returns-after-matches
returns-after-matches c =
    let declared = put_declared c.args.plan.now c.args.promise c.in-Some.node c.kind.result (not c.match-matches.matches) c.nodes-known.ensures.lawful c.requires (sym c.putter.ensures ∙ c.in-Some.is) c.kind.ensures in
    elim c.match-matches.branch [
      | in-Scope w ↦ declared (λ scope. ap not w.matches-is) (λ other. absurd (other w.in-Scope.is))
      | in_default w ↦ declared (λ scope. absurd (w.in_default.not-Scope scope)) (λ other. ap not w.matches-is)
    ]

pub returns-in-None : goal.returns-in-None
returns-in-None c = unput_declared c.args.plan.now c.args.promise c.nodes-known.ensures.lawful c.requires (sym c.putter.ensures ∙ c.in-None.is)
