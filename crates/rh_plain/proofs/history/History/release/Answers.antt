use Rattle.std.proofs.Common.{refl, sym, ◌∙◌, arith, rules}
use Rattle.rh_plain.proofs.Histories.{pushes_release, pushes_last, known_index, count_fits, counted_last}
use Rattle.rh_plain.proofs.history.History.release.Goals as goal

pub overflow_add-gone : goal.overflow_add-gone
overflow_add-gone c =
    let (seen, has) = c.requires.drawing in
    let (same, few) = known_index c.args.plan.now seen c.args.self.now c.self.inside.entries.items c.self.inside.gone.items c.args.promise c.index.result.now c.self.view_is has c.requires.known c.index.ensures in
    let fits = count_fits c.self.inside.entries.items c.push.new.self.items _ c.index.result.now c.count-next.result few c.in_ok-push.ensures.items c.count-next.ensures.value c.count-next.ensures.fits in
    omega arith

pub returns-clause-drawn : goal.returns-clause-drawn
returns-clause-drawn c =
    let (seen, has) = c.requires.drawing in
    let (same, few) = known_index c.args.plan.now seen c.args.self.now c.self.inside.entries.items c.self.inside.gone.items c.args.promise c.index.result.now c.self.view_is has c.requires.known c.index.ensures in
    pushes_last c.args.plan.now c.args.self.now _ c.self.inside.entries.items c.push.new.self.items c.push-2.new.self.items c.self.inside.gone.items c.count-number.result c.count-next.result c.index.result.now c.args.promise c.args.by
    c.self.view_is refl c.in_ok-push.ensures.items c.count-number.ensures.value c.in_ok-push-2.ensures.items c.count-next.ensures.value same c.requires.known (c.if-gone-references.false ∙ c.references.ensures)

pub returns-then-gone-references-clause-drawn : goal.returns-then-gone-references-clause-drawn
returns-then-gone-references-clause-drawn c =
    let (seen, has) = c.requires.drawing in
    let (same, few) = known_index c.args.plan.now seen c.args.self.now c.self.inside.entries.items c.self.inside.gone.items c.args.promise c.index.result.now c.self.view_is has c.requires.known c.index.ensures in
    pushes_release c.args.plan.now c.args.self.now _ c.self.inside.entries.items c.push.new.self.items c.self.inside.gone.items c.count-number.result c.index.result.now c.args.promise c.args.by
    c.self.view_is refl c.in_ok-push.ensures.items c.count-number.ensures.value same c.requires.known (λ is. c.if-gone-references.true (is ∙ sym c.references.ensures))

pub returns-clause-last : goal.returns-clause-last
returns-clause-last c yes1 seen has =
    let (same, few) = known_index c.args.plan.now seen c.args.self.now c.self.inside.entries.items c.self.inside.gone.items c.args.promise c.index.result.now c.self.view_is has c.requires.known c.index.ensures in
    counted_last c.args.plan.now seen c.args.self.now c.self.inside.entries.items c.self.inside.gone.items c.index.result.now c.args.promise c.args.by c.self.view_is has same c.requires.known (c.if-gone-references.false ∙ c.references.ensures)

pub returns-then-gone-references-clause-last : goal.returns-then-gone-references-clause-last
returns-then-gone-references-clause-last = search rules
