use Rattle.std.proofs.Common.{◌≡◌, true, sym, ap, ◌∙◌, subst, inl, inr, Bool}
use Rattle.rh_words.specs.Text.{words_of}
use Rattle.rh_task_text.specs.Forms.{form}
use Rattle.rh_task_text.specs.declared.form.Standing.{Standing}
use Rattle.rh_task_text.specs.Blocks.{may_stand}
use Rattle.rh_task_text.proofs.StatementReasons.{rows_out}
use Rattle.rh_task_text.proofs.LongLines.{KeptForm, kept_form, kept_unreasoned, too_long}
use Rattle.rh_task_text.proofs.line.read_words.Goals as goal
use Rattle.rh_task_text.proofs.line.read_words.Goals.{In_ok-kept}

-- the form's statements may stand here
stands : (c : In_ok-kept) → may_stand (form c.in-Some.kind).standing c.args.here ≡ true
stands c = ap (λ (s : Standing). may_stand s c.args.here) (sym c.form_of-row.ensures.standing_is) ∙ sym c.may_stand.ensures ∙ c.if-not-may_stand.false

-- what the words of the form were read as
told : (c : In_ok-kept) → KeptForm c.in_ok-kept.kept (words_of c.args.line.now) c.in-Some.kind c.read.new.self
told c = kept_form c.in_ok-kept.kept (words_of c.args.line.now) c.in-Some.kind c.form_of-row.result c.of-places.result c.read.new.self c.of-places.ensures c.form_of-row.ensures c.in_ok-kept.ensures.ok

pub returns-then-not-rows_fit-clause-refused : goal.returns-then-not-rows_fit-clause-refused
returns-then-not-rows_fit-clause-refused c =
    let here = (goal.at.returns-then-not-rows_fit-clause-refused c).In_ok-kept in
    inl (rows_out c.args.here c.args.rows (words_of c.args.line.now) c.in-Some.kind (sym c.in-Some.ensures) (stands here) (kept_unreasoned c.in_ok-kept.kept (words_of c.args.line.now) c.in-Some.kind c.read.new.self (told here)) (sym c.rows_fit.ensures ∙ c.if-not-rows_fit.true))

pub returns-then-not-kept-clause-refused : goal.returns-then-not-kept-clause-refused
returns-then-not-kept-clause-refused c =
    let here = (goal.at.returns-then-not-kept-clause-refused c).In_ok-kept in
    let many = subst (λ (b : Bool). KeptForm b (words_of c.args.line.now) c.in-Some.kind c.read.new.self) c.if-not-kept.true (told here) in
    inr (too_long c.args.here c.args.rows (words_of c.args.line.now) c.in-Some.kind c.read.new.self (sym c.in-Some.ensures) (stands here) (sym c.rows_fit.ensures ∙ c.if-not-rows_fit.false) many)

pub returns-clause-ok : goal.returns-clause-ok
returns-clause-ok c =
    let here = (goal.at.returns-clause-ok c).In_ok-kept in
    let says = subst (λ (b : Bool). KeptForm b (words_of c.args.line.now) c.in-Some.kind c.read.new.self) c.if-not-kept.false (told here) in
    record {
      chosen = sym c.in-Some.ensures;
      stands = (stands here, sym c.rows_fit.ensures ∙ c.if-not-rows_fit.false);
      says = says.0;
      fits = says.1;
    }
