use Rattle.std.proofs.Common.{sym, ◌∙◌, subst}
use Rattle.rh_words.proofs.ToldWords.{IsNumeric, told_value, told_no_number, told_no_name, told_no_word, kept_short}
use Rattle.rh_words.proofs.places.Told.tell.Goals as goal

pub returns-else-not-branch-clause-told : goal.returns-else-not-branch-clause-told
returns-else-not-branch-clause-told c = told_value c.args.most _ _ _ _ _ _ _ c.args.place c.args.word.now (sym c.in_ok-keep_word.ensures.fits ∙ c.if-not-branch.false) c.has_room-self.ensures c.in_ok-keep_word.ensures.ok

pub returns-else-not-branch-clause-short : goal.returns-else-not-branch-clause-short
returns-else-not-branch-clause-short c = kept_short c.args.most _ _ _ _ _ c.has_room-self.ensures c.in_ok-keep_word.ensures.ok

pub returns-in-WordPlace : goal.returns-in-WordPlace
returns-in-WordPlace c = record { told = told_no_word c.args.most _ _ _ _ _ _ _ c.args.place c.in-WordPlace.field-0 c.args.word.now c.in-WordPlace.is (sym c.in_ok-keep_word.ensures.fits ∙ c.if-not-branch.true) c.has_room-self.ensures; short = kept_short c.args.most _ _ _ _ _ c.has_room-self.ensures c.in_ok-keep_word.ensures.ok }

pub returns-in-NamePlace : goal.returns-in-NamePlace
returns-in-NamePlace c = record { told = told_no_name c.args.most _ _ _ _ _ _ _ c.args.place c.args.word.now c.in-NamePlace.is (sym c.in_ok-keep_word.ensures.fits ∙ c.if-not-branch.true) c.has_room-self.ensures; short = kept_short c.args.most _ _ _ _ _ c.has_room-self.ensures c.in_ok-keep_word.ensures.ok }

pub returns-in-NumberPlace : goal.returns-in-NumberPlace
returns-in-NumberPlace c = record { told = told_no_number c.args.most _ _ _ _ _ _ _ c.args.place c.args.word.now (subst IsNumeric (sym c.in-NumberPlace.is) tt) (sym c.in_ok-keep_word.ensures.fits ∙ c.if-not-branch.true) c.has_room-self.ensures; short = kept_short c.args.most _ _ _ _ _ c.has_room-self.ensures c.in_ok-keep_word.ensures.ok }

pub returns-in-MaskPlace : goal.returns-in-MaskPlace
returns-in-MaskPlace c = record { told = told_no_number c.args.most _ _ _ _ _ _ _ c.args.place c.args.word.now (subst IsNumeric (sym c.in-MaskPlace.is) tt) (sym c.in_ok-keep_word.ensures.fits ∙ c.if-not-branch.true) c.has_room-self.ensures; short = kept_short c.args.most _ _ _ _ _ c.has_room-self.ensures c.in_ok-keep_word.ensures.ok }

pub returns-in-PairPlace : goal.returns-in-PairPlace
returns-in-PairPlace c = record { told = told_no_number c.args.most _ _ _ _ _ _ _ c.args.place c.args.word.now (subst IsNumeric (sym c.in-PairPlace.is) tt) (sym c.in_ok-keep_word.ensures.fits ∙ c.if-not-branch.true) c.has_room-self.ensures; short = kept_short c.args.most _ _ _ _ _ c.has_room-self.ensures c.in_ok-keep_word.ensures.ok }
