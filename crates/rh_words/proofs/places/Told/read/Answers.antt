use Rattle.std.proofs.Common.{List, ℕ, subst, sym, ◌∙◌}
use Rattle.rh_words.specs.Text.{words_of}
use Rattle.rh_words.specs.PlaceWalks.{IsTold}
use Rattle.rh_words.proofs.ToldWords.{told_next, told_answer}
use Rattle.rh_words.proofs.places.Told.read.Goals as goal

pub loop-word-preserved : goal.loop-word-preserved
loop-word-preserved c =
    let told = subst (λ (ws : List (List ℕ)). IsTold c.args.most c.args.places (words_of c.args.line.now) ws c.loop-word.left c.loop-word.self.names c.loop-word.self.numbers c.loop-word.self.words c.loop-word.self.keeping c.loop-word.self.values.items) c.in-Some.ensures c.loop-word.invariant in
    told_next c.args.most c.args.places (words_of c.args.line.now) c.next.new.self c.loop-word.left c.next-in-Some.new.self c.in-Some-next.place c.in-Some.word.now _ _ _ _ _ _ _ _ c.loop-word.self.values.items _ told c.in-Some-next.ensures c.in_ok-tell.ensures.told (c.tell.ensures.short c.loop-word.invariant.short)

pub returns-then-may_end-clause-ok : goal.returns-then-may_end-clause-ok
returns-then-may_end-clause-ok c =
    told_answer c.args.most c.args.places (words_of c.args.line.now) c.loop-word.words c.loop-word.left c.loop-word.self.names c.loop-word.self.numbers c.loop-word.self.words c.loop-word.self.keeping c.loop-word.self.values.items c.loop-word.invariant c.in_default.ensures.0 c.if-self.true c.if-self-2.true c.if-self-3.true (sym c.may_end.ensures ∙ c.if-may_end.true)
