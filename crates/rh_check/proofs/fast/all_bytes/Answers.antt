use Rattle.std.proofs.Common.{◌∙◌, ◌&&◌, Bool, List, ℕ, nat_le, ap, sym}
use Rattle.std.specs.Prelude.{slice_index}
use Rattle.std.proofs.lemmas.List.{take_all}
use Rattle.std.proofs.lemmas.List.Folds.{list_all_more}
use Rattle.rh_check.specs.Checks.{are_within, user_passes}
use Rattle.rh_check.proofs.United.{union_of_bytes}
use Rattle.rh_check.proofs.fast.all_bytes.Goals as goal

pub loop-word-preserved : goal.loop-word-preserved
loop-word-preserved c =
    let words = c.args.words.now in
    let i = c.loop-word.word-index in
    let w = slice_index words i in
    union_of_bytes c.loop-word.united w ∙ ap (λ (b : Bool). b && (nat_le 0 w && nat_le w 255)) c.loop-word.invariant
    ∙ sym (list_all_more (λ (n : ℕ). nat_le 0 n && nat_le n 255) words i 0 c.loop-word-test.true)

pub returns : goal.returns
unfolding user_passes
returns c = c.loop-word.invariant ∙ ap (λ (l : List ℕ). are_within 0 255 l) (take_all c.loop-word.word-index c.args.words.now c.loop-word-test.false)
