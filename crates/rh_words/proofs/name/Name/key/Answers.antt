use Rattle.std.proofs.Common.{List, ℕ, sym, ap, ◌∙◌}
use Rattle.rh_words.specs.declared.name.Name.TheInside.{Inside}
use Rattle.rh_words.specs.NameLaws.{fields_of_name_ok}
use Rattle.rh_words.specs.NameKeys.{padded_name, key_of}
use Rattle.rh_words.proofs.name.Name.key.Goals as goal

pub returns : goal.returns
returns c =
    c.key_of_padded.ensures
    ∙ ap (λ (bs : List ℕ). key_of bs) (sym (ap (λ (n : Inside). n.bytes) (fields_of_name_ok c.self.inside c.self.invariant)) ∙ ap (λ (n : List ℕ). padded_name n) c.self.view_is)
