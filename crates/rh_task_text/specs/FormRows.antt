-- The table's rows in code.
use Rattle.std.specs.Prelude.{◌≡◌, List, ◌∷◌}
use Rattle.rh_words.specs.declared.keyword.Keyword.{Keyword}
use Rattle.rh_words.specs.declared.value.Place.{Place}
use Rattle.rh_words.specs.declared.value.Place.TheVariants.{WordPlace}
use Rattle.rh_task_text.specs.declared.form.Standing.{Standing}
use Rattle.rh_task_text.specs.declared.table.Form.{Form as CodeForm}
use Rattle.rh_task_text.specs.declared.line.Head.{Head}
use Rattle.rh_task_text.specs.Forms.{Form, form}

-- the code's row has these parts
pub record HasParts (row : CodeForm) (standing : Standing) (first : Keyword) (choice places more again : List Place) : Type 0 where
  pub standing_is : row.standing ≡ standing
  pub first_is : row.first ≡ first
  pub choice_is : row.choice.now ≡ choice
  pub places_are : row.places.now ≡ places
  pub more_is : row.more.now ≡ more
  pub again_is : row.again.now ≡ again

-- the code's row is the table's, with the first word among the choice and the places
abbrev pub IsForm : CodeForm → Form → Type 0
IsForm row f = HasParts row f.standing f.first (WordPlace f.first ∷ f.choice) (WordPlace f.first ∷ f.places) f.more f.again

-- the form stands so, and its lines begin so
pub record IsHead (head : Head) : Type 0 where
  pub standing_is : head.standing ≡ (form head.kind).standing
  pub first_is : head.first ≡ (form head.kind).first
