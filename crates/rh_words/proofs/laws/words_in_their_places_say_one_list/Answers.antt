use Rattle.rh_words.proofs.WordsInPlaces.{fitted, unreasoned, said_once}
use Rattle.rh_words.proofs.SayableWords.{said_sayable}
use Rattle.rh_words.proofs.laws.words_in_their_places_say_one_list.Goals as goal

pub returns-clause-fit : goal.returns-clause-fit
returns-clause-fit c = λ here more again ws. (unreasoned here more again ws, λ (vs, says, fits). fitted here more again ws vs says fits)

pub returns-clause-one : goal.returns-clause-one
returns-clause-one c = said_once

pub returns-clause-sayable : goal.returns-clause-sayable
returns-clause-sayable c = said_sayable
