use Rattle.rh_words.proofs.PrintedWords.{line_says, line_printable}
use Rattle.rh_words.proofs.laws.printed_values_read_back.Goals as goal

pub returns-clause-words : goal.returns-clause-words
returns-clause-words c = line_says

pub returns-clause-printable : goal.returns-clause-printable
returns-clause-printable c = line_printable
