-- The command that the words of a call give.
use Rattle.std.specs.Prelude.{ℕ, ◌≡◌, ◌==◌, ◌&&◌, Bool, false, not, List, [], ◌∷◌, Option, Some, None, codes, if◌then◌else◌}
use Rattle.std.specs.Str.{bytes_eq}

-- the bytes of a word, of a name, of a file
abbrev pub Text : Type 0
Text = List ℕ

-- A command with its values: `run` runs the program in a file, under the faults in another where one is named.
pub data Command : Type 0 where
  run : (program : Text) → (faults : Option Text) → Command

-- a plain word is not empty and does not begin with `-`
abbrev pub is_plain : Text → Bool
is_plain [] = false
is_plain (b ∷ bs) = not (b == 45)

-- the words are `run` and the name of a program's file
abbrev pub are_run_words : Text → Text → Bool
are_run_words name program = bytes_eq name (codes "run") && is_plain program

-- the words are `--faults` and the name of a fault file
abbrev pub are_fault_words : Text → Text → Bool
are_fault_words option faults = bytes_eq option (codes "--faults") && is_plain faults

-- the command that the words give: `run FILE`, or `run FILE --faults FILE` in this order
abbrev pub command_of : List Text → Option Command
command_of [] = None
command_of (name ∷ []) = None
command_of (name ∷ program ∷ []) = if are_run_words name program then Some (run program None) else None
command_of (name ∷ program ∷ option ∷ []) = None
command_of (name ∷ program ∷ option ∷ faults ∷ []) =
    if are_run_words name program && are_fault_words option faults then Some (run program (Some faults)) else None
command_of (name ∷ program ∷ option ∷ faults ∷ more ∷ rest) = None

-- The words give this command.
abbrev pub IsCommand : List Text → Command → Type 0
IsCommand words command = command_of words ≡ Some command

-- The words give no command.
abbrev pub IsBadWords : List Text → Type 0
IsBadWords words = command_of words ≡ None
