use Rattle.std.proofs.Common.{◌≡◌, ℕ, ◌<◌, ◌≤◌, drop, get_or}
use Rattle.rh_words.specs.Text.{words_of}
use Rattle.rh_words.proofs.lines.skip_spaces.Given as goal

abbrev pub invariant-loop-at : goal.invariant-loop-at
invariant-loop-at l = record {
  words : words_of (drop l.from l.line) ≡ words_of (drop l.at l.line);
  blank : (k : ℕ) → l.from ≤ k → k < l.at → get_or l.line k 0 ≡ 32;
}
