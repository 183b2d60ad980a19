use Rattle.std.proofs.Common.{rules}
use Rattle.rh_words.specs.Kernels.{gen_word}
use Rattle.rh_kernels.proofs.sources.generated.Goals as goal

pub returns : goal.returns
unfolding gen_word
returns c = search rules
