use Rattle.std.proofs.Common.{ap, ◌∙◌}
use Rattle.rh_outside.specs.Counts.{FailureCounts}
use Rattle.rh_outside.specs.MemoryStores.{failed_reads_after}
use Rattle.rh_outside.proofs.FileReads.{reads_untold}
use Rattle.rh_outside.proofs.fs_shelf.FsShelfShelf.read.Goals as goal

pub returns-clause-answer : goal.returns-clause-answer
returns-clause-answer g c =
    let answer = c.read_named-answer.result in
    reads_untold c.args.self.now (record { failed_reads = c.count_read.new.failed; failed_writes = c.self.inside.failed_writes }) c.args.name.now c.args.limit c.read_named-answer.new.into answer (c.count_read.ensures.counted ∙ ap (λ (v : FailureCounts). failed_reads_after v.failed_reads answer) c.self.view_is) c.read_named-answer.ensures.within c.read_named-answer.ensures.empty
