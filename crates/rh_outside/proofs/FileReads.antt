-- What a read of a real file tells.
use Rattle.std.proofs.Common.{◌≡◌, ℕ, ◌≤◌, List, [], length, refl, arith}
use Rattle.std.specs.Prelude.{◌≢◌}
use Rattle.rh_outside.specs.Counts.{FailureCounts, one_more}
use Rattle.rh_outside.specs.States.{untold}
use Rattle.rh_outside.specs.Shelves.{Reads}
use Rattle.rh_outside.specs.MemoryStores.{failed_reads_after}
use Rattle.rh_outside.specs.declared.shelf.ReadAnswer.{ReadAnswer}
use Rattle.rh_outside.specs.declared.shelf.ReadAnswer.TheVariants.{Ok, Failed, TooLong, OutOfMemory}

-- a store that tells of no file reads as its count and its buffer say
pub reads_untold : (before after : FailureCounts) (name : List ℕ) (limit : ℕ) (bytes : List ℕ) (answer : ReadAnswer) → after.failed_reads ≡ failed_reads_after before.failed_reads answer → (answer ≡ Ok → length bytes ≤ limit) → (answer ≢ Ok → bytes ≡ [])
    → Reads (untold before) (untold after) name limit bytes answer
reads_untold before after name limit bytes Ok counted within empty = (tt, within refl)
reads_untold before after name limit bytes Failed counted within empty =
    let rose : after.failed_reads ≡ one_more before.failed_reads = counted in
    (omega (arith, rose), empty (λ e. cc))
reads_untold before after name limit bytes TooLong counted within empty = (tt, empty (λ e. cc))
reads_untold before after name limit bytes OutOfMemory counted within empty = ((λ told e. cc), empty (λ e. cc))
