use Rattle.std.proofs.Common.{refl, inl}
use Rattle.rh_top.proofs.CallEnds.{too_long, none_read}
use Rattle.rh_words.specs.declared.limits.TheConstants.{MAX_FAULT_BYTES}
use Rattle.rh_top.proofs.texts.load_faults.Goals as goal

pub returns-in_default-2-clause-faults : goal.returns-in_default-2-clause-faults
returns-in_default-2-clause-faults g c =
    let (bytes, may, long) = too_long _ _ (none_read (g.S.Shelf.state c.args.files.now) (g.S.Shelf.state c.read_file.new.files) c.in-Some.name.now MAX_FAULT_BYTES c.in_ok-bytes.field-0 c.in_default-2.is c.in_ok-bytes.ensures.bytes) in
    rw c.in-Some.is (bytes, may, inl (long, refl, refl))
