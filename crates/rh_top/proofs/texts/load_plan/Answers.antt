use Rattle.std.proofs.Common.{refl, inl}
use Rattle.rh_top.proofs.CallEnds.{too_long, none_read}
use Rattle.rh_words.specs.declared.limits.TheConstants.{MAX_PROGRAM_BYTES}
use Rattle.rh_top.proofs.texts.load_plan.Goals as goal

pub returns-in_default-clause-plan : goal.returns-in_default-clause-plan
returns-in_default-clause-plan g c =
    let (bytes, may, long) = too_long _ _ (none_read (g.S.Shelf.state c.args.files.now) (g.S.Shelf.state c.read_file.new.files) c.args.name.now MAX_PROGRAM_BYTES c.in_ok-bytes.field-0 c.in_default.is c.in_ok-bytes.ensures.bytes) in
    (bytes, may, inl (long, refl, refl))
