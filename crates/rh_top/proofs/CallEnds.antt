-- What the steps of a call came to is what its status tells.
use Rattle.std.proofs.Common.{◌≡◌, ℕ, ◌<◌, ◌∷◌, List, Option, Some, None, Ok, length, replicate, refl, sym, ◌∙◌, subst, arith}
use Rattle.std.proofs.lemmas.List.{length-replicate}
use Rattle.rh_outside.specs.States.{StoreState, Told, WhereTold, Takes, IsUntouched, BreaksOff, KeepsFiles}
use Rattle.rh_top.specs.declared.status.Status.{Status}
use Rattle.rh_top.specs.declared.status.Status.TheVariants.{Done, TaskFailed, BadWords, ProgramRefused, FaultsRefused, StoreFailed, OutputFailed, OutOfMemory}
use Rattle.rh_top.specs.declared.texts.Stop.{Stop}
use Rattle.rh_top.specs.declared.texts.Stop.TheVariants as stop
use Rattle.rh_top.specs.Command.{Text, Command, IsCommand}
use Rattle.rh_top.specs.Promise.{Call, Tells}
use Rattle.rh_top.specs.declared.texts.Texts.{Texts}
use Rattle.rh_top.specs.CallSteps.{BytesOr, AreTextsFor, StopsBy, IsToldOf, Delivers, refusal_of}

-- some bytes are too many, the told ones where they are told
pub too_long : (told : Told) (limit : ℕ) → WhereTold told (λ bytes. limit < length bytes) → (bytes : List ℕ) × WhereTold told (λ t. t ≡ bytes) × (limit < length bytes)
too_long None limit long = (0 ∷ replicate {A = ℕ} limit 0, tt, let e : length (replicate {A = ℕ} limit 0) ≡ limit = length-replicate limit 0 in omega arith)
too_long (Some None) limit long = absurd long
too_long (Some (Some bytes)) limit long = (bytes, refl, long)

-- why a command came to no text is what the status tells
pub stopped : (call : Call) (c : Command) → IsCommand call.words c → KeepsFiles call.files call.files_after → IsUntouched call.out call.out_after → (why : Stop) (status : Status) → StopsBy call.checks call.files call.files_after c why → IsToldOf call.err call.err_after why status → Tells call status
stopped call c named files out (stop.ProgramRefused r) ProgramRefused stops said = (refusal_of r, (c, named, stops), record { files = files; out = out; err = said })
stopped call c named files out (stop.ProgramRefused r) OutOfMemory stops said = ((c, named), record { files = files; out = out; err = said })
stopped call c named files out (stop.ProgramRefused r) other stops said = absurd said
stopped call c named files out (stop.FaultsRefused r) FaultsRefused stops said = (refusal_of r, (c, named, stops), record { files = files; out = out; err = said })
stopped call c named files out (stop.FaultsRefused r) OutOfMemory stops said = ((c, named), record { files = files; out = out; err = said })
stopped call c named files out (stop.FaultsRefused r) other stops said = absurd said
stopped call c named files out stop.ReadFailed StoreFailed stops said = ((c, named, stops), record { files = files; out = out; err = said })
stopped call c named files out stop.ReadFailed OutOfMemory stops said = ((c, named), record { files = files; out = out; err = said })
stopped call c named files out stop.ReadFailed other stops said = absurd said
stopped call c named files out stop.OutOfMemory OutOfMemory stops said = ((c, named), record { files = files; out = out; err = said })
stopped call c named files out stop.OutOfMemory other stops said = absurd said

-- what the writing of a command's texts came to is what the status tells
pub delivered : (call : Call) (c : Command) → IsCommand call.words c → KeepsFiles call.files call.files_after → (texts : Texts) → AreTextsFor call.checks call.files c texts → (status : Status) → Delivers texts call.out call.out_after call.err call.err_after status → Tells call status
delivered call c named files texts are Done d =
    (c, named, record { work = are.work; gives = are.gives; failed = sym are.failed ∙ d.0; out = subst (λ (t : Text). Takes call.out call.out_after t) are.out d.1; files = files; err = d.2 })
delivered call c named files texts are TaskFailed d =
    (c, named, record { work = are.work; gives = are.gives; failed = sym are.failed ∙ d.0; out = subst (λ (t : Text). Takes call.out call.out_after t) are.out d.1; files = files; err = d.2 })
delivered call c named files texts are OutputFailed d =
    (c, named, record { work = are.work; gives = are.gives; out = subst (λ (t : Text). BreaksOff call.out call.out_after t) are.out d.0; files = files; err = d.1 })
delivered call c named files texts are BadWords d = absurd d
delivered call c named files texts are ProgramRefused d = absurd d
delivered call c named files texts are FaultsRefused d = absurd d
delivered call c named files texts are StoreFailed d = absurd d
delivered call c named files texts are OutOfMemory d = absurd d

-- a file that was read and gave no bytes has more than the limit
pub none_read : (before after : StoreState) (name : Text) (limit : ℕ) (bytes : Option Text) → bytes ≡ None → BytesOr before after name limit (Ok bytes) → WhereTold (before.file name) (λ told. limit < length told)
none_read before after name limit None none long = long
none_read before after name limit (Some bytes) none long = cc
