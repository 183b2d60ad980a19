use Rattle.std.proofs.Common.{◌≡◌, ◌<◌, ◌≤◌, List, ℕ, true, length, subst, arith, refl, ap, ◌∙◌}
use Rattle.std.specs.Str.{bytes_eq}
use Rattle.std.proofs.lemmas.Bool.Decides.{nat_tests}
use Rattle.std.proofs.lemmas.Option.{slice_get_read}
use Rattle.rh_words.specs.Naming.{is_name}
use Rattle.rh_plan.proofs.LocalLens.{named_there, named_past}
use Rattle.rh_plan.proofs.resolving.is_promise_named.Goals as goal

pub returns-in-Some : goal.returns-in-Some
returns-in-Some c =
    let found = c.in-Some.ensures.lookup in
    let below = found.0 in
    let inside : c.args.promise < length c.args.promises.now = grind (arith, nat_tests) in
    c.eq.ensures
    ∙ ap (λ (n : List ℕ). bytes_eq n c.bytes-name.result.now) c.bytes.ensures.value
    ∙ ap (λ (n : List ℕ). bytes_eq c.in-Some.promise.now.name n) c.bytes-name.ensures.value
    ∙ named_there c.args.promises.now c.args.promise c.in-Some.promise.now c.args.name.now (slice_get_read c.args.promises.now (length c.args.promises.now) c.args.promise c.in-Some.promise.now refl inside found.1)

pub returns-in-None : goal.returns-in-None
returns-in-None c =
    let past = c.in-None.ensures.lookup.0 in
    let beyond : length c.args.promises.now ≤ c.args.promise = grind (arith, nat_tests) in
    named_past c.args.promises.now c.args.promise c.args.name.now beyond
    (subst (λ (n : List ℕ). is_name n ≡ true) c.bytes-name.ensures.value c.bytes-name.ensures.name)
