use Rattle.std.proofs.Common.{◌≡◌, ◌<◌, ◌∙◌, List, ℕ, sym, ap, refl, rules, Some, subst, length, get_or, Option, false, true}
use Rattle.std.specs.Prelude.{◌++◌, ◌∷◌, [], map, is_some, option_and_then, slice_get, slice_index, unwrap_or}
use Rattle.std.proofs.lemmas.Option.{slice_get_read}
use Rattle.rh_rules.specs.declared.node.PlannedPromise.{PlannedPromise}
use Rattle.rh_rules.specs.Tables.{if_any, promise_named, promise_number, is_promise, is_put, putting}
use Rattle.rh_rules.specs.declared.body.Step.{Step}
use Rattle.rh_rules.specs.declared.body.Step.TheVariants.{Put}
use Rattle.rh_rules.specs.Above.{numbers_used, put_step}
use Rattle.rh_rules.specs.Tables.{given}
use Rattle.rh_planner.specs.States.{HasFacts, facts_of}
use Rattle.rh_tables.specs.Declarations.{Declarations}
use Rattle.rh_tables.specs.Making.{put_reason}
use Rattle.rh_rules.specs.declared.shape.NamedShape.{NamedShape}
use Rattle.rh_planner.specs.Planned.{look_above}
use Rattle.rh_planner.proofs.Puts.{reason_put, reason_unknown, after_put}
use Rattle.rh_planner.proofs.Refusing.{judges_refused}
use Rattle.rh_planner.proofs.planner.Planner.put.Goals as goal

-- the promise that is read is that of the name
found : (ps qs : List PlannedPromise) (q : List ℕ) (i : ℕ) (o : Option ℕ) (p : PlannedPromise) → o ≡ Some i → i < length ps → qs ≡ ps → p ≡ get_or qs i p → option_and_then (λ k. slice_get ps k) o ≡ Some p
found ps qs q i o p at within same is = ap (λ (x : Option ℕ). option_and_then (λ k. slice_get ps k) x) at ∙ slice_get_read ps (length ps) i p refl within (is ∙ ap (λ (l : List PlannedPromise). get_or l i p) same)

pub returns-in_default : goal.returns-in_default
returns-in_default c = judges_refused _ _ _ _ refl (reason_unknown (look_above c.args.self.now.handed) (facts_of c.args.self.now) c.args.statement.now c.args.promise.now c.requires.puts (sym c.in_default.ensures.number))

pub returns-in-Some-2 : goal.returns-in-Some-2
returns-in-Some-2 c =
    let ps = c.args.self.now.declared.promises in
    let q = c.args.promise.now in
    let there : is_promise ps q ≡ true = ap is_some (sym c.in-Some.ensures.number) in
    let named : promise_named ps q ≡ Some c.index-promises-number.result = found ps c.promises.result.now q c.in-Some.number _ c.index-promises-number.result (sym c.in-Some.ensures.number) c.in-Some.ensures.within c.promises.ensures c.index-promises-number.is in
    let same = ap (λ (l : List NamedShape). put_reason c.index-promises-number.result l c.args.self.now.task.locals.items c.args.self.now.task.drops.items c.args.statement.now) c.deref.ensures.value in
    judges_refused _ _ _ c.in-Some-2.reason refl (reason_put (look_above c.args.self.now.handed) (facts_of c.args.self.now) c.args.statement.now c.args.promise.now c.index-promises-number.result c.requires.puts there named ∙ sym (c.in_ok-reason.ensures.reason ∙ same) ∙ c.in-Some-2.is)

pub returns : goal.returns
returns c =
    let ps = c.args.self.now.declared.promises in
    let q = c.args.promise.now in
    let there : is_promise ps q ≡ true = ap is_some (sym c.in-Some.ensures.number) in
    let named : promise_named ps q ≡ Some c.index-promises-number.result = found ps c.promises.result.now q c.in-Some.number _ c.index-promises-number.result (sym c.in-Some.ensures.number) c.in-Some.ensures.within c.promises.ensures c.index-promises-number.is in
    let unput : is_put ps q ≡ false = ap (λ (o : Option PlannedPromise). if_any (λ p. is_some p.putter) o) named ∙ c.in_ok-reason.ensures.unput c.in_default-2.is in
    let numbers = c.in_ok-reason.ensures.numbers c.in_default-2.is in
    let same = ap (λ (l : List NamedShape). put_reason c.index-promises-number.result l c.args.self.now.task.locals.items c.args.self.now.task.drops.items c.args.statement.now) c.deref.ensures.value in
    let declared = c.put.ensures q (sym c.in-Some.ensures.number) unput in
    let len : c.len.result ≡ length c.args.self.now.nodes.items = search rules in
    let used = numbers_used c.args.self.now.task.locals.items c.args.statement.now in
    let number : c.in-Some.number ≡ promise_number ps q = ap (λ (o : Option ℕ). unwrap_or o 0) c.in-Some.ensures.number in
    let step : c.put_step.result ≡ put_step ps used q = c.put_step.ensures ∙ ap (λ (l : List ℕ). Put c.in-Some.number (slice_index l 0) (slice_get l 1)) (c.deref-2.ensures.value ∙ numbers) ∙ ap (λ (i : ℕ). Put i (slice_index used 0) (slice_get used 1)) number in
    record {
      reason = sym (reason_put (look_above c.args.self.now.handed) (facts_of c.args.self.now) c.args.statement.now q c.index-promises-number.result c.requires.puts there named ∙ sym (c.in_ok-reason.ensures.reason ∙ same) ∙ c.in_default-2.is);
      tables = λ none. subst (HasFacts _) (sym (after_put (look_above c.args.self.now.handed) (facts_of c.args.self.now) c.args.statement.now q c.requires.puts)) (record {
        names = ap (λ (t : Declarations). t.names) declared;
        promises = ap (λ (t : Declarations). t.promises) declared ∙ ap (λ (n : ℕ). map (given (putting q n)) ps) len;
        matrices = refl;
        closed = refl;
        begun = refl;
        blocks = refl;
        count = refl;
        nodes = refl;
        inputs = refl;
        locals = refl;
        drops = refl;
        steps = c.in_ok-push.ensures.ok ∙ ap (λ (s : Step). c.args.self.now.task.body ++ s ∷ []) step;
        scheme = refl;
        checks = refl;
      });
      handed = refl;
    }
