-- The value of a promise when one more node has ended.
use Rattle.std.proofs.Common.{◌≡◌, ℕ, ◌+◌, ◌<◌, ◌≤◌, ◌==◌, ◌||◌, List, [], ◌∷◌, Bool, true, Option, Some, None, length, map, refl, arith, ap, sym, ◌∙◌, subst, inl, inr}
use Rattle.std.proofs.lemmas.Bool.{cases_Bool, cases_lt, cond-true, cond-false, false≢true}
use Rattle.std.proofs.lemmas.Option.{none-some, same_Some, slice_get_within, slice_get_past}
use Rattle.std.specs.List.{find, list_any, slice_get}
use Rattle.std.specs.Option.{IsSomeAnd, option_and_then, option_map}
use Rattle.rh_injector.specs.declared.faults.Strike.{Strike}
use Rattle.rh_rules.specs.declared.node.Node.{Node}
use Rattle.rh_plan.specs.declared.made_put.MadePut.{MadePut}
use Rattle.rh_plan.specs.declared.outcome.Verdict.{Verdict}
use Rattle.rh_plan.specs.declared.outcome.Verdict.TheVariants.{Accepted, Corrected, Failed, Skipped, Opened, Closed, Ended}
use Rattle.rh_plan.specs.Plans.{PlanData}
use Rattle.rh_rules.specs.Lawful.{putter_of}
use Rattle.rh_plan.specs.Lawful.{IsLawfulPlan}
use Rattle.rh_rules.specs.Lawful.{IsAmong}
use Rattle.rh_plan.specs.Buffers.{BufferData, words_put}
use Rattle.rh_plan.specs.Judging.{NodeResult}
use Rattle.rh_plan.specs.Results.{results, result_of_node, value_in, value_by, value_put}
use Rattle.rh_plan.proofs.Rows.{length-results, value_there}
use Rattle.rh_plan.proofs.Sources.{node_there}
use Rattle.rh_plain.specs.Values.{kept_or}
use Rattle.rh_plain.specs.Runs.{made_by, puts_in, counts_put}
use Rattle.rh_plain.proofs.OwnPuts.{other_put, puts_own}

-- a promise has no value by the first n nodes where its putter is none of them
pub value_none : (plan : PlanData) (faults : List Strike) (n q : ℕ) (o : Option ℕ) → putter_of plan.promises q ≡ o → ((u : ℕ) → o ≡ Some u → n ≤ u) → value_in plan (results plan faults n) q ≡ None
value_none plan faults n q None by late = ap (λ (o : Option ℕ). option_and_then (λ v. option_and_then (value_by q) (slice_get (results plan faults n) v)) o) by
value_none plan faults n q (Some u) by late =
    let long = length-results plan faults n in
    let past = late u refl in
    ap (λ (o : Option ℕ). option_and_then (λ v. option_and_then (value_by q) (slice_get (results plan faults n) v)) o) by
    ∙ ap (λ (o : Option NodeResult). option_and_then (value_by q) o) (slice_get_past (results plan faults n) u (omega arith))

-- the three counts are put to each promise that a scope may put
counts_there : (q a f s : ℕ) (puts : List ℕ) → list_any (λ p. p == q) puts ≡ true → words_put q (map (λ p. counts_put p a f s) puts) ≡ Some (a ∷ f ∷ s ∷ [])
counts_there q a f s [] among = absurd (false≢true among)
counts_there q a f s (p ∷ puts) among = elim (cases_Bool (p == q)) [
  | inl here ↦ ap (λ (o : Option MadePut). option_map (λ (m : MadePut). m.words) o) (cond-true (p == q) (Some (counts_put p a f s)) (find (λ m. m.promise == q) (map (λ r. counts_put r a f s) puts)) here)
  | inr other ↦
      ap (λ (o : Option MadePut). option_map (λ (m : MadePut). m.words) o) (cond-false (p == q) (Some (counts_put p a f s)) (find (λ m. m.promise == q) (map (λ r. counts_put r a f s) puts)) other)
      ∙ counts_there q a f s puts (sym (ap (λ (b : Bool). b || list_any (λ r. r == q) puts) other) ∙ among)
]

buffer_put : (q : ℕ) (accepted : Option BufferData) → words_put q (puts_in accepted) ≡ option_and_then (λ b. words_put q b.puts) accepted
buffer_put q None = refl
buffer_put q (Some b) = refl

-- what a node puts to a promise of its own is what its result gives it
own_put : (puts : List ℕ) (q : ℕ) (verdict : Verdict) (accepted : Option BufferData) → list_any (λ p. p == q) puts ≡ true → words_put q (made_by puts verdict accepted) ≡ value_put q accepted verdict
own_put puts q (Accepted k) accepted among = buffer_put q accepted
own_put puts q (Corrected i) accepted among = buffer_put q accepted
own_put puts q (Ended a f s) accepted among = counts_there q a f s puts among
own_put puts q Failed accepted among = refl
own_put puts q (Skipped c) accepted among = refl
own_put puts q Opened accepted among = refl
own_put puts q (Closed c) accepted among = refl

-- a lawful putter may put its promise
among_puts : (plan : PlanData) (v q : ℕ) (node : Node) → IsLawfulPlan plan → slice_get plan.nodes v ≡ Some node → putter_of plan.promises q ≡ Some v → IsAmong node.puts q
among_puts plan v q node lawful at by = subst (λ (o : Option Node). IsSomeAnd o (λ n. IsAmong n.puts q)) at (lawful.parts.put q v by)

-- the value of a promise when one more node has ended
pub next_value : (plan : PlanData) (faults : List Strike) (v q : ℕ) (node : Node) (r : NodeResult) → IsLawfulPlan plan → slice_get plan.nodes v ≡ Some node → r ≡ result_of_node plan faults (results plan faults v) v node
    → kept_or (value_in plan (results plan faults v) q) (words_put q (made_by node.puts r.verdict r.accepted)) ≡ value_in plan (results plan faults (v + 1)) q
next_value plan faults v q node r lawful at is = by_putter (putter_of plan.promises q) refl
  where
    within : v < length plan.nodes
    within = slice_get_within plan.nodes v node at

    others : (o : Option ℕ) → putter_of plan.promises q ≡ o → (o ≡ Some v → ⊥) → words_put q (made_by node.puts r.verdict r.accepted) ≡ None
    others o by other = other_put plan v q (made_by node.puts r.verdict r.accepted) (puts_own plan faults v node lawful at r is) (λ same. other (sym by ∙ same))

    kept : (o : Option (List ℕ)) → kept_or o None ≡ o
    kept None = refl
    kept (Some w) = refl

    by_putter : (o : Option ℕ) → putter_of plan.promises q ≡ o → kept_or (value_in plan (results plan faults v) q) (words_put q (made_by node.puts r.verdict r.accepted)) ≡ value_in plan (results plan faults (v + 1)) q
    by_putter None by =
        ap (kept_or (value_in plan (results plan faults v) q)) (others None by (none-some v))
        ∙ kept (value_in plan (results plan faults v) q)
        ∙ value_none plan faults v q None by (λ u same. absurd (none-some u same))
        ∙ sym (value_none plan faults (v + 1) q None by (λ u same. absurd (none-some u same)))
    by_putter (Some u) by = elim (cases_lt u v) [
      | inl lower ↦
          let inside = within in
          let (other, there) = node_there plan u (omega arith) in
          ap (kept_or (value_in plan (results plan faults v) q)) (others (Some u) by (λ same. let e = same_Some u v same in absurd (omega arith)))
          ∙ kept (value_in plan (results plan faults v) q)
          ∙ value_there plan faults v q u other by there lower
          ∙ sym (value_there plan faults (v + 1) q u other by there (omega arith))
      | inr late ↦ elim (cases_lt v u) [
        | inl higher ↦
            ap (kept_or (value_in plan (results plan faults v) q)) (others (Some u) by (λ same. let e = same_Some u v same in absurd (omega arith)))
            ∙ kept (value_in plan (results plan faults v) q)
            ∙ value_none plan faults v q (Some u) by (λ w same. let e = same_Some u w same in omega arith)
            ∙ sym (value_none plan faults (v + 1) q (Some u) by (λ w same. let e = same_Some u w same in omega arith))
        | inr here ↦
            let same : u ≡ v = omega arith in
            let own : putter_of plan.promises q ≡ Some v = by ∙ ap Some same in
            let among = among_puts plan v q node lawful at own in
            ap (λ (o : Option (List ℕ)). kept_or o (words_put q (made_by node.puts r.verdict r.accepted))) (value_none plan faults v q (Some u) by (λ w is_w. let e = same_Some u w is_w in omega arith))
            ∙ own_put node.puts q r.verdict r.accepted among
            ∙ ap (value_by q) is
            ∙ sym (value_there plan faults (v + 1) q v node own at (omega arith))
      ]
    ]
