use Rattle.std.proofs.Common.{◌≡◌, ◌≤◌, ◌+◌, ◌++◌, ◌∷◌, [], ℕ, List, suc, length, map, slice_index, arith, ap, sym, ◌∙◌, inl, inr, length-append}
use Rattle.std.proofs.lemmas.Bool.{cases_lt}
use Rattle.std.proofs.lemmas.List.{get_or_append_left, get_or-append-add, get_or_past}
use Rattle.rh_plan.specs.declared.edge.Edge.{Edge}
use Rattle.rh_plan.specs.Derived.{levels_by, level_after, places_of}
use Rattle.rh_plan.proofs.KeyPlaces.{is_part, part_places}
use Rattle.rh_plan.proofs.levels.levels_of.Invariants.{AreLevels}
use Rattle.rh_plan.proofs.levels.levels_of.Goals as goal

none_yet : (sources targets levels : List ℕ) → levels ≡ [] → AreLevels sources targets levels 0
unfolding levels_by
none_yet sources targets levels none = record { value = none; len = ap length none; low = λ v. let past : slice_index levels v ≡ 0 = ap (λ (l : List ℕ). slice_index l v) none ∙ get_or_past {X = ℕ} [] v 0 (omega arith) in omega arith }

low_more : (levels : List ℕ) (n level v : ℕ) → length levels ≡ n → ((u : ℕ) → slice_index levels u ≤ n) → level ≤ n + 1 → slice_index (levels ++ level ∷ []) v ≤ n + 1
low_more levels n level v len low high = elim (cases_lt v n) [
  | inl old ↦
      let same = get_or_append_left levels (level ∷ []) 0 v (omega arith) in
      let was = low v in
      omega arith
  | inr new ↦ elim (cases_lt n v) [
    | inl past ↦
        let long = length-append levels (level ∷ []) in
        let none = get_or_past (levels ++ level ∷ []) v 0 (omega arith) in
        omega arith
    | inr here ↦
        let at : v ≡ length levels + 0 = omega arith in
        let is : slice_index (levels ++ level ∷ []) v ≡ level = ap (slice_index (levels ++ level ∷ [])) at ∙ get_or-append-add levels (level ∷ []) 0 0 in
        omega arith
  ]
]

next_level : (sources targets levels edges items : List ℕ) (n level : ℕ) → AreLevels sources targets levels n → edges ≡ places_of n targets → level ≡ level_after sources levels edges → level ≤ n + 1 → items ≡ levels ++ level ∷ [] → AreLevels sources targets items (n + 1)
unfolding levels_by
next_level sources targets levels edges items n level are is same high more =
    let next : n + 1 ≡ suc n = omega arith in
    let here : level ≡ level_after sources (levels_by sources targets n) (places_of n targets) = same ∙ ap (λ (l : List ℕ). level_after sources l edges) are.value ∙ ap (level_after sources (levels_by sources targets n)) is in
    let value : items ≡ levels_by sources targets (suc n) = more ∙ ap (λ (l : List ℕ). l ++ level ∷ []) are.value ∙ ap (λ (m : ℕ). levels_by sources targets n ++ m ∷ []) here in
    record {
      value = value ∙ sym (ap (levels_by sources targets) next);
      len = ap length more ∙ length-append levels (level ∷ []) ∙ omega (arith, are.len);
      low = λ v. let at : slice_index items v ≡ slice_index (levels ++ level ∷ []) v = ap (λ (l : List ℕ). slice_index l v) more in omega (arith, low_more levels n level v are.len are.low high);
    }

pub loop-node-init : goal.loop-node-init
loop-node-init c = none_yet (map (λ (e : Edge). e.from) c.args.edges.now) (map (λ (e : Edge). e.to) c.args.edges.now) c.in_ok-levels.levels.items c.in_ok-levels.ensures.items

pub group_of-requires : goal.group_of-requires
group_of-requires c = is_part (map (λ (e : Edge). e.to) c.args.edges.now) c.args.n c.args.into.now c.loop-node.node c.requires.into c.loop-node-test.true

pub loop-node-preserved : goal.loop-node-preserved
loop-node-preserved c =
    let are = c.loop-node.invariant in
    let levels : c.deref.result.now ≡ c.loop-node.levels.items = c.deref.ensures.value in
    let long : length c.deref.result.now ≡ length c.loop-node.levels.items = ap length levels in
    let len = are.len in
    let low = c.level_after-level.ensures.low in
    next_level (map (λ (e : Edge). e.from) c.args.edges.now) (map (λ (e : Edge). e.to) c.args.edges.now) c.loop-node.levels.items c.group_of.result.now c.push.new.self.items c.loop-node.node c.level_after-level.result are
    (c.group_of.ensures ∙ part_places (map (λ (e : Edge). e.to) c.args.edges.now) c.args.n c.args.into.now c.loop-node.node c.requires.into c.loop-node-test.true)
    (c.level_after-level.ensures.value ∙ ap (λ (l : List ℕ). level_after (map (λ (e : Edge). e.from) c.args.edges.now) l c.group_of.result.now) levels)
    (omega arith)
    c.in_ok-push.ensures.items
