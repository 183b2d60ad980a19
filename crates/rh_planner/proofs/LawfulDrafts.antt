-- What is planned of a lawful text whose lines keep the rules is lawful.
use Rattle.std.proofs.Common.{◌≡◌, ℕ, suc, ◌+◌, ◌-◌, ◌≤◌, List, [], ◌∷◌, ◌++◌, Bool, true, false, Option, Some, None, length, map, refl, arith, ap, sym, ◌∙◌, subst, ◌⊎◌, inl, inr, append-nil, append_assoc}
use Rattle.std.proofs.lemmas.List.{map-append}
use Rattle.std.specs.Prelude.{option_to_list, slice_get, IsSomeAnd, option_and_then, nat_eq, ◌||◌}
use Rattle.std.specs.List.{AllByRecursion, IsDistinct}
use Rattle.std.specs.Str.{bytes_eq}
use Rattle.std.proofs.lemmas.Bool.{false≢true, true≢false}
use Rattle.std.proofs.lemmas.Bool.Decides.{eqb_tells}
use Rattle.std.proofs.lemmas.Option.{none-some, same_Some}
use Rattle.rh_task_text.specs.declared.statement.Statement.{Statement}
use Rattle.rh_rules.specs.declared.shape.Shape.{Shape}
use Rattle.rh_rules.specs.declared.node.Scheme.{Scheme}
use Rattle.rh_task_text.specs.declared.form.Block.{Block}
use Rattle.rh_task_text.specs.Blocks.{open_blocks, innermost, rows_here}
use Rattle.rh_task_text.specs.Program.{ProgramText, IsLawfulText, AllStand, upward}
use Rattle.rh_rules.specs.declared.body.Step.{Step}
use Rattle.rh_rules.specs.declared.node.Node.{Node}
use Rattle.rh_rules.specs.declared.node.Kind.TheVariants as kinds
use Rattle.rh_rules.specs.declared.node.Scheme.TheVariants as schemes
use Rattle.rh_rules.specs.declared.node.PlannedPromise.{PlannedPromise}
use Rattle.rh_rules.specs.Tables.{is_among, is_in}
use Rattle.rh_rules.specs.Bodies.{promises_put}
use Rattle.rh_rules.specs.Rules.{AllKeep, may_check, is_corrected}
use Rattle.rh_rules.specs.Facets.{facets}
use Rattle.rh_rules.specs.declared.shape.NamedShape.{NamedShape}
use Rattle.rh_rules.specs.Bodies.{shapes_of}
use Rattle.rh_sparse.specs.Matrix.{MatrixData}
use Rattle.rh_rules.specs.declared.block.OpenBlock.{OpenBlock}
use Rattle.rh_rules.specs.Above.{Facts, facts_above, nodes_above, promises_above, matrices_above, closed_above, task_node, group_node, scope_node}
use Rattle.rh_rules.specs.Lawful.{AreLawful, IsLawfulNode, IsLawfulPromise, IsEnclosedBelow, IsAmong, IsLawfulScheme, product_checks}
use Rattle.rh_planner.specs.Planned.{look_above, IsDraftOf}
use Rattle.rh_planner.specs.Sound.{IsIdle, IsIdleIn, nodes_open, AreCounted, IsPlannedScheme, shapes_named, AreClosed, AreShaped}
use Rattle.rh_planner.proofs.OpenBlocks.{none_closed}
use Rattle.rh_tables.proofs.Members.{members_below, members_once}
use Rattle.rh_planner.proofs.DeclaredPromises.{all_at, putter_at, scope_at}
use Rattle.rh_check.specs.Users.{HandedChecks, ArePaired}
use Rattle.rh_planner.proofs.Wholes.{facts_next}
use Rattle.rh_planner.proofs.Counting.{counted}
use Rattle.rh_tables.proofs.SoundTasks.{scope_of, some_is, some_parts, all_map}
use Rattle.rh_planner.proofs.SoundFacts.{AreSound, IsSoundPromise, IsSoundNode, a_task, a_group, a_scope, IsTaskNode, IsGroupNode, IsScopeNode, block_names, scope_names, idle_task, no_names, no_numbers, distinct_push}
use Rattle.rh_planner.proofs.LocalNames.{no_locals}
use Rattle.rh_planner.proofs.SoundLines.{sound_next}

nothing_above : (shapes : List Shape) (handed : HandedChecks) → AreSound shapes (facts_above (look_above handed) [])
nothing_above shapes handed = record {
  promise_names = record { once = no_names; there = tt };
  node_names = record { once = no_names; there = tt };
  blocks = tt;
  promises = tt;
  few = omega arith;
  total = omega arith;
  shown = omega arith;
  ended = λ v node at. absurd (none-some node at);
  matrices = tt;
  enclosed = λ v node at. absurd (none-some node at);
  task = idle_task shapes [] 0;
  lens = refl;
  drops = refl;
  drops_within = tt;
  named = no_locals [];
  checks = tt;
  unchecked = λ none. refl;
  put = λ q v e. absurd (none-some v e);
  scopes = λ q p at scope none. absurd (none-some p at);
}

-- the matrices above a line begin those above the next
shapes_next : (shapes more : List Shape) (above : List Statement) (s : Statement) → shapes ≡ shapes_named (matrices_above (s ∷ above)) ++ more → shapes ≡ shapes_named (matrices_above above) ++ (shapes_named (option_to_list (facets s).shaped) ++ more)
shapes_next shapes more above s whole =
    let one : List NamedShape = option_to_list (facets s).shaped in
    whole
    ∙ ap (λ (l : List Shape). l ++ more) (map-append (λ (m : NamedShape). m.shape) (matrices_above above) one)
    ∙ append_assoc (shapes_named (matrices_above above)) (shapes_named one) more

-- The facts above each line of a lawful text whose lines keep the rules, with shapes that begin with those of the matrices above.
pub sound_facts : (shapes more : List Shape) (handed : HandedChecks) → ArePaired handed → (above : List Statement) → shapes ≡ shapes_named (matrices_above above) ++ more → AllStand above → AllKeep (look_above handed) above → AreSound shapes (facts_above (look_above handed) above)
sound_facts shapes more handed paired [] whole stand kept = nothing_above shapes handed
sound_facts shapes more handed paired (s ∷ above) whole stand kept =
    let rest : List Shape = shapes_named (option_to_list (facets s).shaped) ++ more in
    let here : shapes ≡ shapes_named (matrices_above above) ++ rest = shapes_next shapes more above s whole in
    let before = sound_facts shapes rest handed paired above here stand.1 kept.1 in
    subst (AreSound shapes) (sym (facts_next (look_above handed) above s)) (sound_next shapes rest handed paired above (facts_above (look_above handed) above) s here (counted handed above stand.1 kept.1) before stand.1 stand.0 kept.0)

lawful_scheme : (node : Node) (scheme : Scheme) → IsPlannedScheme scheme → (may_check scheme ≡ false → node.checks ≡ []) → (is_corrected scheme ≡ true → length (product_checks node.checks) ≡ 1) → IsLawfulScheme node scheme
lawful_scheme node schemes.Plain planned unchecked corrected = unchecked refl
lawful_scheme node schemes.Replicate planned unchecked corrected = unchecked refl
lawful_scheme node (schemes.Replay limit) planned unchecked corrected = planned
lawful_scheme node schemes.Abft planned unchecked corrected = corrected refl

-- what is said of each node beside its kind
lawful_task : (shapes : List Shape) (ps : List PlannedPromise) (ns : List Node) (v : ℕ) (node : Node) → IsEnclosedBelow ns v node.group → IsTaskNode shapes ps v node → IsLawfulNode shapes ps ns v node
lawful_task shapes ps ns v node enclosed h =
    let same : Node = task_node node.name node.scheme node.awaits node.lets node.group node.body node.checks in
    let lawful : IsLawfulNode shapes ps ns v same = record {
      name = h.name;
      awaited = h.task.awaited;
      awaits_once = h.task.awaits_once;
      few_awaits = h.few;
      few_checks = h.few_checks;
      enclosed = enclosed;
      members = tt;
      own = h.task.own;
      once = h.task.once;
      kind = record {
        sound = h.task.sound;
        puts = refl;
        dropped = h.task.dropped;
        drops_once = h.task.drops_once;
        few_locals = h.few_locals;
        short_locals = h.task.short;
        checks = all_map node.checks (λ c sound. record { put = sound.put; fits = sound.fits }) h.checks;
        scheme = lawful_scheme same node.scheme h.planned h.unchecked h.corrected;
        all_named = h.all_named;
        lets_named = h.lets_named;
        names_once = h.names_once;
        members = refl;
      };
    } in
    subst (IsLawfulNode shapes ps ns v) (sym h.is) lawful

lawful_group : (shapes : List Shape) (ps : List PlannedPromise) (ns : List Node) (v : ℕ) (node : Node) → IsEnclosedBelow ns v node.group → IsGroupNode ps v node → IsLawfulNode shapes ps ns v node
lawful_group shapes ps ns v node enclosed h =
    let same : Node = group_node node.name node.awaits node.group in
    let lawful : IsLawfulNode shapes ps ns v same = record {
      name = h.name;
      awaited = h.awaited;
      awaits_once = h.awaits_once;
      few_awaits = h.few;
      few_checks = omega arith;
      enclosed = enclosed;
      members = tt;
      own = tt;
      once = no_numbers;
      kind = record { bodiless = record { body = refl; checks = refl; lets = refl; scheme = refl }; puts = refl; members = refl };
    } in
    subst (IsLawfulNode shapes ps ns v) (sym h.is) lawful

lawful_scope : (shapes : List Shape) (ps : List PlannedPromise) (ns : List Node) (v : ℕ) (node : Node) → IsEnclosedBelow ns v node.group → IsScopeNode ps v node → IsLawfulNode shapes ps ns v node
lawful_scope shapes ps ns v node enclosed h =
    let same : Node = scope_node node.name h.own node.group h.first v in
    let lawful : IsLawfulNode shapes ps ns v same = record {
      name = h.name;
      awaited = tt;
      awaits_once = no_numbers;
      few_awaits = omega arith;
      few_checks = omega arith;
      enclosed = enclosed;
      members = members_below h.first v;
      own = (h.put, tt);
      once = distinct_push [] h.own no_numbers tt;
      kind = record { bodiless = record { body = refl; checks = refl; lets = refl; scheme = refl }; awaits = refl; own = (h.own, refl, h.len); members_once = members_once h.first (v - h.first) };
    } in
    subst (IsLawfulNode shapes ps ns v) (sym h.is) lawful

lawful_node : (shapes : List Shape) (ps : List PlannedPromise) (ns : List Node) (v : ℕ) (node : Node) → IsEnclosedBelow ns v node.group → IsSoundNode shapes ps v node → IsLawfulNode shapes ps ns v node
lawful_node shapes ps ns v node enclosed (a_task h) = lawful_task shapes ps ns v node enclosed h
lawful_node shapes ps ns v node enclosed (a_group h) = lawful_group shapes ps ns v node enclosed h
lawful_node shapes ps ns v node enclosed (a_scope h) = lawful_scope shapes ps ns v node enclosed h

among_all : (P : ℕ → Type 0) (ns : List ℕ) (q : ℕ) → AllByRecursion P ns → IsAmong ns q → P q
among_all P [] q all e = absurd (false≢true e)
among_all P (n ∷ ns) q all e = elim (eqb_tells n q) [
  | inl same ↦ subst P same.1 all.0
  | inr other ↦ among_all P ns q all.1 (left (nat_eq n q) (is_in q ns) other.0 e)
]
  where
    left : (a b : Bool) → a ≡ false → (a || b) ≡ true → b ≡ true
    left true b h e = absurd (true≢false h)
    left false b h e = e

-- what a node puts is a scope's own promise exactly where it is a scope
puts_own : (shapes : List Shape) (ps : List PlannedPromise) (v : ℕ) (node : Node) (q : ℕ) → IsSoundNode shapes ps v node → IsAmong node.puts q → ((node.kind ≡ kinds.Scope) × (scope_of ps q ≡ Some true)) ⊎ ((node.kind ≡ kinds.Task) × (scope_of ps q ≡ Some false))
puts_own shapes ps v node q (a_task h) among =
    inr (ap (λ (n : Node). n.kind) h.is, among_all (λ k. scope_of ps k ≡ Some false) (promises_put node.body) q h.task.unscoped (subst (λ (n : Node). IsAmong n.puts q) h.is among))
puts_own shapes ps v node q (a_group h) among = absurd (false≢true (subst (λ (n : Node). IsAmong n.puts q) h.is among))
puts_own shapes ps v node q (a_scope h) among =
    inl (ap (λ (n : Node). n.kind) h.is, among_all (λ k. scope_of ps k ≡ Some true) (h.own ∷ []) q (h.scope, tt) (subst (λ (n : Node). IsAmong n.puts q) h.is among))

of_some : (a b : Bool) → Some a ≡ Some b → a ≡ b
of_some a b e = same_Some a b e

-- the node that puts a promise, at the end of a text
putter_node : (shapes : List Shape) (f : Facts) (q v : ℕ) (p : PlannedPromise) → AreSound shapes f → f.steps ≡ [] → slice_get f.promises q ≡ Some p → p.putter ≡ Some v
    → (node : Node) × (slice_get f.nodes v ≡ Some node) × (((node.kind ≡ kinds.Scope) × (p.scope ≡ true)) ⊎ ((node.kind ≡ kinds.Task) × (p.scope ≡ false)))
putter_node shapes f q v p s idle at put = elim (s.put q v (putter_at f.promises q p at ∙ put)) [
  | inl ended ↦
      let (node, here, among) = some_parts (λ (n : Node). IsAmong n.puts q) (slice_get f.nodes v) ended in
      let is = scope_at f.promises q p at in (
        node,
        here,
        elim (puts_own shapes f.promises v node q (s.ended v node here) among) [
          | inl scope ↦ inl (scope.0, of_some p.scope true (sym is ∙ scope.1))
          | inr task ↦ inr (task.0, of_some p.scope false (sym is ∙ task.1))
        ],
      )
  | inr open_one ↦ absurd (false≢true (subst (λ (l : List Step). IsAmong (promises_put l) q) idle open_one.1))
]

-- some node is that of a scope
IsScopeAt : List Node → Option ℕ → Type 0
IsScopeAt ns o = IsSomeAnd (option_and_then (λ v. slice_get ns v) o) (λ node. node.kind ≡ kinds.Scope)

own_scope : (shapes : List Shape) (f : Facts) (q : ℕ) (p : PlannedPromise) (o : Option ℕ) → p.putter ≡ o → AreSound shapes f → f.steps ≡ [] → f.blocks ≡ [] → slice_get f.promises q ≡ Some p → p.scope ≡ true → IsScopeAt f.nodes o
unfolding IsScopeAt
own_scope shapes f q p None put s idle free at scope = absurd (false≢true (subst (λ (l : List OpenBlock). is_among p.name (scope_names l) ≡ true) free (s.scopes q p at scope put)))
own_scope shapes f q p (Some v) put s idle free at scope =
    let (node, here, by) = putter_node shapes f q v p s idle at put in
    elim by [
      | inl is ↦ some_is (λ (n : Node). n.kind ≡ kinds.Scope) (slice_get f.nodes v) node here is.0
      | inr is ↦ absurd (true≢false (sym scope ∙ is.1))
    ]

scope_own : (shapes : List Shape) (f : Facts) (q : ℕ) (p : PlannedPromise) (o : Option ℕ) → p.putter ≡ o → AreSound shapes f → f.steps ≡ [] → slice_get f.promises q ≡ Some p → IsScopeAt f.nodes o → p.scope ≡ true
unfolding IsScopeAt
scope_own shapes f q p None put s idle at h = absurd h
scope_own shapes f q p (Some v) put s idle at h =
    let (scope, there, kind) = some_parts (λ (n : Node). n.kind ≡ kinds.Scope) (slice_get f.nodes v) h in
    let (node, here, by) = putter_node shapes f q v p s idle at put in
    elim by [
      | inl is ↦ is.1
      | inr is ↦
          let never : kinds.Task ≡ kinds.Scope = sym is.0 ∙ ap (λ (n : Node). n.kind) (same_Some node scope (sym here ∙ there)) ∙ kind in
          cc
    ]

lawful_promise : (shapes : List Shape) (f : Facts) (q : ℕ) (p : PlannedPromise) → AreSound shapes f → f.steps ≡ [] → f.blocks ≡ [] → slice_get f.promises q ≡ Some p → IsLawfulPromise f.nodes p
unfolding IsScopeAt
lawful_promise shapes f q p s idle free at =
    let h = all_at IsSoundPromise f.promises q p s.promises at in
    record {
      name = h.name;
      len = h.len;
      scope = (own_scope shapes f q p p.putter refl s idle free at, scope_own shapes f q p p.putter refl s idle at);
    }

all_placed : (P : PlannedPromise → Type 0) (ps : List PlannedPromise) → ((q : ℕ) (p : PlannedPromise) → slice_get ps q ≡ Some p → P p) → AllByRecursion P ps
all_placed P [] h = tt
all_placed P (p ∷ ps) h = (h 0 p refl, all_placed P ps (λ q x at. h (suc q) x at))

-- facts that are sound, where no task is open, are lawful
lawful_facts : (shapes : List Shape) (above : List Statement) (f : Facts) → AreCounted above f → AreSound shapes f → open_blocks above ≡ [] → AreLawful shapes f.nodes f.promises
lawful_facts shapes above f c s closed =
    let free : f.blocks ≡ [] = none_closed (open_blocks above) f.blocks c.blocks closed in
    let idle : IsIdle f = subst (λ (l : List OpenBlock). IsIdleIn l f) free c.idle in
    let names : List (List ℕ) = map (λ (node : Node). node.name) f.nodes in
    let counted : length f.nodes ≡ f.count = c.counted in
    let room : f.count + nodes_open f.blocks ≤ 16384 = c.room in
    record {
      nodes = λ v node at. lawful_node shapes f.promises f.nodes v node (s.enclosed v node at) (s.ended v node at);
      promises = all_placed (IsLawfulPromise f.nodes) f.promises (λ q p at. lawful_promise shapes f q p s idle.steps free at);
      put = λ q v e. elim (s.put q v e) [
        | inl ended ↦ ended
        | inr open_one ↦ absurd (false≢true (subst (λ (l : List Step). IsAmong (promises_put l) q) idle.steps open_one.1))
      ];
      node_names = subst (IsDistinct bytes_eq) (ap (λ (l : List OpenBlock). names ++ block_names l) free ∙ append-nil names) s.node_names.once;
      promise_names = s.promise_names.once;
      few_nodes = omega arith;
      few_promises = s.few;
      total = s.total;
      shown = s.shown;
    }

-- where no matrix is open, the matrices that are closed have the shapes of the lines
closed_shapes : (above : List Statement) (f : Facts) → AreCounted above f → open_blocks above ≡ [] → shapes_named f.matrices ≡ shapes_of f.closed
closed_shapes above f c closed =
    let none : AreClosed f = subst (λ (bs : List Block). AreShaped (innermost bs) (rows_here above) f) closed c.shaped in
    none.shapes

pub lawful_drafts : (handed : HandedChecks) → ArePaired handed → (text : ProgramText) → IsLawfulText text → AllKeep (look_above handed) (upward text.items) → AreLawful (shapes_of (closed_above (upward text.items))) (nodes_above (look_above handed) (upward text.items)) (promises_above (upward text.items))
lawful_drafts handed paired text lawful kept =
    let above : List Statement = upward text.items in
    let f : Facts = facts_above (look_above handed) above in
    let c = counted handed above lawful.lawful kept in
    let shapes : List Shape = shapes_named (matrices_above above) in
    let sound = sound_facts shapes [] handed paired above (sym (append-nil shapes)) lawful.lawful kept in
    subst (λ (l : List Shape). AreLawful l f.nodes f.promises) (closed_shapes above f c lawful.closed) (lawful_facts shapes above f c sound lawful.closed)

-- and so is what a text is planned as
pub planned_lawful : (handed : HandedChecks) (text : ProgramText) (ns : List Node) (ps : List PlannedPromise) (ms : List MatrixData) → ArePaired handed → IsLawfulText text → IsDraftOf handed text ns ps ms → AreLawful (shapes_of ms) ns ps
planned_lawful handed text ns ps ms paired lawful planned =
    let look = look_above handed in
    let above : List Statement = upward text.items in
    subst (λ (l : List Node). AreLawful (shapes_of ms) l ps) (sym planned.nodes)
    (subst (λ (l : List PlannedPromise). AreLawful (shapes_of ms) (nodes_above look above) l) (sym planned.promises)
    (subst (λ (l : List MatrixData). AreLawful (shapes_of l) (nodes_above look above) (promises_above above)) (sym planned.matrices) (lawful_drafts handed paired text lawful planned.kept)))
