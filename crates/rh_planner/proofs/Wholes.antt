-- From line to line over a whole text.
use Rattle.std.proofs.Common.{◌≡◌, ℕ, ◌+◌, ◌<◌, List, [], ◌∷◌, ◌++◌, Option, None, refl, length, get_or, take, drop, map, reverse, sym, ap, ◌∙◌, subst, append_assoc}
use Rattle.std.proofs.lemmas.List.{map-append, reverse-append, take-append-drop, drop_more, take_more}
use Rattle.rh_words.specs.declared.reason.Reason.{Reason}
use Rattle.rh_task_text.specs.declared.statement.Statement.{Statement}
use Rattle.rh_task_text.specs.declared.statement.Statement.TheVariants as text
use Rattle.rh_task_text.specs.declared.statement.Item.{Item}
use Rattle.rh_task_text.specs.Program.{upward}
use Rattle.rh_check.specs.Users.{HandedChecks}
use Rattle.rh_rules.specs.Facets.{Turn, Opens, Closes, Stays, turn}
use Rattle.rh_rules.specs.declared.block.OpenBlock.{OpenBlock}
use Rattle.rh_rules.specs.Above.{Look, opened, block_of, opening_block, nodes_counted, adds_nodes, ends_opened, ended_node, nodes_by, blocks_above, Facts, facts_above}
use Rattle.rh_rules.specs.Rules.{reason_in, reason_at}
use Rattle.rh_planner.specs.declared.planner.Planner.{Planner}
use Rattle.rh_planner.specs.Following.{after}
use Rattle.rh_planner.specs.Planned.{look_above}
use Rattle.rh_planner.specs.States.{facts_of, HasFacts, Judges}

drop_one : (o : List (List Statement)) → map block_of (drop 1 o) ≡ drop 1 (map block_of o)
drop_one [] = refl
drop_one (b ∷ o) = refl

blocks_turned : (above : List Statement) (s : Statement) (t : Turn) → map block_of (elim t [ Opens ↦ (s ∷ above) ∷ opened above | Closes ↦ drop 1 (opened above) | Stays ↦ opened above ])
    ≡ elim t [ Opens ↦ opening_block (nodes_counted above) s ∷ blocks_above above | Closes ↦ drop 1 (blocks_above above) | Stays ↦ blocks_above above ]
blocks_turned above s Opens = refl
blocks_turned above s Closes = drop_one (opened above)
blocks_turned above s Stays = refl

ends : (f : Facts) (o : List (List Statement)) → ends_opened o ≡ length (ended_node f (map block_of o))
ends f [] = refl
ends f ([] ∷ o) = refl
ends f ((text.Task name scheme names ∷ up) ∷ o) = refl
ends f ((text.Finish name ∷ up) ∷ o) = refl
ends f ((s ∷ up) ∷ o) = refl

adds : (look : Look) (f : Facts) (o : List (List Statement)) (s : Statement) → f.blocks ≡ map block_of o → adds_nodes o s ≡ length (nodes_by look f s)
adds look f o (text.Group name names) same = refl
adds look f o text.End same = ends f o ∙ ap (λ (b : List OpenBlock). length (ended_node f b)) (sym same)
adds look f o s same = refl

-- one more statement adds to the facts above what it adds
pub facts_next : (look : Look) (above : List Statement) (s : Statement) → facts_above look (s ∷ above) ≡ after look (facts_above look above) s
facts_next look above s =
    let blocks = blocks_turned above s (turn s) in
    let count : nodes_counted above + adds_nodes (opened above) s ≡ nodes_counted above + length (nodes_by look (facts_above look above) s) =
    ap (λ (n : ℕ). nodes_counted above + n) (adds look (facts_above look above) (opened above) s refl) in
    ap (λ (b : List OpenBlock). record (facts_above look (s ∷ above)) { blocks = b }) blocks
    ∙ ap (λ (n : ℕ). record (after look (facts_above look above) s) { count = n }) count

-- a planner that has these facts is these facts
pub same_facts : (p : Planner) (f : Facts) → HasFacts p f → facts_of p ≡ f
same_facts p f h = rw (h.count, h.nodes, h.names, h.promises, h.matrices, h.closed, h.begun, h.blocks, h.inputs, h.locals, h.drops, h.steps, h.scheme, h.checks) refl

-- what a judged statement leaves, by the statements above
pub judged_next : (handed : HandedChecks) (above : List Statement) (s : Statement) (old new : Planner) → old.handed ≡ handed → HasFacts old (facts_above (look_above handed) above) → Judges old s new None → HasFacts new (facts_above (look_above handed) (s ∷ above))
judged_next handed above s old new same has judges = subst (λ (h : HandedChecks). HasFacts old (facts_above (look_above h) above) → HasFacts new (facts_above (look_above h) (s ∷ above))) same
    (λ here. subst (HasFacts new) (ap (λ (f : Facts). after (look_above old.handed) f s) (same_facts old (facts_above (look_above old.handed) above) here) ∙ sym (facts_next (look_above old.handed) above s)) (judges.tables refl)) has

pub judged_reason : (handed : HandedChecks) (above : List Statement) (s : Statement) (old new : Planner) (answer : Option Reason) → old.handed ≡ handed → HasFacts old (facts_above (look_above handed) above) → Judges old s new answer → reason_at (look_above handed) above s ≡ answer
judged_reason handed above s old new answer same has judges = subst (λ (h : HandedChecks). HasFacts old (facts_above (look_above h) above) → reason_at (look_above h) above s ≡ answer) same
    (λ here. ap (λ (f : Facts). reason_in (look_above old.handed) f s) (sym (same_facts old (facts_above (look_above old.handed) above) here)) ∙ sym judges.reason) has

pub upward_append : (before : List Item) (item : Item) (after : List Item) → upward (before ++ item ∷ after) ≡ upward after ++ item.statement ∷ upward before
upward_append before item after =
    let statements = λ (items : List Item). map (λ (i : Item). i.statement) items in
    ap reverse (map-append (λ (i : Item). i.statement) before (item ∷ after))
    ∙ reverse-append (statements before) (item.statement ∷ statements after)
    ∙ ap (λ (l : List Statement). l ++ upward before) (reverse-append (item.statement ∷ []) (statements after))
    ∙ append_assoc (upward after) (item.statement ∷ []) (upward before)

pub upward_next : (items : List Item) (i : ℕ) (item : Item) → i < length items → item ≡ get_or items i item → upward (take (i + 1) items) ≡ item.statement ∷ upward (take i items)
upward_next items i item h is =
    ap (λ (l : List Item). upward l) (take_more items i item h ∙ ap (λ (x : Item). take i items ++ x ∷ []) (sym is)) ∙ upward_append (take i items) item []

pub split_at : (items : List Item) (i : ℕ) (item : Item) → i < length items → item ≡ get_or items i item → items ≡ take i items ++ item ∷ drop (i + 1) items
split_at items i item h is =
    sym (take-append-drop i items) ∙ ap (λ (l : List Item). take i items ++ l) (drop_more items i item h ∙ ap (λ (x : Item). x ∷ drop (i + 1) items) (sym is))
