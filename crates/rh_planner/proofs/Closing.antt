-- An `end` is judged by the block that it closes.
use Rattle.std.proofs.Common.{◌≡◌, ◌∙◌, ◌+◌, List, [], ◌∷◌, ◌++◌, Bool, true, false, ◌||◌, Option, Some, None, cond, not, length, refl, sym, ap, subst, append-nil, length-append, drop}
use Rattle.std.specs.Prelude.{◌&&◌, nat_le, option_to_list, MatchOption}
use Rattle.rh_words.specs.declared.limits.TheConstants.{MAX_NODES}
use Rattle.rh_words.specs.declared.reason.Reason.TheVariants.{Scheme, PlanLimit}
use Rattle.rh_task_text.specs.declared.statement.Statement.TheVariants as text
use Rattle.rh_rules.specs.declared.node.PlannedPromise.{PlannedPromise}
use Rattle.rh_rules.specs.declared.node.Node.{Node}
use Rattle.rh_rules.specs.declared.node.Scheme.TheVariants.{Plain}
use Rattle.rh_rules.specs.declared.block.OpenBlock.{OpenBlock}
use Rattle.rh_rules.specs.declared.block.OpenBlock.TheVariants.{TaskBlock, MatrixBlock, GroupBlock, ScopeBlock}
use Rattle.rh_rules.specs.Lawful.{has_product}
use Rattle.rh_rules.specs.Tables.{put_all}
use Rattle.rh_rules.specs.Facets.{facets}
use Rattle.rh_rules.specs.Above.{Look, Facts, ended_node, group_in, put_at_end}
use Rattle.rh_rules.specs.Rules.{reason_in, is_corrected, is_node_line}
use Rattle.rh_tables.specs.Declarations.{declarations, Declarations}
use Rattle.rh_tables.specs.declared.open_task.OpenTask.{OpenTask}
use Rattle.rh_planner.specs.declared.planner.Planner.{Planner}
use Rattle.rh_planner.specs.Planned.{look_above}
use Rattle.rh_planner.specs.Following.{after}
use Rattle.rh_planner.specs.States.{HasFacts, IsClosable, Judges, facts_of, nodes_ended}
use Rattle.rh_planner.proofs.After.{with_closed}

or_false : (b : Bool) → (b || false) ≡ b
or_false true = refl
or_false false = refl

-- the reason of an `end`
pub reason_end : (look : Look) (f : Facts) → reason_in look f text.End ≡
    cond (is_corrected f.scheme && not (has_product f.checks)) (Some Scheme) (cond (is_node_line f.blocks text.End && nat_le MAX_NODES f.count) (Some PlanLimit) None)
unfolding facets
reason_end look f = simp or_false

-- an `end` of a task with correction that has no check of a product
pub reason_uncorrected : (look : Look) (f : Facts) → (is_corrected f.scheme && not (has_product f.checks)) ≡ true → reason_in look f text.End ≡ Some Scheme
reason_uncorrected look f e = reason_end look f
    ∙ ap (λ (b : Bool). cond b (Some Scheme) (cond (is_node_line f.blocks text.End && nat_le MAX_NODES f.count) (Some PlanLimit) None)) e

-- the innermost of the blocks is popped, and these are the others
abbrev pub IsPopped : Option OpenBlock → List OpenBlock → List OpenBlock → Type 0
IsPopped block blocks outer = MatchOption block ((blocks ≡ []) × (outer ≡ [])) (λ (b : OpenBlock). blocks ≡ b ∷ outer)

node_line : (block : Option OpenBlock) (blocks outer : List OpenBlock) → IsPopped block blocks outer → is_node_line blocks text.End ≡ is_node_line (option_to_list block) text.End
node_line None blocks outer both = ap (λ (l : List OpenBlock). is_node_line l text.End) both.0
node_line (Some (TaskBlock name)) blocks outer is = ap (λ (l : List OpenBlock). is_node_line l text.End) is
node_line (Some (ScopeBlock name first)) blocks outer is = ap (λ (l : List OpenBlock). is_node_line l text.End) is
node_line (Some (GroupBlock number)) blocks outer is = ap (λ (l : List OpenBlock). is_node_line l text.End) is
node_line (Some MatrixBlock) blocks outer is = ap (λ (l : List OpenBlock). is_node_line l text.End) is

-- and else that the node of a scope finds no room
pub reason_closed : (look : Look) (f : Facts) (block : Option OpenBlock) (outer : List OpenBlock) → IsPopped block f.blocks outer → (is_corrected f.scheme && not (has_product f.checks)) ≡ false
    → reason_in look f text.End ≡ cond (is_node_line (option_to_list block) text.End && nat_le MAX_NODES f.count) (Some PlanLimit) None
reason_closed look f block outer is e = reason_end look f
    ∙ ap (λ (b : Bool). cond b (Some Scheme) (cond (is_node_line f.blocks text.End && nat_le MAX_NODES f.count) (Some PlanLimit) None)) e
    ∙ ap (λ (b : Bool). cond (b && nat_le MAX_NODES f.count) (Some PlanLimit) None) (node_line block f.blocks outer is)

-- the facts below an `end`, with these blocks left open, these promises and these nodes more
abbrev pub with_ended : Facts → List OpenBlock → List PlannedPromise → List Node → Facts
with_ended f outer promises nodes = record (with_closed f outer) {
  promises = promises;
  count = f.count + length nodes;
  nodes = f.nodes ++ nodes;
}

after_closing : (look : Look) (f : Facts) → after look f text.End ≡ with_ended f (drop 1 f.blocks) (put_all (put_at_end f.count f.blocks) f.promises) (ended_node f f.blocks)
unfolding facets
after_closing look f = simp append-nil

abbrev closed_with : Facts → List OpenBlock → Facts
closed_with f blocks = with_ended f (drop 1 blocks) (put_all (put_at_end f.count blocks) f.promises) (ended_node f blocks)

after_closed : (look : Look) (old : Planner) (block : Option OpenBlock) (outer : List OpenBlock) → IsPopped block old.blocks outer
    → after look (facts_of old) text.End ≡ with_ended (facts_of old) outer (put_all (put_at_end (length old.nodes.items) (option_to_list block)) old.declared.promises) (nodes_ended old.task old.declared.promises (length old.nodes.items) (group_in outer) block)
after_closed look old None outer both = after_closing look (facts_of old) ∙ ap (closed_with (facts_of old)) both.0 ∙ ap (λ (l : List OpenBlock). with_ended (facts_of old) l old.declared.promises []) (sym both.1)
after_closed look old (Some (TaskBlock name)) outer is = after_closing look (facts_of old) ∙ ap (closed_with (facts_of old)) is
after_closed look old (Some (ScopeBlock name first)) outer is = after_closing look (facts_of old) ∙ ap (closed_with (facts_of old)) is
after_closed look old (Some (GroupBlock number)) outer is = after_closing look (facts_of old) ∙ ap (closed_with (facts_of old)) is
after_closed look old (Some MatrixBlock) outer is = after_closing look (facts_of old) ∙ ap (closed_with (facts_of old)) is

-- a task that is cleared
pub record IsCleared (task : OpenTask) : Type 0 where
  pub inputs : task.inputs ≡ []
  pub locals : task.locals.items ≡ []
  pub drops : task.drops.items ≡ []
  pub body : task.body ≡ []
  pub scheme : task.scheme ≡ Plain
  pub checks : task.checks ≡ []

pub judges_closed : (old new : Planner) (block : Option OpenBlock) (outer : List OpenBlock) → IsPopped block old.blocks outer → (is_corrected old.task.scheme && not (has_product old.task.checks)) ≡ false
    → None ≡ cond (is_node_line (option_to_list block) text.End && nat_le MAX_NODES (length old.nodes.items)) (Some PlanLimit) None
    → new.handed ≡ old.handed → new.declared ≡ declarations old.declared.names (put_all (put_at_end (length old.nodes.items) (option_to_list block)) old.declared.promises)
    → new.matrices.items ≡ old.matrices.items → new.closed ≡ old.closed ++ option_to_list old.begun → new.begun ≡ None → new.blocks ≡ outer
    → new.nodes.items ≡ old.nodes.items ++ nodes_ended old.task old.declared.promises (length old.nodes.items) (group_in outer) block
    → IsCleared new.task → Judges old text.End new None
judges_closed old new block outer is corrected none handed declared matrices closed begun blocks nodes clear = record {
  reason = none ∙ sym (reason_closed (look_above old.handed) (facts_of old) block outer is corrected);
  tables = λ e. subst (HasFacts new) (sym (after_closed (look_above old.handed) old block outer is)) (record {
    names = ap (λ (t : Declarations). t.names) declared;
    promises = ap (λ (t : Declarations). t.promises) declared;
    matrices = matrices;
    closed = closed;
    begun = begun;
    blocks = blocks;
    count = ap (λ (l : List Node). length l) nodes ∙ length-append old.nodes.items (nodes_ended old.task old.declared.promises (length old.nodes.items) (group_in outer) block);
    nodes = nodes;
    inputs = clear.inputs;
    locals = clear.locals;
    drops = clear.drops;
    steps = clear.body;
    scheme = clear.scheme;
    checks = clear.checks;
  });
  handed = handed;
}

-- the block that is popped may be closed, where the innermost may
pub closable_popped : (promises : List PlannedPromise) (block : Option OpenBlock) (blocks outer : List OpenBlock) → IsPopped block blocks outer → IsClosable promises blocks → IsClosable promises (option_to_list block)
closable_popped promises None blocks outer both h = tt
closable_popped promises (Some (TaskBlock name)) blocks outer is h = tt
closable_popped promises (Some (GroupBlock number)) blocks outer is h = tt
closable_popped promises (Some MatrixBlock) blocks outer is h = tt
closable_popped promises (Some (ScopeBlock name first)) blocks outer is h = subst (IsClosable promises) is h
