-- Parts of a text that say nodes and matrices: one more part, more matrices, more promises, and more nodes.
use Rattle.std.proofs.Common.{◌≡◌, ℕ, zero, suc, ◌+◌, ◌<◌, length, List, [], ◌∷◌, ◌++◌, true, Option, Some, None, refl, arith, ap, sym, ◌∙◌, subst, append_assoc}
use Rattle.std.specs.Prelude.{slice_get, IsSomeAnd}
use Rattle.std.specs.List.{range_with_len}
use Rattle.std.specs.Str.{bytes_eq}
use Rattle.std.proofs.lemmas.Bool.{or_left}
use Rattle.std.proofs.lemmas.Option.{slice_get_within}
use Rattle.std.proofs.lemmas.List.Folds.{list_any-append}
use Rattle.rh_rules.specs.Tables.{is_among}
use Rattle.rh_task_text.specs.declared.statement.Statement.{Statement}
use Rattle.rh_task_text.specs.declared.statement.Statement.TheVariants as text
use Rattle.rh_check.specs.Users.{HandedChecks}
use Rattle.rh_rules.specs.Kept.{KeptCheck}
use Rattle.rh_rules.specs.declared.body.Step.{Step}
use Rattle.rh_rules.specs.declared.node.Node.{Node}
use Rattle.rh_rules.specs.declared.block.OpenBlock.{OpenBlock}
use Rattle.rh_rules.specs.declared.block.OpenBlock.TheVariants.{TaskBlock, MatrixBlock, GroupBlock, ScopeBlock}
use Rattle.rh_rules.specs.Above.{group_in}
use Rattle.rh_plan.specs.PlanTexts.{IsNamed, IsFirstNamed, AreNamed, SaysStep, made_by, SayBody, SaysCheck, SayChecks, step_lines, check_lines, MatrixLines, matrix_lines, TaskLines, lines_of, IsTaskOf, IsGroupOf, IsScopeOf, Parts, no_parts, a_promise, a_matrix, a_task, a_scope, a_group, lines_in, nodes_in, matrices_in, SayParts}
use Rattle.rh_plan.proofs.Lists.{slice_get_left}

-- ---- more matrices, more promises and more nodes

pub named_more : (names more : List (List ℕ)) (ns : List ℕ) (qs : List (List ℕ)) → AreNamed names ns qs → AreNamed (names ++ more) ns qs
named_more names more [] [] are = tt
named_more names more [] (q ∷ qs) are = absurd are
named_more names more (n ∷ ns) [] are = absurd are
named_more names more (n ∷ ns) (q ∷ qs) are = (slice_get_left names more n q are.0, named_more names more ns qs are.1)

-- a name that stands left of others stands there alone
pub at_left : (names more : List (List ℕ)) (i : ℕ) (q : List ℕ) → i < length names → slice_get (names ++ more) i ≡ Some q → IsNamed names i q
at_left [] more i q within at = absurd (omega arith)
at_left (n ∷ names) more zero q within at = at
at_left (n ∷ names) more (suc i) q within at = at_left names more i q (omega arith) at

first_more : (names more : List (List ℕ)) (at : ℕ) (name : List ℕ) → IsFirstNamed names at name → IsFirstNamed (names ++ more) at name
first_more names more at name is =
    let within = slice_get_within names at name is.named in
    record { named = slice_get_left names more at name is.named; first = λ i below there. is.first i below (at_left names more i name (omega arith) there) }

says_more : (ms rs ps qs ls : List (List ℕ)) (s : Statement) (step : Step) → SaysStep ms ps ls s step → SaysStep (ms ++ rs) (ps ++ qs) ls s step
says_more ms rs ps qs ls (text.LetProduct x a v) step (m, i, is, here, there) = (m, i, is, first_more ms rs m a here, there)
says_more ms rs ps qs ls (text.Put promise local when) step (q, i, w, is, here, there, on) = (q, i, w, is, slice_get_left ps qs q promise here, there, on)
says_more ms rs ps qs ls (text.DropAwait promise) step (q, is, here) = (q, is, slice_get_left ps qs q promise here)
says_more ms rs ps qs ls s step says = says

pub body_more : (ms rs ps qs ls : List (List ℕ)) (lines : List Statement) (steps : List Step) → SayBody ms ps ls lines steps → SayBody (ms ++ rs) (ps ++ qs) ls lines steps
body_more ms rs ps qs ls [] [] say = tt
body_more ms rs ps qs ls [] (step ∷ steps) say = absurd say
body_more ms rs ps qs ls (s ∷ lines) [] say = absurd say
body_more ms rs ps qs ls (s ∷ lines) (step ∷ steps) say = (says_more ms rs ps qs ls s step say.0, body_more ms rs ps qs (ls ++ made_by s) lines steps say.1)

check_more : (us : HandedChecks) (ms rs ps qs awaits : List (List ℕ)) (s : Statement) (check : KeptCheck) → SaysCheck us ms ps awaits s check → SaysCheck us (ms ++ rs) (ps ++ qs) awaits s check
check_more us ms rs ps qs awaits (text.CheckRange promise lo hi) check says = (slice_get_left ps qs check.promise promise says.0, says.1)
check_more us ms rs ps qs awaits (text.CheckTotal promise total) check says = (slice_get_left ps qs check.promise promise says.0, says.1)
check_more us ms rs ps qs awaits (text.CheckLinear promise base inputs factors) check (here, terms, is, are) = (slice_get_left ps qs check.promise promise here, terms, is, are)
check_more us ms rs ps qs awaits (text.CheckConserve promise l m r k s) check (here, i, j, n, is, named) = (slice_get_left ps qs check.promise promise here, i, j, n, is, named)
check_more us ms rs ps qs awaits (text.CheckConserve2 promise north south west east m cols k s) check (here, a, b, c, d, e, is, named) = (slice_get_left ps qs check.promise promise here, a, b, c, d, e, is, named)
check_more us ms rs ps qs awaits (text.CheckProduct promise a q) check (here, m, x, is, first, named) = (slice_get_left ps qs check.promise promise here, m, x, is, first_more ms rs m a first, named)
check_more us ms rs ps qs awaits (text.CheckUser promise name) check (here, at, is, first, kept) = (slice_get_left ps qs check.promise promise here, at, is, first, kept)
check_more us ms rs ps qs awaits s check says = absurd says

checks_more : (us : HandedChecks) (ms rs ps qs awaits : List (List ℕ)) (lines : List Statement) (checks : List KeptCheck) → SayChecks us ms ps awaits lines checks → SayChecks us (ms ++ rs) (ps ++ qs) awaits lines checks
checks_more us ms rs ps qs awaits [] [] say = tt
checks_more us ms rs ps qs awaits [] (check ∷ checks) say = absurd say
checks_more us ms rs ps qs awaits (s ∷ lines) [] say = absurd say
checks_more us ms rs ps qs awaits (s ∷ lines) (check ∷ checks) say = (check_more us ms rs ps qs awaits s check say.0, checks_more us ms rs ps qs awaits lines checks say.1)

task_more : (us : HandedChecks) (ms rs ps qs : List (List ℕ)) (group : Option ℕ) (t : TaskLines) (node : Node) → IsTaskOf us ms ps group t node → IsTaskOf us (ms ++ rs) (ps ++ qs) group t node
task_more us ms rs ps qs group t node is = record {
  kind = is.kind;
  name = is.name;
  scheme = is.scheme;
  group = is.group;
  awaits = named_more ps qs node.awaits t.awaits is.awaits;
  lets = is.lets;
  body = body_more ms rs ps qs t.awaits (step_lines t.body) node.body is.body;
  checks = checks_more us ms rs ps qs t.awaits (check_lines t.body) node.checks is.checks;
}

group_more : (ps more : List (List ℕ)) (group : Option ℕ) (name : List ℕ) (awaits : List (List ℕ)) (node : Node) → IsGroupOf ps group name awaits node → IsGroupOf (ps ++ more) group name awaits node
group_more ps more group name awaits node is = record { kind = is.kind; name = is.name; group = is.group; awaits = named_more ps more node.awaits awaits is.awaits }

scope_more : (ps more : List (List ℕ)) (group : Option ℕ) (name : List ℕ) (members : List ℕ) (node : Node) → IsScopeOf ps group name members node → IsScopeOf (ps ++ more) group name members node
scope_more ps more group name members node is = record { kind = is.kind; name = is.name; group = is.group; members = is.members; own = named_more ps more node.puts (name ∷ []) is.own }

-- a node of a number among more nodes
there_more : (P Q : Node → Type 0) (nodes more : List Node) (v : ℕ) → ((node : Node) → P node → Q node) → IsSomeAnd (slice_get nodes v) P → IsSomeAnd (slice_get (nodes ++ more) v) Q
there_more P Q nodes more v f h = step (slice_get nodes v) refl h
  where
    step : (o : Option Node) → slice_get nodes v ≡ o → IsSomeAnd o P → IsSomeAnd (slice_get (nodes ++ more) v) Q
    step None at h = absurd h
    step (Some node) at h = subst (λ (o : Option Node). IsSomeAnd o Q) (sym (slice_get_left nodes more v node at)) (f node h)

pub parts_more : (us : HandedChecks) (ms rs ps qs : List (List ℕ)) (nodes more : List Node) (group : Option ℕ) (v : ℕ) (parts : Parts) → SayParts us ms ps nodes group v parts → SayParts us (ms ++ rs) (ps ++ qs) (nodes ++ more) group v parts
parts_more us ms rs ps qs nodes more group v no_parts say = tt
parts_more us ms rs ps qs nodes more group v (a_promise name len temp rest) say = parts_more us ms rs ps qs nodes more group v rest say
parts_more us ms rs ps qs nodes more group v (a_matrix m rest) say = parts_more us ms rs ps qs nodes more group v rest say
parts_more us ms rs ps qs nodes more group v (a_task t rest) say = (there_more _ _ nodes more v (task_more us ms rs ps qs group t) say.0, parts_more us ms rs ps qs nodes more group (v + 1) rest say.1)
parts_more us ms rs ps qs nodes more group v (a_scope name inside rest) say = (
  parts_more us ms rs ps qs nodes more group v inside say.0,
  there_more _ _ nodes more (v + nodes_in inside) (scope_more ps qs group name (range_with_len v (nodes_in inside))) say.1,
  parts_more us ms rs ps qs nodes more group (v + nodes_in inside + 1) rest say.2,
)
parts_more us ms rs ps qs nodes more group v (a_group name awaits inside rest) say = (
  there_more _ _ nodes more v (group_more ps qs group name awaits) say.0,
  parts_more us ms rs ps qs nodes more (Some v) (v + 1) inside say.1,
  parts_more us ms rs ps qs nodes more group (v + 1 + nodes_in inside) rest say.2,
)

-- ---- one part behind others

abbrev pub join : Parts → Parts → Parts
join no_parts q = q
join (a_promise name len temp rest) q = a_promise name len temp (join rest q)
join (a_matrix m rest) q = a_matrix m (join rest q)
join (a_task t rest) q = a_task t (join rest q)
join (a_scope name inside rest) q = a_scope name inside (join rest q)
join (a_group name awaits inside rest) q = a_group name awaits inside (join rest q)

joined_lines : (p q : Parts) → lines_in (join p q) ≡ lines_in p ++ lines_in q
joined_lines no_parts q = refl
joined_lines (a_promise name len temp rest) q = ap (λ (l : List Statement). text.Promise name len temp ∷ l) (joined_lines rest q)
joined_lines (a_matrix m rest) q = ap (λ (l : List Statement). matrix_lines m ++ l) (joined_lines rest q) ∙ sym (append_assoc (matrix_lines m) (lines_in rest) (lines_in q))
joined_lines (a_task t rest) q = ap (λ (l : List Statement). lines_of t ++ l) (joined_lines rest q) ∙ sym (append_assoc (lines_of t) (lines_in rest) (lines_in q))
joined_lines (a_scope name inside rest) q =
    ap (λ (l : List Statement). text.Finish name ∷ (lines_in inside ++ text.End ∷ l)) (joined_lines rest q)
    ∙ ap (λ (l : List Statement). text.Finish name ∷ l) (sym (append_assoc (lines_in inside) (text.End ∷ lines_in rest) (lines_in q)))
joined_lines (a_group name awaits inside rest) q =
    ap (λ (l : List Statement). text.Group name awaits ∷ (lines_in inside ++ text.End ∷ l)) (joined_lines rest q)
    ∙ ap (λ (l : List Statement). text.Group name awaits ∷ l) (sym (append_assoc (lines_in inside) (text.End ∷ lines_in rest) (lines_in q)))

joined_nodes : (p q : Parts) → nodes_in (join p q) ≡ nodes_in p + nodes_in q
joined_nodes no_parts q = omega arith
joined_nodes (a_promise name len temp rest) q = joined_nodes rest q
joined_nodes (a_matrix m rest) q = joined_nodes rest q
joined_nodes (a_task t rest) q = let h = joined_nodes rest q in omega arith
joined_nodes (a_scope name inside rest) q = let h = joined_nodes rest q in omega arith
joined_nodes (a_group name awaits inside rest) q = let h = joined_nodes rest q in omega arith

joined_matrices : (p q : Parts) → matrices_in (join p q) ≡ matrices_in p ++ matrices_in q
joined_matrices no_parts q = refl
joined_matrices (a_promise name len temp rest) q = joined_matrices rest q
joined_matrices (a_matrix m rest) q = ap (λ (l : List MatrixLines). m ∷ l) (joined_matrices rest q)
joined_matrices (a_task t rest) q = joined_matrices rest q
joined_matrices (a_scope name inside rest) q = ap (λ (l : List MatrixLines). matrices_in inside ++ l) (joined_matrices rest q) ∙ sym (append_assoc (matrices_in inside) (matrices_in rest) (matrices_in q))
joined_matrices (a_group name awaits inside rest) q = ap (λ (l : List MatrixLines). matrices_in inside ++ l) (joined_matrices rest q) ∙ sym (append_assoc (matrices_in inside) (matrices_in rest) (matrices_in q))

from : (us : HandedChecks) (ms ps : List (List ℕ)) (nodes : List Node) (group : Option ℕ) (q : Parts) (v w : ℕ) → v ≡ w → SayParts us ms ps nodes group v q → SayParts us ms ps nodes group w q
from us ms ps nodes group q v w e say = subst (λ (n : ℕ). SayParts us ms ps nodes group n q) e say

joined_said : (us : HandedChecks) (ms ps : List (List ℕ)) (nodes : List Node) (group : Option ℕ) (v : ℕ) (p q : Parts) → SayParts us ms ps nodes group v p → SayParts us ms ps nodes group (v + nodes_in p) q → SayParts us ms ps nodes group v (join p q)
joined_said us ms ps nodes group v no_parts q say more = from us ms ps nodes group q (v + 0) v (omega arith) more
joined_said us ms ps nodes group v (a_promise name len temp rest) q say more = joined_said us ms ps nodes group v rest q say more
joined_said us ms ps nodes group v (a_matrix m rest) q say more = joined_said us ms ps nodes group v rest q say more
joined_said us ms ps nodes group v (a_task t rest) q say more = (say.0, joined_said us ms ps nodes group (v + 1) rest q say.1 (from us ms ps nodes group q (v + (1 + nodes_in rest)) (v + 1 + nodes_in rest) (omega arith) more))
joined_said us ms ps nodes group v (a_scope name inside rest) q say more =
    (say.0, say.1, joined_said us ms ps nodes group (v + nodes_in inside + 1) rest q say.2 (from us ms ps nodes group q (v + (nodes_in inside + 1 + nodes_in rest)) (v + nodes_in inside + 1 + nodes_in rest) (omega arith) more))
joined_said us ms ps nodes group v (a_group name awaits inside rest) q say more =
    (say.0, say.1, joined_said us ms ps nodes group (v + 1 + nodes_in inside) rest q say.2 (from us ms ps nodes group q (v + (1 + nodes_in inside + nodes_in rest)) (v + 1 + nodes_in inside + nodes_in rest) (omega arith) more))

-- ---- the parts in the open blocks

-- these lines are those of parts in this group, which are the nodes from the first number up to the next one, and these matrices
pub record AreInside (us : HandedChecks) (ms ps : List (List ℕ)) (nodes : List Node) (group : Option ℕ) (first : ℕ) (lines : List Statement) (next : ℕ) (made : List MatrixLines) : Type 0 where
  pub parts : Parts
  pub whole : lines ≡ lines_in parts
  pub said : SayParts us ms ps nodes group first parts
  pub counted : next ≡ first + nodes_in parts
  pub matrices : made ≡ matrices_in parts

pub inside_none : (us : HandedChecks) (ms ps : List (List ℕ)) (nodes : List Node) (group : Option ℕ) (first : ℕ) → AreInside us ms ps nodes group first [] first []
inside_none us ms ps nodes group first = record { parts = no_parts; whole = refl; said = tt; counted = omega arith; matrices = refl }

inside_more : (us : HandedChecks) (ms rs ps qs : List (List ℕ)) (nodes more : List Node) (group : Option ℕ) (first : ℕ) (lines : List Statement) (next : ℕ) (made : List MatrixLines) → AreInside us ms ps nodes group first lines next made → AreInside us (ms ++ rs) (ps ++ qs) (nodes ++ more) group first lines next made
inside_more us ms rs ps qs nodes more group first lines next made h = record { parts = h.parts; whole = h.whole; said = parts_more us ms rs ps qs nodes more group first h.parts h.said; counted = h.counted; matrices = h.matrices }

inside_push : (us : HandedChecks) (ms ps : List (List ℕ)) (nodes : List Node) (group : Option ℕ) (first : ℕ) (lines : List Statement) (next : ℕ) (made : List MatrixLines) (part : Parts) → AreInside us ms ps nodes group first lines next made → SayParts us ms ps nodes group next part
    → AreInside us ms ps nodes group first (lines ++ lines_in part) (next + nodes_in part) (made ++ matrices_in part)
inside_push us ms ps nodes group first lines next made part h say =
    let counted : next ≡ first + nodes_in h.parts = h.counted in
    let more : nodes_in (join h.parts part) ≡ nodes_in h.parts + nodes_in part = joined_nodes h.parts part in
    record {
      parts = join h.parts part;
      whole = ap (λ (l : List Statement). l ++ lines_in part) h.whole ∙ sym (joined_lines h.parts part);
      said = joined_said us ms ps nodes group first h.parts part h.said (from us ms ps nodes group part next (first + nodes_in h.parts) counted say);
      counted = omega arith;
      matrices = ap (λ (l : List MatrixLines). l ++ matrices_in part) h.matrices ∙ sym (joined_matrices h.parts part);
    }

-- a scope is open, whose own promise is declared: the lines before it with their matrices, and those inside it so far with theirs
pub record IsInScope (us : HandedChecks) (ms ps : List (List ℕ)) (nodes : List Node) (group : Option ℕ) (name : List ℕ) (first : ℕ) (lines : List Statement) (next : ℕ) (made : List MatrixLines) (Before : List Statement → List MatrixLines → Type 0) : Type 0 where
  pub before : List Statement
  pub here : List Statement
  pub whole : lines ≡ before ++ text.Finish name ∷ here
  pub earlier : List MatrixLines
  pub later : List MatrixLines
  pub matrices : made ≡ earlier ++ later
  pub said : Before before earlier
  pub own : is_among name ps ≡ true
  pub inside : AreInside us ms ps nodes group first here next later

-- a group is open, the node of this number
pub record IsInGroup (us : HandedChecks) (ms ps : List (List ℕ)) (nodes : List Node) (group : Option ℕ) (number : ℕ) (lines : List Statement) (next : ℕ) (made : List MatrixLines) (Before : List Statement → List MatrixLines → Type 0) : Type 0 where
  pub name : List ℕ
  pub awaits : List (List ℕ)
  pub before : List Statement
  pub here : List Statement
  pub whole : lines ≡ before ++ text.Group name awaits ∷ here
  pub earlier : List MatrixLines
  pub later : List MatrixLines
  pub matrices : made ≡ earlier ++ later
  pub said : Before before earlier
  pub node : IsSomeAnd (slice_get nodes number) (IsGroupOf ps group name awaits)
  pub inside : AreInside us ms ps nodes (Some number) (number + 1) here next later

-- the lines up to here, where these scopes and groups are open, with the number of the next node and with their matrices
abbrev pub AreSaid : HandedChecks → List (List ℕ) → List (List ℕ) → List Node → List OpenBlock → List Statement → ℕ → List MatrixLines → Type 0
AreSaid us ms ps nodes [] lines next made = AreInside us ms ps nodes None 0 lines next made
AreSaid us ms ps nodes (TaskBlock name ∷ outer) lines next made = ⊥
AreSaid us ms ps nodes (MatrixBlock ∷ outer) lines next made = ⊥
AreSaid us ms ps nodes (GroupBlock number ∷ outer) lines next made = IsInGroup us ms ps nodes (group_in outer) number lines next made (λ before earlier. AreSaid us ms ps nodes outer before number earlier)
AreSaid us ms ps nodes (ScopeBlock name first ∷ outer) lines next made = IsInScope us ms ps nodes (group_in outer) name first lines next made (λ before earlier. AreSaid us ms ps nodes outer before first earlier)

pub said_more : (us : HandedChecks) (ms rs ps qs : List (List ℕ)) (nodes more : List Node) (blocks : List OpenBlock) (lines : List Statement) (next : ℕ) (made : List MatrixLines) → AreSaid us ms ps nodes blocks lines next made → AreSaid us (ms ++ rs) (ps ++ qs) (nodes ++ more) blocks lines next made
said_more us ms rs ps qs nodes more [] lines next made h = inside_more us ms rs ps qs nodes more None 0 lines next made h
said_more us ms rs ps qs nodes more (TaskBlock name ∷ outer) lines next made h = absurd h
said_more us ms rs ps qs nodes more (MatrixBlock ∷ outer) lines next made h = absurd h
said_more us ms rs ps qs nodes more (GroupBlock number ∷ outer) lines next made h = record {
  name = h.name;
  awaits = h.awaits;
  before = h.before;
  here = h.here;
  whole = h.whole;
  earlier = h.earlier;
  later = h.later;
  matrices = h.matrices;
  said = said_more us ms rs ps qs nodes more outer h.before number h.earlier h.said;
  node = there_more _ _ nodes more number (group_more ps qs (group_in outer) h.name h.awaits) h.node;
  inside = inside_more us ms rs ps qs nodes more (Some number) (number + 1) h.here next h.later h.inside;
}
said_more us ms rs ps qs nodes more (ScopeBlock name first ∷ outer) lines next made h = record {
  before = h.before;
  here = h.here;
  whole = h.whole;
  earlier = h.earlier;
  later = h.later;
  matrices = h.matrices;
  said = said_more us ms rs ps qs nodes more outer h.before first h.earlier h.said;
  own = list_any-append (λ n. bytes_eq n name) ps qs ∙ or_left (is_among name ps) (is_among name qs) h.own;
  inside = inside_more us ms rs ps qs nodes more (group_in outer) first h.here next h.later h.inside;
}

-- one more part in the innermost block
pub said_part : (us : HandedChecks) (ms ps : List (List ℕ)) (nodes : List Node) (blocks : List OpenBlock) (lines : List Statement) (next : ℕ) (made : List MatrixLines) (part : Parts) → AreSaid us ms ps nodes blocks lines next made → SayParts us ms ps nodes (group_in blocks) next part
    → AreSaid us ms ps nodes blocks (lines ++ lines_in part) (next + nodes_in part) (made ++ matrices_in part)
said_part us ms ps nodes [] lines next made part h say = inside_push us ms ps nodes None 0 lines next made part h say
said_part us ms ps nodes (TaskBlock name ∷ outer) lines next made part h say = absurd h
said_part us ms ps nodes (MatrixBlock ∷ outer) lines next made part h say = absurd h
said_part us ms ps nodes (GroupBlock number ∷ outer) lines next made part h say = record {
  name = h.name;
  awaits = h.awaits;
  before = h.before;
  here = h.here ++ lines_in part;
  whole = ap (λ (l : List Statement). l ++ lines_in part) h.whole ∙ append_assoc h.before (text.Group h.name h.awaits ∷ h.here) (lines_in part);
  earlier = h.earlier;
  later = h.later ++ matrices_in part;
  matrices = ap (λ (l : List MatrixLines). l ++ matrices_in part) h.matrices ∙ append_assoc h.earlier h.later (matrices_in part);
  said = h.said;
  node = h.node;
  inside = inside_push us ms ps nodes (Some number) (number + 1) h.here next h.later part h.inside say;
}
said_part us ms ps nodes (ScopeBlock name first ∷ outer) lines next made part h say = record {
  before = h.before;
  here = h.here ++ lines_in part;
  whole = ap (λ (l : List Statement). l ++ lines_in part) h.whole ∙ append_assoc h.before (text.Finish name ∷ h.here) (lines_in part);
  earlier = h.earlier;
  later = h.later ++ matrices_in part;
  matrices = ap (λ (l : List MatrixLines). l ++ matrices_in part) h.matrices ∙ append_assoc h.earlier h.later (matrices_in part);
  said = h.said;
  own = h.own;
  inside = inside_push us ms ps nodes (group_in outer) first h.here next h.later part h.inside say;
}
