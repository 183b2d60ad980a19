-- What a `let` line adds to the facts above, and why it is refused.
use Rattle.std.proofs.Common.{◌≡◌, ℕ, ◌+◌, List, [], ◌++◌, Option, Some, None, refl, arith, append-nil, Result, Ok, Err, sym, ap, ◌∙◌, subst}
use Rattle.std.specs.Prelude.{IfOk, option_to_list}
use Rattle.std.specs.Option.{option_map}
use Rattle.rh_words.specs.declared.reason.OutOfMemory.{OutOfMemory}
use Rattle.rh_words.specs.declared.reason.Reason.{Reason}
use Rattle.std.proofs.lemmas.Option.{none-some}
use Rattle.rh_task_text.specs.declared.statement.Statement.{Statement}
use Rattle.rh_task_text.specs.declared.statement.Statement.TheVariants as text
use Rattle.rh_rules.specs.declared.body.Step.{Step}
use Rattle.rh_rules.specs.declared.shape.NamedShape.{NamedShape}
use Rattle.rh_rules.specs.Tables.{LocalName}
use Rattle.rh_rules.specs.Facets.{facets}
use Rattle.rh_rules.specs.Above.{Look, Facts, matrix_used, numbers_used, local_made, with_row}
use Rattle.rh_rules.specs.Rules.{reason_in}
use Rattle.rh_planner.specs.declared.planner.Planner.{Planner}
use Rattle.rh_tables.specs.declared.line_use.LineUse.{LineUse}
use Rattle.rh_tables.specs.declared.open_task.OpenTask.{OpenTask}
use Rattle.rh_planner.specs.Planned.{look_above}
use Rattle.rh_planner.specs.States.{HasFacts, Judges, facts_of}
use Rattle.rh_tables.specs.Making.{let_reason}
use Rattle.rh_planner.specs.Following.{after}
use Rattle.rh_planner.proofs.After.{no_row}

-- the facts with more locals and steps
abbrev pub with_local : Facts → List LocalName → List Step → Facts
with_local f locals steps = record f { locals = f.locals ++ locals; steps = f.steps ++ steps }

-- a line that stays in its block and declares, puts and drops nothing
pub stays : (f : Facts) (locals : List LocalName) (steps : List Step) → record {
  names = f.names ++ [];
  promises = f.promises ++ [];
  matrices = f.matrices ++ [];
  closed = f.closed ++ [];
  begun = option_map (with_row None) f.begun;
  blocks = f.blocks;
  count = f.count + 0;
  nodes = f.nodes ++ [];
  inputs = f.inputs;
  locals = f.locals ++ locals;
  drops = f.drops ++ [];
  steps = f.steps ++ steps;
  scheme = f.scheme;
  checks = f.checks ++ [];
} ≡ with_local f locals steps
stays f locals steps = let none : f.count + 0 ≡ f.count = omega arith in simp (append-nil, none, no_row)

pub after_let : (look : Look) (f : Facts) (s : Statement) (x : List ℕ) → (facets s).made ≡ Some x → after look f s ≡ with_local f (local_made f.matrices f.locals s) (option_to_list ((facets s).step (matrix_used f.matrices s) (numbers_used f.locals s)))
unfolding facets
after_let look f (text.LetLit x words) y e = stays f _ _
after_let look f (text.LetGen x n start limit) y e = stays f _ _
after_let look f (text.LetAdd x a c) y e = stays f _ _
after_let look f (text.LetSub x a c) y e = stays f _ _
after_let look f (text.LetMul x a c) y e = stays f _ _
after_let look f (text.LetScale x a k) y e = stays f _ _
after_let look f (text.LetShift x a s) y e = stays f _ _
after_let look f (text.LetCut x a from len) y e = stays f _ _
after_let look f (text.LetJoin x parts) y e = stays f _ _
after_let look f (text.LetSum x a) y e = stays f _ _
after_let look f (text.LetCount x a) y e = stays f _ _
after_let look f (text.LetStencil1 x l m r k s) y e = stays f _ _
after_let look f (text.LetStencil2 x north south west east m cols k s) y e = stays f _ _
after_let look f (text.LetProduct x a v) y e = stays f _ _
after_let look f s y e = absurd (none-some y e)

-- the name that a `let` makes is the one that is named
named : (x y : List ℕ) → Some x ≡ Some y → x ≡ y
named x y e = cc

pub reason_let : (look : Look) (f : Facts) (s : Statement) (x : List ℕ) → (facets s).made ≡ Some x → reason_in look f s ≡ let_reason f.matrices f.locals f.drops x s
unfolding facets
reason_let look f (text.LetLit x words) y e = ap (λ z. let_reason f.matrices f.locals f.drops z (text.LetLit x words)) (named x y e)
reason_let look f (text.LetGen x n start limit) y e = ap (λ z. let_reason f.matrices f.locals f.drops z (text.LetGen x n start limit)) (named x y e)
reason_let look f (text.LetAdd x a c) y e = ap (λ z. let_reason f.matrices f.locals f.drops z (text.LetAdd x a c)) (named x y e)
reason_let look f (text.LetSub x a c) y e = ap (λ z. let_reason f.matrices f.locals f.drops z (text.LetSub x a c)) (named x y e)
reason_let look f (text.LetMul x a c) y e = ap (λ z. let_reason f.matrices f.locals f.drops z (text.LetMul x a c)) (named x y e)
reason_let look f (text.LetScale x a k) y e = ap (λ z. let_reason f.matrices f.locals f.drops z (text.LetScale x a k)) (named x y e)
reason_let look f (text.LetShift x a s) y e = ap (λ z. let_reason f.matrices f.locals f.drops z (text.LetShift x a s)) (named x y e)
reason_let look f (text.LetCut x a from len) y e = ap (λ z. let_reason f.matrices f.locals f.drops z (text.LetCut x a from len)) (named x y e)
reason_let look f (text.LetJoin x parts) y e = ap (λ z. let_reason f.matrices f.locals f.drops z (text.LetJoin x parts)) (named x y e)
reason_let look f (text.LetSum x a) y e = ap (λ z. let_reason f.matrices f.locals f.drops z (text.LetSum x a)) (named x y e)
reason_let look f (text.LetCount x a) y e = ap (λ z. let_reason f.matrices f.locals f.drops z (text.LetCount x a)) (named x y e)
reason_let look f (text.LetStencil1 x l m r k s) y e = ap (λ z. let_reason f.matrices f.locals f.drops z (text.LetStencil1 x l m r k s)) (named x y e)
reason_let look f (text.LetStencil2 x north south west east m cols k s) y e = ap (λ z. let_reason f.matrices f.locals f.drops z (text.LetStencil2 x north south west east m cols k s)) (named x y e)
reason_let look f (text.LetProduct x a v) y e = ap (λ z. let_reason f.matrices f.locals f.drops z (text.LetProduct x a v)) (named x y e)
reason_let look f s y e = absurd (none-some y e)

-- a `let` that changes the open task alone is judged
pub judges_let : (result : Result (Option Reason) OutOfMemory) (old : Planner) (task : OpenTask) (line : LineUse) (s : Statement) (x : List ℕ) (ms : List NamedShape) → ms ≡ old.matrices.items → (facets s).made ≡ Some x
    → IfOk result (λ a. a ≡ let_reason ms old.task.locals.items old.task.drops.items x s)
    → task.inputs ≡ old.task.inputs → task.drops.items ≡ old.task.drops.items → task.scheme ≡ old.task.scheme → task.checks ≡ old.task.checks
    → IfOk result (λ a. a ≡ None → task.locals.items ≡ old.task.locals.items ++ local_made ms old.task.locals.items s)
    → IfOk result (λ a. a ≡ None → task.body ≡ old.task.body ++ option_to_list ((facets s).step (matrix_used ms s) (numbers_used old.task.locals.items s)))
    → IfOk result (λ a. Judges old s (record old { task = task; line = line }) a)
judges_let (Ok a) old task line s x ms same makes reason inputs drops scheme checks locals steps = record {
  reason = reason ∙ ap (λ (l : List NamedShape). let_reason l old.task.locals.items old.task.drops.items x s) same ∙ sym (reason_let (look_above old.handed) (facts_of old) s x makes);
  tables = λ none. subst (HasFacts (record old { task = task; line = line })) (sym (after_let (look_above old.handed) (facts_of old) s x makes)) (record {
    names = refl;
    promises = refl;
    matrices = refl;
    closed = refl;
    begun = refl;
    blocks = refl;
    count = refl;
    nodes = refl;
    inputs = inputs;
    locals = locals none ∙ ap (λ (l : List NamedShape). old.task.locals.items ++ local_made l old.task.locals.items s) same;
    drops = drops;
    steps = steps none ∙ ap (λ (l : List NamedShape). old.task.body ++ option_to_list ((facets s).step (matrix_used l s) (numbers_used old.task.locals.items s))) same;
    scheme = scheme;
    checks = checks;
  });
  handed = refl;
}
judges_let (Err e) old task line s x ms same makes reason inputs drops scheme checks locals steps = tt
