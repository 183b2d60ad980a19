-- What holds of plans and of first breaks, whatever the text.
use Rattle.std.specs.Prelude.{ℕ, ◌≡◌, ◌⊎◌, List}
use Rattle.rh_words.specs.declared.reason.Reason.{Reason}
use Rattle.rh_task_text.specs.Program.{ProgramText, IsLawfulText}
use Rattle.rh_check.specs.Users.{HandedChecks, ArePaired}
use Rattle.rh_sparse.specs.Matrix.{MatrixData}
use Rattle.rh_rules.specs.declared.node.Node.{Node}
use Rattle.rh_rules.specs.declared.node.PlannedPromise.{PlannedPromise}
use Rattle.rh_rules.specs.Bodies.{shapes_of}
use Rattle.rh_rules.specs.Lawful.{AreLawful}
use Rattle.rh_planner.specs.Planned.{IsDraftOf, FirstBreak}

-- A text is planned in one way at most.
abbrev pub PlansAreUnique : Type 0
PlansAreUnique = (handed : HandedChecks) (text : ProgramText) (ns ms : List Node) (ps qs : List PlannedPromise) (xs ys : List MatrixData)
    → IsDraftOf handed text ns ps xs → IsDraftOf handed text ms qs ys → (ns ≡ ms) × (ps ≡ qs) × (xs ≡ ys)

-- A text that is planned has no first break.
abbrev pub PlannedTextsHaveNoBreak : Type 0
PlannedTextsHaveNoBreak = (handed : HandedChecks) (text : ProgramText) (ns : List Node) (ps : List PlannedPromise) (xs : List MatrixData) (line : ℕ) (reason : Reason)
    → IsDraftOf handed text ns ps xs → FirstBreak handed text line reason → ⊥

-- Each text is planned or has a first break.
abbrev pub TextsArePlannedOrBreak : Type 0
TextsArePlannedOrBreak = (handed : HandedChecks) (text : ProgramText)
    → ((ns : List Node) × (ps : List PlannedPromise) × (xs : List MatrixData) × IsDraftOf handed text ns ps xs) ⊎ ((line : ℕ) × (reason : Reason) × FirstBreak handed text line reason)

-- Two first breaks of a text are the same line, with the same reason.
abbrev pub FirstBreaksAreUnique : Type 0
FirstBreaksAreUnique = (handed : HandedChecks) (text : ProgramText) (l m : ℕ) (r q : Reason) → FirstBreak handed text l r → FirstBreak handed text m q → (l ≡ m) × (r ≡ q)

-- What a lawful text is planned as is lawful, where each handed-in check has one name and asks one thing.
abbrev pub PlannedTextsAreLawful : Type 0
PlannedTextsAreLawful = (handed : HandedChecks) (text : ProgramText) (ns : List Node) (ps : List PlannedPromise) (xs : List MatrixData)
    → ArePaired handed → IsLawfulText text → IsDraftOf handed text ns ps xs → AreLawful (shapes_of xs) ns ps
