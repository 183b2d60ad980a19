-- The correction of a buffer by the two checksums of a product.
use Rattle.std.specs.Prelude.{ℕ, List, [], Option, Some, None, is_none, if◌then◌else◌, option_and_then, slice_get, slice_index_or}
use Rattle.std.specs.List.{find}
use Rattle.std.specs.Option.{option_map}
use Rattle.rh_sparse.specs.Matrix.{MatrixData}
use Rattle.rh_sparse.specs.Checksums.{checksums_of, plain_difference, weighted_difference}
use Rattle.rh_sparse.specs.Correction.{restored}
use Rattle.rh_check.specs.declared.spec.Spec.{Spec}
use Rattle.rh_check.specs.declared.spec.Spec.TheVariants.{Range, Total, Linear, Conserve, Conserve2, Product, User}
use Rattle.rh_rules.specs.declared.node.Node.{Node}
use Rattle.rh_rules.specs.Kept.{KeptCheck}
use Rattle.rh_rules.specs.Lawful.{is_product}
use Rattle.rh_plan.specs.Plans.{PlanData}
use Rattle.rh_plan.specs.Buffers.{BufferData, words_put, buffer_with}
use Rattle.rh_plan.specs.Checking.{first_failing}

-- the task's check of a product
abbrev pub product_check : List KeptCheck → Option KeptCheck
product_check checks = find (λ c. is_product c.spec) checks

-- the place of the word that the two differences of the words name, and the words with that word restored
abbrev pub restored_if_held : Option MatrixData → List ℕ → List ℕ → Option (ℕ × List ℕ)
restored_if_held None x words = None
restored_if_held (Some a) x words = restored words (plain_difference (checksums_of a) x words) (weighted_difference (checksums_of a) x words)

-- the same for the words that a check reads, where it is one of a product
abbrev pub restored_by : List MatrixData → List (List ℕ) → Spec → List ℕ → Option (ℕ × List ℕ)
restored_by matrices inputs (Range lo hi) words = None
restored_by matrices inputs (Total sum) words = None
restored_by matrices inputs (Linear base terms count) words = None
restored_by matrices inputs (Conserve l m r k s) words = None
restored_by matrices inputs (Conserve2 north south west east m cols k s) words = None
restored_by matrices inputs (Product matrix x) words = restored_if_held (slice_get matrices matrix) (slice_index_or inputs x []) words
restored_by matrices inputs (User at) words = None

-- the place of the restored word in the put to a promise that a check reads, and the buffer with it
abbrev pub restored_put : List MatrixData → List (List ℕ) → BufferData → ℕ → Spec → Option (ℕ × BufferData)
restored_put matrices inputs buffer promise spec = option_map (λ r. (r.0, buffer_with promise r.1 buffer)) (option_and_then (restored_by matrices inputs spec) (words_put promise buffer.puts))

-- the same by the task's check of a product
abbrev pub restored_buffer : List MatrixData → List KeptCheck → List (List ℕ) → BufferData → Option (ℕ × BufferData)
restored_buffer matrices checks inputs buffer = option_and_then (λ c. restored_put matrices inputs buffer c.promise c.spec) (product_check checks)

-- a corrected buffer, where it passes all checks
abbrev pub if_passing : (BufferData → Option ℕ) → ℕ × BufferData → Option (ℕ × BufferData)
if_passing failing corrected = if is_none (failing corrected.1) then Some corrected else None

-- The put that the task's check of a product reads, with one word restored by its two differences, where the buffer then passes all checks.
abbrev pub correction : PlanData → Node → List (List ℕ) → BufferData → Option (ℕ × BufferData)
correction plan node inputs buffer = option_and_then (if_passing (first_failing plan inputs node.checks)) (restored_buffer plan.matrices node.checks inputs buffer)
