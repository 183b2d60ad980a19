-- Files in one block of bytes: each name, with its bytes behind it, has a span there.
use Rattle.std.specs.Prelude.{◌≡◌, ℕ, ◌+◌, ◌≤◌, List, length, map, slice_range}
use Rattle.std.specs.List.{All}
use Rattle.rh_outside.specs.FileMap.{NamedFile, HasDistinctNames}
use Rattle.rh_outside.specs.declared.file_block.FileSpan.{FileSpan}

-- the file at a span
abbrev pub file_at : List ℕ → FileSpan → NamedFile
file_at block p = (slice_range block p.start p.middle, slice_range block p.middle p.end)

-- the files at these spans
abbrev pub files_in : List ℕ → List FileSpan → List NamedFile
files_in block spans = map (file_at block) spans

-- the span is in a block of this length
abbrev pub IsWithin : ℕ → FileSpan → Type 0
IsWithin len p = (p.start ≤ p.middle) × (p.middle ≤ p.end) × (p.end ≤ len)

-- each span is in the block, and no name stands at two of them
pub record AreFiles (block : List ℕ) (spans : List FileSpan) : Type 0 where
  pub within : All (IsWithin (length block)) spans
  pub distinct : HasDistinctNames (files_in block spans)

-- the span that a name and its bytes have once they are put at the end of a block
pub record IsNewSpan (block name bytes : List ℕ) (p : FileSpan) : Type 0 where
  pub start : p.start ≡ length block
  pub middle : p.middle ≡ length block + length name
  pub end : p.end ≡ length block + length name + length bytes
