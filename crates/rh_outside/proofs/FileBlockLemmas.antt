-- What stands in a block that grows at its end.
use Rattle.std.proofs.Common.{◌≡◌, ℕ, suc, ◌+◌, ◌-◌, ◌<◌, ◌≤◌, List, [], ◌∷◌, ◌++◌, true, false, None, Some, length, take, drop, set, slice_range, get_or, refl, sym, ap, ◌∙◌, subst, arith, length-append, append_assoc, append-nil}
use Rattle.std.specs.List.{All, remove}
use Rattle.std.specs.Str.{bytes_eq}
use Rattle.std.proofs.lemmas.List.{take-append-le, drop-append-le, length-drop, take_more, take_at, drop_at, take-map, drop-map, get_or-map, length-map, map-append, map_push, map-set}
use Rattle.std.proofs.lemmas.List.Elements.{All-append, All-take, All-drop, All-push, All-set, All-weaker}
use Rattle.rh_outside.specs.declared.file_block.FileSpan.{FileSpan}
use Rattle.rh_outside.specs.FileMap.{NamedFile, file_of, with_file, without_file, HasDistinctNames, IsFileOf}
use Rattle.rh_outside.specs.FileBlocks.{file_at, files_in, IsWithin, AreFiles, IsNewSpan}
use Rattle.rh_outside.proofs.FileLists.{HasDistinctNames-with_file, HasDistinctNames-without_file, IsFileOf-hit, file_of-at, file_of-more, with_file-at, with_file-none, without_file-at}

slice_range-append : (block more : List ℕ) (i j : ℕ) → i ≤ j → j ≤ length block → slice_range (block ++ more) i j ≡ slice_range block i j
slice_range-append block more i j le within =
    ap (take (j - i)) (drop-append-le i block more (omega arith)) ∙ take-append-le (j - i) (drop i block) more (simp length-drop (omega arith))

file_at-append : (block more : List ℕ) (p : FileSpan) → IsWithin (length block) p → file_at (block ++ more) p ≡ file_at block p
file_at-append block more p within =
    rw (slice_range-append block more p.start p.middle within.0 (omega (arith, within.1, within.2)), slice_range-append block more p.middle p.end within.1 within.2) refl

-- the files stay as they are where the block grows
pub files_in-append : (block more : List ℕ) (spans : List FileSpan) → All (IsWithin (length block)) spans → files_in (block ++ more) spans ≡ files_in block spans
files_in-append block more [] within = refl
files_in-append block more (p ∷ spans) within =
    let head = file_at-append block more p (within 0 p (omega arith)) in
    let tail = files_in-append block more spans (λ k d h. within (suc k) d (omega (arith, h))) in
    rw (head, tail) refl

-- ---- a search through the spans

file_at_index : (block : List ℕ) (spans : List FileSpan) (at : ℕ) (d : FileSpan) → at < length spans → get_or (files_in block spans) at (file_at block d) ≡ file_at block (get_or spans at d)
file_at_index block spans at d within = get_or-map (file_at block) spans at d (file_at block d) within

pub IsFileOf-from_span : (name block : List ℕ) (spans : List FileSpan) (at : ℕ) (d : FileSpan) → at < length spans → file_of name (take at (files_in block spans)) ≡ None
    → bytes_eq name (slice_range block (get_or spans at d).start (get_or spans at d).middle) ≡ true → IsFileOf name (files_in block spans) at
IsFileOf-from_span name block spans at d within none hit =
    let index = file_at_index block spans at d within in
    IsFileOf-hit name (file_at block d) (files_in block spans) at (simp length-map within) none (rw index hit)

pub file_of-one_more : (name block : List ℕ) (spans : List FileSpan) (at : ℕ) (d : FileSpan) → at < length spans → file_of name (take at (files_in block spans)) ≡ None
    → bytes_eq name (slice_range block (get_or spans at d).start (get_or spans at d).middle) ≡ false → file_of name (take (at + 1) (files_in block spans)) ≡ None
file_of-one_more name block spans at d within none miss =
    let index = file_at_index block spans at d within in
    let more = take_more (files_in block spans) at (file_at block d) (simp length-map within) in
    rw (more, index) (file_of-more name (take at (files_in block spans)) (file_at block (get_or spans at d)) none miss)

-- what is read at the span that was found
pub file_of-from_span : (name block : List ℕ) (spans : List FileSpan) (at : ℕ) (d : FileSpan) → at < length spans → IsFileOf name (files_in block spans) at
    → file_of name (files_in block spans) ≡ Some (slice_range block (get_or spans at d).middle (get_or spans at d).end)
file_of-from_span name block spans at d within found =
    let index = file_at_index block spans at d within in
    file_of-at name (file_at block d) (files_in block spans) at found ∙ ap (λ (f : NamedFile). Some f.1) index

-- ---- a file that is taken away

pub files_in-remove : (name block : List ℕ) (spans : List FileSpan) (at : ℕ) → IsFileOf name (files_in block spans) at → files_in block (remove spans at) ≡ without_file name (files_in block spans)
files_in-remove name block spans at found =
    rw (map-append (file_at block) (take at spans) (drop (suc at) spans), sym (take-map (file_at block) at spans), sym (drop-map (file_at block) (suc at) spans))
    (sym (without_file-at name (files_in block spans) at found))

pub AreFiles-remove : (name block : List ℕ) (spans : List FileSpan) (at : ℕ) → AreFiles block spans → IsFileOf name (files_in block spans) at → AreFiles block (remove spans at)
AreFiles-remove name block spans at files found =
    let P : FileSpan → Type 0 = IsWithin (length block) in
    record {
      within = All-append P (take at spans) (drop (suc at) spans) (All-take P at spans files.within) (All-drop P (suc at) spans files.within);
      distinct = subst HasDistinctNames (sym (files_in-remove name block spans at found)) (HasDistinctNames-without_file name (files_in block spans) files.distinct);
    }

-- ---- a file that is added

slice_range_at : (before part after : List ℕ) (i j : ℕ) → i ≡ length before → j ≡ length before + length part → slice_range (before ++ (part ++ after)) i j ≡ part
slice_range_at before part after i j start end =
    ap (take (j - i)) (drop_at before (part ++ after) i (sym start)) ∙ take_at part after (j - i) (omega (arith, start, end))

file_at-new : (block name bytes : List ℕ) (p : FileSpan) → IsNewSpan block name bytes p → file_at (block ++ (name ++ bytes)) p ≡ (name, bytes)
file_at-new block name bytes p new =
    let named = slice_range_at block name bytes p.start p.middle new.start new.middle in
    let regroup : block ++ (name ++ bytes) ≡ (block ++ name) ++ (bytes ++ []) = simp (append_assoc, append-nil) in
    let held = slice_range_at (block ++ name) bytes [] p.middle p.end (simp length-append new.middle) (simp length-append new.end) in
    rw named (rw regroup (rw held refl))

IsWithin-new : (block name bytes : List ℕ) (p : FileSpan) → IsNewSpan block name bytes p → IsWithin (length (block ++ (name ++ bytes))) p
IsWithin-new block name bytes p new =
    simp length-append (omega (arith, new.start, new.middle), omega (arith, new.middle, new.end), omega (arith, new.end))

IsWithin-grown : (block more : List ℕ) (spans : List FileSpan) → All (IsWithin (length block)) spans → All (IsWithin (length (block ++ more))) spans
IsWithin-grown block more spans within =
    All-weaker (IsWithin (length block)) (IsWithin (length (block ++ more))) (λ p h. (h.0, h.1, simp length-append (omega (arith, h.2)))) spans within

pub files_in-new : (block name bytes : List ℕ) (spans : List FileSpan) (p : FileSpan) → AreFiles block spans → IsNewSpan block name bytes p → file_of name (files_in block spans) ≡ None
    → files_in (block ++ (name ++ bytes)) (spans ++ p ∷ []) ≡ with_file name bytes (files_in block spans)
files_in-new block name bytes spans p files new none =
    rw (map_push (file_at (block ++ (name ++ bytes))) spans p, files_in-append block (name ++ bytes) spans files.within, file_at-new block name bytes p new)
    (sym (with_file-none name bytes (files_in block spans) none))

pub files_in-replaced : (block name bytes : List ℕ) (spans : List FileSpan) (at : ℕ) (p : FileSpan) → AreFiles block spans → IsNewSpan block name bytes p → IsFileOf name (files_in block spans) at
    → files_in (block ++ (name ++ bytes)) (set spans at p) ≡ with_file name bytes (files_in block spans)
files_in-replaced block name bytes spans at p files new found =
    rw (map-set (file_at (block ++ (name ++ bytes))) spans at p, files_in-append block (name ++ bytes) spans files.within, file_at-new block name bytes p new)
    (sym (with_file-at name bytes (files_in block spans) at found))

pub AreFiles-new : (block name bytes : List ℕ) (spans : List FileSpan) (p : FileSpan) → AreFiles block spans → IsNewSpan block name bytes p → file_of name (files_in block spans) ≡ None
    → AreFiles (block ++ (name ++ bytes)) (spans ++ p ∷ [])
AreFiles-new block name bytes spans p files new none = record {
  within = All-push (IsWithin (length (block ++ (name ++ bytes)))) spans p (IsWithin-grown block (name ++ bytes) spans files.within) (IsWithin-new block name bytes p new);
  distinct = subst HasDistinctNames (sym (files_in-new block name bytes spans p files new none)) (HasDistinctNames-with_file name bytes (files_in block spans) files.distinct);
}

pub AreFiles-replaced : (block name bytes : List ℕ) (spans : List FileSpan) (at : ℕ) (p : FileSpan) → AreFiles block spans → IsNewSpan block name bytes p → IsFileOf name (files_in block spans) at
    → AreFiles (block ++ (name ++ bytes)) (set spans at p)
AreFiles-replaced block name bytes spans at p files new found = record {
  within = All-set (IsWithin (length (block ++ (name ++ bytes)))) spans at p (IsWithin-new block name bytes p new) (IsWithin-grown block (name ++ bytes) spans files.within);
  distinct = subst HasDistinctNames (sym (files_in-replaced block name bytes spans at p files new found)) (HasDistinctNames-with_file name bytes (files_in block spans) files.distinct);
}
