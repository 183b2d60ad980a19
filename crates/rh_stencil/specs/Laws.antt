-- What holds of every step without faults.
use Rattle.std.specs.Prelude.{ℕ, ◌<◌, ◌≤◌, List, length}
use Rattle.rh_words.specs.declared.limits.TheConstants.{MAX_SHIFT}
use Rattle.rh_stencil.specs.Steps.{step1_value}
use Rattle.rh_stencil.specs.Grids.{step2_value, FitsGrid}
use Rattle.rh_stencil.specs.Conserved.{Conserves1, Conserves2}

-- a step in one dimension passes its check
abbrev pub Step1Conserves : Type 0
Step1Conserves = (l m r : List ℕ) (k s : ℕ) → 0 < length m → s ≤ MAX_SHIFT → Conserves1 (step1_value l m r k s) l m r k s

-- a step in two dimensions passes its check
abbrev pub Step2Conserves : Type 0
Step2Conserves = (north south west east m : List ℕ) (cols k s : ℕ) → FitsGrid north south west east m cols → s ≤ MAX_SHIFT
    → Conserves2 (step2_value north south west east m cols k s) north south west east m cols k s
