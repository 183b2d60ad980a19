-- The vote over two or three buffers, and what it decides.
use Rattle.std.specs.Prelude.{ℕ, ◌≡◌, List, [], ◌∷◌, Option, Some, None, slice_get, if◌then◌else◌}
use Rattle.rh_plan.specs.Buffers.{BufferData}
use Rattle.rh_plan.specs.declared.outcome.Verdict.TheVariants.{Accepted, Failed}
use Rattle.rh_plan.specs.Judging.{NodeResult, are_same, replicated, tolerated}
use Rattle.rh_schemes.specs.declared.ballot.Vote.{Vote}
use Rattle.rh_schemes.specs.declared.ballot.Vote.TheVariants.{Kept, More, Split}

-- of two buffers that differ the lower that equals the third is kept
abbrev pub third_vote : BufferData → BufferData → BufferData → Vote
third_vote a b c = if are_same a c then Kept 0 else if are_same b c then Kept 1 else Split

abbrev pub vote_on : BufferData → BufferData → Option BufferData → Vote
vote_on a b None = More
vote_on a b (Some c) = third_vote a b c

-- two equal buffers keep the first
abbrev pub voted : BufferData → BufferData → Option BufferData → Vote
voted a b c = if are_same a b then Kept 0 else vote_on a b c

-- of these buffers that of attempt j is accepted
abbrev pub IsAcceptedOf : List BufferData → ℕ → NodeResult → Type 0
IsAcceptedOf made j r = (r.verdict ≡ Accepted j) × (r.accepted ≡ slice_get made j)

-- The attempt that a vote keeps is the one that is accepted of a replicated task, whatever the third buffer is where two decide. A task
-- whose three buffers split the vote fails.
pub record VotesDecide : Type 0 where
  pub two_keep : (a b c : BufferData) (j : ℕ) → voted a b None ≡ Kept j → IsAcceptedOf (a ∷ b ∷ c ∷ []) j (replicated tolerated (a ∷ b ∷ c ∷ []))
  pub three_keep : (a b c : BufferData) (j : ℕ) → voted a b (Some c) ≡ Kept j → IsAcceptedOf (a ∷ b ∷ c ∷ []) j (replicated tolerated (a ∷ b ∷ c ∷ []))
  pub three_split : (a b c : BufferData) → voted a b (Some c) ≡ Split → (replicated tolerated (a ∷ b ∷ c ∷ [])).verdict ≡ Failed
