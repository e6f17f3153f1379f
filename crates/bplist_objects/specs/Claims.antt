-- Claims about the first n items of a row. Source: profile.
use Rattle.std.specs.Prelude.{ℕ, suc, ◌<◌}

-- item i is the first of `count` items that breaks the claim: it holds of the first i items, and not of one more
abbrev pub FailsAt : (ℕ → Type 0) → ℕ → ℕ → Type 0
FailsAt Claim count i = (i < count) × Claim i × (Claim (suc i) → ⊥)
