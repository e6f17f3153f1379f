-- Sets of numbers as bits, in blocks of 512, with skips over full blocks. Source: profile.
use Rattle.std.specs.Prelude.{◌≡◌, ℕ, ◌*◌, ◌/◌, ◌%◌, ◌<◌, ◌≤◌, List, length, slice_index, sum_by}
use Rattle.std.specs.Int.{bit_at}
use Rattle.std.specs.List.{range_with_len}

-- number k is in the set with these bits
abbrev pub IsIn : List ℕ → ℕ → Type 0
IsIn words k = bit_at (slice_index words (k / 64)) (k % 64) ≡ 1

-- how many numbers below n are in the set
abbrev pub count_in : List ℕ → ℕ → ℕ
count_in words n = sum_by (λ k. bit_at (slice_index words (k / 64)) (k % 64)) (range_with_len 0 n)

-- all numbers of the blocks from b up to, and without, c are in the set
abbrev pub AreFull : List ℕ → ℕ → ℕ → Type 0
AreFull words b c = (k : ℕ) → 512 * b ≤ k → k < 512 * c → IsIn words k

-- each block leads to itself or a later block, and the blocks between the two are full
abbrev pub AreSkips : List ℕ → List ℕ → Type 0
AreSkips words skips =
    (b : ℕ) → b < length skips → (b ≤ slice_index skips b) × (slice_index skips b ≤ length skips) × AreFull words b (slice_index skips b)
