-- Big-endian numbers. Source: the format comment of CFBinaryPList.c.
use Rattle.std.specs.Prelude.{ℕ, zero, suc, ◌+◌, ◌^◌, List, [], ◌∷◌, length, slice_index, nat_lt, nat_le, ◌||◌, if◌then◌else◌, ℤ, pos, ◌-ℤ◌}
use Rattle.bplist_octets.specs.Octets.{part, num}

-- the number of an integer object: unsigned in 1, 2 and 4 bytes, two's complement in 8 and 16
abbrev pub integer : List ℕ → ℤ
integer l =
    if nat_le (length l) 4 || nat_lt (slice_index l 0) 128
    then pos (num l) else pos (num l) -ℤ pos (256 ^ length l)

-- the number of n bytes from a place on
abbrev pub num_at : List ℕ → ℕ → ℕ → ℕ
num_at f place n = num (part f place n)

-- consecutive numbers of one size from a place on
abbrev pub nums_at : List ℕ → ℕ → ℕ → ℕ → List ℕ
nums_at f place width zero = []
nums_at f place width (suc count) = num_at f place width ∷ nums_at f (place + width) width count
