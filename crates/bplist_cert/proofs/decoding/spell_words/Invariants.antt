use Rattle.std.proofs.Common.{◌≡◌, ℕ, ◌*◌, ◌<◌, slice_index}
use Rattle.bplist_octets.specs.Octets.{part, num}
use Rattle.bplist_cert.proofs.decoding.spell_words.Given as goal

-- the numbers so far are those of the bytes
abbrev pub invariant-loop-k : goal.invariant-loop-k
invariant-loop-k l = (k : ℕ) → k < l.k → slice_index l.into k ≡ num (part l.octets (4 * k) 4)
