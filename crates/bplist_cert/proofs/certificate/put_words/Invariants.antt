use Rattle.std.proofs.Common.{◌≡◌, ◌++◌, ℕ, List}
use Rattle.std.specs.Slice.Iter.{chunks_rest, chunks_size}
use Rattle.bplist_octets.specs.Sending.{Takes}
use Rattle.bplist_cert.specs.Encoding.{words}
use Rattle.bplist_cert.proofs.certificate.put_words.Given as goal

-- the numbers before the rest were put in
abbrev pub invariant-loop-block : goal.invariant-loop-block
invariant-loop-block g l =
    (goal.iterator-loop-block g).can_next l.block-iterator
    × (goal.iterator-loop-block g).is_finite l.block-iterator
    × (chunks_size l.block-iterator ≡ 4096)
    × (done : List ℕ) × (done ++ chunks_rest l.block-iterator ≡ l.fn.numbers)
    × Takes (g.W.Write.contents l.fn.out) (g.W.Write.contents l.out) l.fn.sink l.sink (words done)
