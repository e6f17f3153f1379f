use Rattle.std.proofs.Common.{◌≡◌, ◌⊎◌, ℕ, ◌+◌, length}
use Rattle.bplist_objects.specs.Framed.{HonestlyIn}
use Rattle.bplist_keys.specs.Marks.{IsMarked}
use Rattle.bplist_cert.specs.Looks.{ArePlaces, KeepBeforeKeysBelow}
use Rattle.bplist_cert.specs.KeyRepeats.{HaveNamedKeys, IsVouchedKey}
use Rattle.bplist_cert.proofs.key_names.name_key_block.Given as goal

-- exactly the keys of the vouched dictionaries so far are named
abbrev pub invariant-loop-i : goal.invariant-loop-i
invariant-loop-i g l =
    let means = g.P.Source.means in
    record {
      same : means l.src ≡ means l.fn.src;
      all : length l.named.marks.items ≡ length l.fn.named.marks.items;
      named : HonestlyIn (means l.fn.src) (λ f F. ArePlaces f F l.from l.places
          → KeepBeforeKeysBelow f F l.heights (l.from + length l.places)
          → HaveNamedKeys f F l.heights l.from l.fn.named.marks.items
          → HaveNamedKeys f F l.heights (l.from + l.i) l.named.marks.items);
      only : HonestlyIn (means l.fn.src) (λ f F. ArePlaces f F l.from l.places
          → (m : ℕ) → IsMarked l.named.marks.items m → IsMarked l.fn.named.marks.items m ⊎ IsVouchedKey f F l.heights m);
    }
