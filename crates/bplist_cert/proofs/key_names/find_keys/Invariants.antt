use Rattle.std.proofs.Common.{◌≡◌, ℕ, ◌≤◌, ◌-◌, length}
use Rattle.bplist_objects.specs.Framed.{frame_in, HonestlyIn}
use Rattle.bplist_keys.specs.Marks.{IsMarked}
use Rattle.bplist_cert.specs.Looks.{KeepBeforeKeysBelow}
use Rattle.bplist_cert.specs.KeyRepeats.{HaveNamedKeys, IsVouchedKey}
use Rattle.bplist_cert.proofs.key_names.find_keys.Given as goal

-- exactly the keys of the vouched dictionaries so far are named
abbrev pub invariant-loop-done : goal.invariant-loop-done
invariant-loop-done g l =
    let means = g.P.Source.means in
    record {
      same : means l.src ≡ means l.fn.src;
      reached : l.done ≤ l.bound;
      all : length l.named.marks.items ≡ (frame_in (means l.fn.src)).objects;
      named : HonestlyIn (means l.fn.src) (λ f F. KeepBeforeKeysBelow f F l.heights l.bound → HaveNamedKeys f F l.heights l.done l.named.marks.items);
      only : HonestlyIn (means l.fn.src) (λ f F. (m : ℕ) → IsMarked l.named.marks.items m → IsVouchedKey f F l.heights m);
    }

abbrev pub decreases-loop-done : goal.decreases-loop-done
decreases-loop-done g l = l.bound - l.done
