use Rattle.std.proofs.Common.{◌≡◌, IfSome}
use Rattle.bplist_objects.specs.Framed.{HonestlyIn}
use Rattle.bplist_cert.specs.KeyPairs.{AreKnown, IsReadKey, IsSafeKey}
use Rattle.bplist_cert.proofs.KeyPairs.{AscendTo, IsLast}
use Rattle.bplist_cert.proofs.key_order.first_unordered.Given as goal

-- the source is as it was, the keys so far ascend, and the last of them is kept
abbrev pub invariant-loop-j : goal.invariant-loop-j
invariant-loop-j g l =
    let means = g.P.Source.means in
    record {
      same : means l.src ≡ means l.fn.src;
      inside : IfSome l.before (IsSafeKey (means l.fn.src));
      pairs : HonestlyIn (means l.fn.src) (λ f F. AreKnown f F l.fn.pairs → AreKnown f F l.pairs);
      ascend : HonestlyIn (means l.fn.src) (λ f F. AreKnown f F l.fn.pairs → AscendTo f F l.dict.head l.list l.j);
      read : HonestlyIn (means l.fn.src) (λ f F. AreKnown f F l.fn.pairs → IfSome l.before (IsReadKey f F));
      last : HonestlyIn (means l.fn.src) (λ f F. IsLast f F l.dict.head l.list l.j l.before);
    }
