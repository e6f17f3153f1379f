use Rattle.std.proofs.Common.{◌≡◌, ◌+◌, length}
use Rattle.bplist_objects.specs.Framed.{HonestlyIn}
use Rattle.bplist_cert.specs.Looks.{ArePlaces, KeepBeforeKeysBelow}
use Rattle.bplist_cert.specs.KeysLooks.{HaveGoodLists}
use Rattle.bplist_cert.proofs.key_lists.look_at_lists.Given as goal

-- the key lists of the vouched dictionaries so far are good
abbrev pub invariant-loop-i : goal.invariant-loop-i
invariant-loop-i g l =
    let means = g.P.Source.means in
    record {
      same : means l.src ≡ means l.fn.src;
      lists : HonestlyIn (means l.fn.src) (λ f F. ArePlaces f F l.seen.bound l.places
          → KeepBeforeKeysBelow f F l.seen.heights.now (l.seen.bound + length l.places)
          → HaveGoodLists f F l.seen.heights.now l.keys l.seen.bound l.fn.look
          → HaveGoodLists f F l.seen.heights.now l.keys (l.seen.bound + l.i) l.look);
    }
