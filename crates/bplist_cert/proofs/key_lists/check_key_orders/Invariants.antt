use Rattle.std.proofs.Common.{◌≡◌, Some}
use Rattle.bplist_objects.specs.Framed.{HonestlyIn}
use Rattle.bplist_cert.specs.Looks.{KeepBeforeKeysBelow}
use Rattle.bplist_cert.specs.KeyRepeats.{HaveGoodKeys}
use Rattle.bplist_cert.specs.KeysLooks.{AreLearnt, HaveGoodLists}
use Rattle.bplist_cert.proofs.key_lists.check_key_orders.Given as goal

-- the keys of the vouched dictionaries so far are good
abbrev pub invariant-loop-n : goal.invariant-loop-n
invariant-loop-n g l =
    let m = g.P.Source.means l.fn.src in
    record {
      reads : g.P.Source.means l.src ≡ m;
      exact : HonestlyIn m (λ f F. KeepBeforeKeysBelow f F l.seen.heights.now l.seen.bound
          → HaveGoodLists f F l.seen.heights.now l.keys l.seen.bound l.fn.look
          → AreLearnt f F l.look × HaveGoodKeys f F l.seen.heights.now (Some l.keys) l.n);
    }
