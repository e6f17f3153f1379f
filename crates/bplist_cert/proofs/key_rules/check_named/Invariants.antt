use Rattle.std.proofs.Common.{◌≡◌, ℕ, ◌≤◌, None, slice_index, IsTrue}
use Rattle.bplist_objects.specs.Framed.{HonestlyIn}
use Rattle.bplist_cert.specs.Looks.{KeepBeforeKeysBelow}
use Rattle.bplist_cert.specs.LowBytes.{AreLowStretches}
use Rattle.bplist_cert.specs.Valid.{IsVouchedBy}
use Rattle.bplist_cert.specs.KeyRepeats.{HaveNamedKeys, HaveGoodKeys}
use Rattle.bplist_cert.proofs.AskedBytes.{ArePaid}
use Rattle.bplist_cert.proofs.key_rules.check_named.Given as goal

-- the keys of the vouched dictionaries so far are good
abbrev pub invariant-loop-n : goal.invariant-loop-n
invariant-loop-n g l =
    let m = g.P.Source.means l.fn.src in
    record {
      reads : g.P.Source.means l.src ≡ m;
      same : l.look.table.classes.table.items ≡ l.initial.look.table.classes.table.items;
      stamps : IsTrue m.honest → (x : ℕ) → slice_index l.look.table.seen.items x ≤ l.n;
      paid : HonestlyIn m (λ f F. KeepBeforeKeysBelow f F l.seen.heights.now l.seen.bound → l.seen.bound ≡ F.objects
          → ArePaid f F (IsVouchedBy l.seen.heights.now) l.n (g.P.Source.asked l.initial.src) (g.P.Source.asked l.src));
      exact : HonestlyIn m (λ f F. KeepBeforeKeysBelow f F l.seen.heights.now l.seen.bound
          → HaveNamedKeys f F l.seen.heights.now l.seen.bound l.fn.named.marks.items
          → AreLowStretches f l.look.low.slots × HaveGoodKeys f F l.seen.heights.now None l.n);
    }
