use Rattle.std.proofs.Common.{arith, ◌≤◌, ◌<◌, ◌^◌, length}
use Rattle.std.proofs.Math.Nat.{pow-le-pow_right}
use Rattle.bplist_octets.proofs.Spelled.{num-lt}
use Rattle.bplist_objects.proofs.numbers.U16Spelled.spelled.Goals as goal

pub overflow_cast-result : goal.overflow_cast-result
overflow_cast-result c =
    let most = num-lt c.args.l.now (λ k. (c.type_inv.l k).fits) in
    let short : 256 ^ length c.args.l.now ≤ 256 ^ 2 = pow-le-pow_right {n = 256} (omega arith) c.requires.high in
    let value : c.sized.result < 2 ^ 16 = omega (arith, c.sized.ensures, most, short) in
    record { fits = value }
