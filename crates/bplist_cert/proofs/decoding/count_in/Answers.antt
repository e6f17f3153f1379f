use Rattle.std.proofs.Common.{◌∙◌, sym, ap, arith}
use Rattle.std.specs.Int.{bytes_high_first}
use Rattle.bplist_objects.proofs.Units.{length-part}
use Rattle.bplist_cert.proofs.NumberBytes.{AreBytes, bytes-num, part-low}
use Rattle.bplist_cert.proofs.decoding.count_in.Goals as goal

pub returns : goal.returns
returns c =
    let low : AreBytes c.args.header.now = λ k. omega (arith, c.type_inv.header k) in
    sym (ap (bytes_high_first 8) c.sized.ensures ∙ bytes-num 8 _ (length-part c.args.header.now 8 8 (omega arith)) (part-low c.args.header.now 8 8 low))
