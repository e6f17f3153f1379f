use Rattle.std.proofs.Common.{◌∙◌, ◌-◌, ap, arith}
use Rattle.bplist_octets.specs.Octets.{part}
use Rattle.bplist_objects.proofs.FrameLaws.{trailer-framed}
use Rattle.bplist_objects.proofs.frame.read_trailer.Goals as goal

pub returns-clause-numbers : goal.returns-clause-numbers
returns-clause-numbers g c = λ honest.
    let f = (g.S.Source.means c.args.src.now).octets in
    let filled = c.in_ok-read_at.ensures.filled honest in
    trailer-framed f c.read_at.new.into c.sized.result c.sized-2.result c.sized-3.result (omega arith) (filled ∙ ap (λ n. part f (n - 32) 32) c.requires.all) c.read_at.auto.into c.sized.ensures c.sized-2.ensures c.sized-3.ensures
