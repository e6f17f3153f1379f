use Rattle.std.proofs.Common.{length}
use Rattle.bplist_objects.proofs.ScanLaws.{low-part, high-part}
use Rattle.bplist_objects.proofs.scan.search_part.Goals as goal

pub returns-in-Some-clause-found : goal.returns-in-Some-clause-found
returns-in-Some-clause-found g c = λ honest before.
    let f = (g.S.Source.means c.args.src.now).octets in
    high-part f c.read_at.new.into c.args.place c.args.done (length c.args.part.now) (c.in_ok-read_at.ensures.filled honest) c.read_at.auto.into c.args.count c.in-Some.i c.requires.part before c.in-Some.ensures

pub returns-in-None-clause-found : goal.returns-in-None-clause-found
returns-in-None-clause-found g c = λ honest before.
    let f = (g.S.Source.means c.args.src.now).octets in
    low-part f c.read_at.new.into c.args.place c.args.done (length c.args.part.now) (c.in_ok-read_at.ensures.filled honest) c.read_at.auto.into before c.in-None.ensures
