use Rattle.std.proofs.Common.{length}
use Rattle.bplist_objects.proofs.ScanLaws.{block_within}
use Rattle.bplist_objects.proofs.offsets.read_offsets.Goals as goal

pub numbers_in-requires : goal.numbers_in-requires
numbers_in-requires g c =
    block_within c.args.frame.now.table c.args.frame.now.objects c.args.frame.now.offset_size (length (g.S.Source.means c.args.src.now).octets) c.args.from (length c.args.into.now) c.requires.safe.room c.requires.within
