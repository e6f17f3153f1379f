use Rattle.bplist_objects.proofs.ScanLaws.{high-text, low-buffer, low-text}
use Rattle.bplist_objects.proofs.scan.first_high_at_once.Goals as goal

pub returns-then-is_block_below-clause-found : goal.returns-then-is_block_below-clause-found
returns-then-is_block_below-clause-found g c = λ honest.
    low-buffer _ c.read_at.new.into _ c.args.count g.row.ROOM c.requires.short c.read_at.auto.into (c.in_ok-read_at.ensures.filled honest)
    (c.is_block_below.ensures c.if-is_block_below.true)

pub returns-in-Some-clause-found : goal.returns-in-Some-clause-found
returns-in-Some-clause-found g c = λ honest.
    high-text _ c.read_at.new.into _ c.args.count g.row.ROOM c.requires.short c.read_at.auto.into (c.in_ok-read_at.ensures.filled honest) _
    c.in-Some.ensures

pub returns-in-None-clause-found : goal.returns-in-None-clause-found
returns-in-None-clause-found g c = λ honest.
    low-text _ c.read_at.new.into _ c.args.count g.row.ROOM c.requires.short c.read_at.auto.into (c.in_ok-read_at.ensures.filled honest)
    c.in-None.ensures
