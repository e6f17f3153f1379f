use Rattle.std.proofs.Common.{◌≡◌, drop}
use Rattle.bplist_cursor.specs.Sizes.{added}
use Rattle.bplist_cursor.proofs.sizes.add_sizes.Given as goal

-- the total so far plus what is left to add is the whole
abbrev pub invariant-loop-m : goal.invariant-loop-m
invariant-loop-m l = added l.sizes l.total (drop l.m-index l.refs) ≡ added l.sizes l.fn.start l.refs
