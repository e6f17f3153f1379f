use Rattle.std.proofs.Common.{◌≡◌, length, ◌≤◌}
use Rattle.bplist_octets.specs.Streams.{ReadsOn}
use Rattle.bplist_octets.proofs.seek_source.fill_from.Given as goal

abbrev pub invariant-loop : goal.invariant-loop
invariant-loop g l =
    (l.filled ≤ length l.into) × (g.F.Stream.bytes l.stream ≡ g.F.Stream.bytes l.initial.stream)
    × ReadsOn (g.F.Stream.bytes l.initial.stream) (g.F.Stream.position l.initial.stream) (g.F.Stream.position l.stream) l.filled l.into
