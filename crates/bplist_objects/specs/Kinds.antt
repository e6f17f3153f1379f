-- Groups of kinds. Source: the format comment of CFBinaryPList.c.
use Rattle.std.specs.Prelude.{◌≡◌}
use Rattle.bplist_objects.specs.declared.head.Kind.{Kind}
use Rattle.bplist_objects.specs.Safe.{ref_count}

-- the kinds without references
abbrev pub IsLeafKind : Kind → Type 0
IsLeafKind kind = ref_count kind 1 ≡ 0
