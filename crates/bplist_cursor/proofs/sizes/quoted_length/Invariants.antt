use Rattle.std.proofs.Common.{◌≡◌, ◌≤◌, ◌*◌, length, flat_map, take}
use Rattle.bplist_cursor.specs.Texts.{quoted_unit}
use Rattle.bplist_cursor.proofs.sizes.quoted_length.Given as goal

-- the sum is the bytes that the units so far take, at most six each
abbrev pub invariant-loop-unit : goal.invariant-loop-unit
invariant-loop-unit l = record {
  sum : l.sum ≡ length (flat_map quoted_unit (take l.unit-index l.units));
  most : l.sum ≤ 6 * l.unit-index;
}
