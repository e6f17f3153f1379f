use Rattle.std.proofs.Common.{◌≡◌, ◌≤◌, ◌-◌, ◌++◌, drop, length}
use Rattle.bplint_lines.specs.Texts.{utf8_units}
use Rattle.bplint_lines.proofs.texts.add_units.Given as goal

-- the units so far were added
abbrev pub invariant-loop-at : goal.invariant-loop-at
invariant-loop-at l = record {
  reached : l.at ≤ length l.units;
  so_far : l.lines.items ++ utf8_units (drop l.at l.units) ≡ l.initial.lines.items ++ utf8_units l.units;
}

abbrev pub decreases-loop-at : goal.decreases-loop-at
decreases-loop-at l = length l.units - l.at
