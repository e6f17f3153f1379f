-- Tallies of objects that have room between the header and the table. Source: profile.
use Rattle.std.specs.Prelude.{◌≡◌, ℕ, ◌+◌, ◌-◌, ◌≤◌}
use Rattle.bplist_objects.specs.declared.frame.Frame.{Frame}
use Rattle.bplist_objects.specs.declared.head.Head.{Head}
use Rattle.bplist_objects.specs.Safe.{ref_count}
use Rattle.bplist_lint.specs.declared.tally.Tally.{Tally}

-- what is tallied has room before the table; each object and each reference takes at least a byte
pub record IsRoomy (F : Frame) (tally : Tally) : Type 0 where
  pub room : tally.used.octets + 8 ≤ F.table
  pub reached : tally.reached ≤ tally.used.octets
  pub references : tally.references ≤ tally.used.octets

-- `now` is the tally with one more object, which is at this place and has this head
pub record IsTalliedWith (tally : Tally) (place : ℕ) (head : Head) (now : Tally) : Type 0 where
  pub reached : now.reached ≡ tally.reached + 1
  pub used : now.used.octets ≡ tally.used.octets + (head.«end» - place)
  pub references : now.references ≡ tally.references + ref_count head.kind head.count
