use Rattle.std.proofs.Common.{◌≡◌, ◌≤◌, ◌-◌, ℕ, List, length, Option, false, IsTrue}
use Rattle.std.specs.Char.Utf16.{has_unpaired_surrogate, utf16_chars}
use Rattle.bplist_objects.specs.Units.{units_of}
use Rattle.bplist_octets.specs.Sending.{Takes}
use Rattle.bplint_engine.proofs.ReadCharacters.{IsRead, utf8_of}
use Rattle.bplist_cursor.specs.Kept.{IsSameFile}
use Rattle.bplint_engine.proofs.raw_bytes.put_text.Given as goal

-- the file is unchanged, and the characters so far were put in
abbrev pub invariant-loop-done : goal.invariant-loop-done
invariant-loop-done g l =
    let file = l.fn.checked in
    record {
      same : IsSameFile file l.checked;
      reached : l.done ≤ l.head.count;
      so_far : IsTrue file.source.honest → (cs : List (Option ℕ)) × IsRead (units_of file.source.octets l.head) l.done cs
          × Takes (g.W.Write.contents l.fn.out) (g.W.Write.contents l.out) l.fn.sink l.sink (utf8_of cs);
      whole : (us : List ℕ) × (length us ≡ l.done) × (has_unpaired_surrogate us ≡ false)
          × Takes (g.W.Write.contents l.fn.out) (g.W.Write.contents l.out) l.fn.sink l.sink (utf8_of (utf16_chars us));
    }

abbrev pub decreases-loop-done : goal.decreases-loop-done
decreases-loop-done g l = l.head.count - l.done
