-- Bytes that go through a sink, piece by piece.
use Rattle.std.proofs.Common.{◌≡◌, ℕ, List, [], ◌++◌, sym, ap, ◌∙◌, subst, append_assoc, append-nil, refl}
use Rattle.std.specs.Prelude.{Option}
use Rattle.std.specs.Io.KnownBytes.{Appends}
use Rattle.bplist_octets.specs.Sending.{Sending, SendsSome, Takes, TakesPart}
use Rattle.bplist_octets.proofs.SinkSteps.{out_end, out_start, out_takes, part_of_more, some_of_takes, takes_nothing, takes_then_part, takes_then_some}
use Rattle.bplist_cursor.specs.declared.faults.CursorFault.{CursorFault}
use Rattle.bplist_cursor.proofs.Causes.{IsExcused as IsCursorExcused}
use Rattle.bplint_lines.specs.declared.fault.RunFault.{RunFault}
use Rattle.bplint_lines.specs.declared.fault.RunFault.TheVariants as faults
use Rattle.bplint_lines.specs.Faults.{IsExcused}
use Rattle.bplint_engine.specs.Streams.{Fails, begun}
use Rattle.bplint_engine.proofs.LowerFaults.{cursor_excused, cursor_fault}

-- the first bytes were put in, the next ones failed, and others would have followed
pub fails_behind : (old mid new : Option (List ℕ)) {s t : Sending} {xs : List ℕ} (ys zs whole : List ℕ) (fault : RunFault) → Takes old mid s t xs
    → Fails mid new t ys fault → whole ≡ xs ++ (ys ++ zs) → Fails old new s whole fault
fails_behind old mid new {s} {t} {xs} ys zs whole fault takes part is = go fault part
  where
    some : SendsSome mid new (t.held ++ ys) → SendsSome old new (s.held ++ whole)
    some out = subst (λ l. SendsSome old new (s.held ++ l)) (sym is) (takes_then_some old mid new ys zs takes out)

    go : (fault : RunFault) → Fails mid new t ys fault → Fails old new s whole fault
    go (faults.Write sent) part = subst (λ l. TakesPart old new s l sent) (append_assoc xs ys zs ∙ sym is) (part_of_more old new s (xs ++ ys) zs sent (takes_then_part old mid new s t xs ys sent takes part))
    go (faults.Read _) part = some part
    go faults.Memory part = some part
    go _ part = absurd part

-- the first bytes were put in, and then a read failed or memory was refused
pub stopped_behind : (old new : Option (List ℕ)) {s t : Sending} {xs : List ℕ} (ys whole : List ℕ) (fault : RunFault) → Takes old new s t xs
    → IsExcused fault → whole ≡ xs ++ ys → Fails old new s whole fault
stopped_behind old new {s} {t} {xs} ys whole fault takes excused is = go fault excused
  where
    some : SendsSome old new (s.held ++ whole)
    some = subst (λ l. SendsSome old new (s.held ++ l)) (sym is) (some_of_takes ys takes)

    go : (fault : RunFault) → IsExcused fault → Fails old new s whole fault
    go (faults.Read _) h = some
    go faults.Memory h = some
    go _ h = absurd h

-- all bytes that were put into a sink were written
pub flushed : {old mid new : Option (List ℕ)} {s t u : Sending} {bytes : List ℕ} → s ≡ begun → Takes old mid s t bytes → Takes mid new t u [] → u.held ≡ [] → Appends old new bytes
flushed {old} {mid} {new} {s} {t} {u} {bytes} is takes rest empty =
    subst (Appends old new) (append-nil bytes) (out_end (out_takes (out_takes (out_start old s (ap (λ x. x.sent) is) (ap (λ x. x.held) is)) takes) rest) empty)

-- a flush failed
pub flush_cut : (old mid new : Option (List ℕ)) (s t : Sending) (bytes : List ℕ) (sent : ℕ) → s ≡ begun → Takes old mid s t bytes → TakesPart mid new t [] sent
    → TakesPart old new begun bytes sent
flush_cut old mid new s t bytes sent is takes part =
    subst (λ x. TakesPart old new x bytes sent) is (subst (λ l. TakesPart old new s l sent) (append-nil bytes) (takes_then_part old mid new s t bytes [] sent takes part))

-- putting bytes into a fresh sink sends them
pub fails_begun : (old new : Option (List ℕ)) (s : Sending) (bytes : List ℕ) (fault : RunFault) → s ≡ begun → Fails old new s bytes fault → Fails old new begun bytes fault
fails_begun old new s bytes fault is h = subst (λ x. Fails old new x bytes fault) is h

-- nothing was put in, and then a read failed or memory was refused
pub excused_stops : (now : Option (List ℕ)) (s : Sending) (bytes : List ℕ) (fault : RunFault) → IsExcused fault → Fails now now s bytes fault
excused_stops now s bytes fault excused = stopped_behind now now bytes bytes fault (takes_nothing now s) excused refl

pub cursor_stops : (now : Option (List ℕ)) (s : Sending) (bytes : List ℕ) (fault : CursorFault) → IsCursorExcused fault → Fails now now s bytes (cursor_fault fault)
cursor_stops now s bytes fault h = excused_stops now s bytes (cursor_fault fault) (cursor_excused fault h)
