-- What printing returns, derived from the contracts of the walk and the sink.
use Rattle.std.proofs.Common.{◌≡◌, ◌≢◌, inl, inr, ◌≤◌, ◌<◌, ℕ, List, [], ◌++◌, arith, length, refl, ap, subst, Option, Some, None, Err, append-nil}
use Rattle.std.proofs.KnownBytes.{Keeps-refl}
use Rattle.bplist_objects.specs.declared.frame.Frame.{Frame}
use Rattle.bplist_objects.specs.Value.{Value}
use Rattle.bplist_cursor.specs.declared.faults.Unread.{Unread}
use Rattle.bplist_cursor.specs.declared.faults.Unread.TheVariants as unread
use Rattle.bplist_cursor.specs.OldStyle.{value_text, plain}
use Rattle.bplist_ascii.specs.declared.printer.PrintFault.{PrintFault}
use Rattle.bplist_ascii.specs.declared.printer.PrintFault.TheVariants.{NoAsciiForm, TooLong, Write, Read, Changed, Memory}
use Rattle.bplist_octets.specs.Sending.{Sending, SendsPart, SendsSome, Takes, TakesPart, IsOut, AtMost}
use Rattle.bplist_ascii.specs.BoundedWrites.{AddFails, TakesWithin}
use Rattle.bplist_ascii.specs.Printed.{IsPut, IsPrinted, HasText}
use Rattle.bplist_octets.proofs.SinkSteps.{out_start, out_takes, out_part, out_long}
use Rattle.bplist_ascii.proofs.WriteSteps.{print_fault_of}

-- a read failed before anything was put in, for a value without a text
pub read_prints : (now : Option (List ℕ)) (s : Sending) (f : List ℕ) (F : Frame) (n : ℕ) (v : Value) (limit : ℕ) (e : Unread) → value_text v ≡ None → e ≢ unread.Changed
    → IsPut now now s s f F n v limit (Err (print_fault_of e))
read_prints now s f F n v limit (unread.Read fault) none h = inl (none, (Keeps-refl now, refl))
read_prints now s f F n v limit unread.Changed none h = absurd (h refl)

-- what was not put into a fresh sink was not written
pub put_failed : (old new : Option (List ℕ)) (s t : Sending) (f : List ℕ) (F : Frame) (n : ℕ) (v : Value) (limit : ℕ) (e : PrintFault) → s.sent ≡ 0 → s.held ≡ [] → IsPut old new s t f F n v limit (Err e) → IsPrinted old new f F n v limit (Err e)
put_failed old new s t f F n v limit (NoAsciiForm m) sent held (none, formless, (kept, _)) = (none, formless, kept)
put_failed old new s t f F n v limit TooLong sent held (some, long, (kept, _)) = (some, long, kept)
put_failed old new s t f F n v limit (Write k) sent held (text, is, low, few, part) =
    (text, is, low, few, subst (λ h. SendsPart old new 0 (h ++ text) k) held (subst (λ b. SendsPart old new b (s.held ++ text) k) sent part))
put_failed old new s t f F n v limit (Read fault) sent held (inl (none, (kept, _))) = inl (none, kept)
put_failed old new s t f F n v limit (Read fault) sent held (inr (text, is, low, few, some)) = inr (text, is, low, few, subst (λ h. SendsSome old new (h ++ text)) held some)
put_failed old new s t f F n v limit Changed sent held h = absurd h
put_failed old new s t f F n v limit Memory sent held (text, is, low, few, some) = (text, is, low, few, subst (λ h. SendsSome old new (h ++ text)) held some)

pub walk_fails : (old new : Option (List ℕ)) (before after : Sending) (f : List ℕ) (F : Frame) (n : ℕ) (v : Value) (limit : ℕ) (e : PrintFault) (t : List ℕ) → value_text v ≡ Some t → plain v ≡ t → length t ≤ limit → length t < 18446744073709551615
    → (length (plain v) ≤ limit → AddFails old new before (plain v) e) → IsPut old new before after f F n v limit (Err e)
walk_fails old new before after f F n v limit e t some is low few h = go e (h (let long = ap length is in omega (arith, long, low)))
  where
    begins : SendsSome old new (before.held ++ plain v) → HasText v limit (λ t. SendsSome old new (before.held ++ t))
    begins p = (t, some, low, few, subst (λ l. SendsSome old new (before.held ++ l)) is p)

    go : (e : PrintFault) → AddFails old new before (plain v) e → IsPut old new before after f F n v limit (Err e)
    go (Write sent) p = (t, some, low, few, subst (λ l. TakesPart old new before l sent) is p)
    go (Read fault) p = inr (begins p)
    go Memory p = begins p
    go Changed p = absurd p
    go TooLong p = absurd p
    go (NoAsciiForm m) p = absurd p

-- a fresh sink took a text, and the flush failed
pub cut_of_flush : (old mid new : Option (List ℕ)) (s t : Sending) (text : List ℕ) (k : ℕ) → s.sent ≡ 0 → s.held ≡ [] → Takes old mid s t text → TakesPart mid new t [] k → SendsPart old new 0 text k
cut_of_flush old mid new s t text k none empty p q =
    subst (λ l. SendsPart old new 0 l k) (append-nil text) (out_part old mid new t ([] ++ text) [] k (out_takes (out_start old s none empty) p) q)

-- a fresh sink took a text, and sent it
pub sent_of_flush : (old mid new : Option (List ℕ)) (s t u : Sending) (text : List ℕ) → s.sent ≡ 0 → s.held ≡ [] → Takes old mid s t text → Takes mid new t u [] → IsOut old new u text
sent_of_flush old mid new s t u text none empty p q =
    subst (IsOut old new u) (append-nil text) (out_takes {written = [] ++ text} (out_takes (out_start old s none empty) p) q)

pub most_of_flush : (old mid new : Option (List ℕ)) (s t u : Sending) (n : ℕ) → s.sent ≡ 0 → s.held ≡ [] → TakesWithin old mid s t n → Takes mid new t u [] → AtMost old new n
most_of_flush old mid new s t u n none empty p q =
    let o = sent_of_flush old mid new s t u p.0 none empty p.1 q in
    let low = p.2 in
    let long = out_long o in
    let counted = o.counted in
    (o.gone, omega (arith, low, long, counted), o.appended)
