-- Texts that are written through a sink.
use Rattle.std.proofs.Common.{◌≡◌, ℕ, List, [], ap, append-nil, subst}
use Rattle.std.specs.Prelude.{Option, Result, Ok, Err, MatchResult, OnOk, IfErr}
use Rattle.std.specs.Io.KnownBytes.{Appends}
use Rattle.bplist_octets.specs.declared.sink.WriteFault.{WriteFault}
use Rattle.bplist_octets.specs.Sending.{Sending, SendsPart, Takes, TakesPart}
use Rattle.bplist_octets.proofs.SinkSteps.{out_start, out_takes, out_end, out_part}

-- a sink that held a text was flushed
pub all_sent : (old mid new : Option (List ℕ)) (s t u : Sending) (bytes : List ℕ) (r : Result (Unit {0}) WriteFault) → s ≡ record { sent = 0; held = [] }
    → Takes old mid s t bytes → OnOk r (u.held ≡ []) → OnOk r (Takes mid new t u []) → IfErr r (λ fault. TakesPart mid new t [] fault.sent)
    → MatchResult r (λ _. Appends old new bytes) (λ fault. SendsPart old new 0 bytes fault.sent)
all_sent old mid new s t u bytes (Ok _) start takes empty flushed _ =
    let held = out_takes (out_start old s (ap (λ x. x.sent) start) (ap (λ x. x.held) start)) takes in
    subst (Appends old new) (append-nil bytes) (out_end (out_takes held flushed) empty)
all_sent old mid new s t u bytes (Err fault) start takes _ _ part =
    let held = out_takes (out_start old s (ap (λ x. x.sent) start) (ap (λ x. x.held) start)) takes in
    subst (λ l. SendsPart old new 0 l fault.sent) (append-nil bytes) (out_part old mid new t bytes [] fault.sent held part)
