use Rattle.std.proofs.Common.{ℕ, List, [], IfErr, OnOk, Ok, Err, Result}
use Rattle.std.specs.Prelude.{Option}
use Rattle.bplist_octets.specs.Sending.{Sending, Takes, TakesPart}
use Rattle.bplist_octets.specs.declared.sink.WriteFault.{WriteFault}
use Rattle.bplist_octets.proofs.SinkSteps.{takes_nothing, takes_more, takes_then_part}
use Rattle.bplist_octets.proofs.sink.Sink.put.Goals as goal
use Rattle.bplist_octets.proofs.sink.Sink.put.Goals.{then-not-has_room+in_ok-flush, else-not-has_room}

all_taken : (old mid new : Option (List ℕ)) (s t u : Sending) (bytes : List ℕ) (r : Result (Unit {0}) WriteFault) → Takes old mid s t []
    → OnOk r (Takes mid new t u bytes) → OnOk r (Takes old new s u bytes)
all_taken old mid new s t u bytes (Ok x) p q = takes_more p q
all_taken old mid new s t u bytes (Err e) p q = tt

all_part : (old mid new : Option (List ℕ)) (s t : Sending) (bytes : List ℕ) (r : Result (Unit {0}) WriteFault) → Takes old mid s t []
    → IfErr r (λ e. TakesPart mid new t bytes e.sent) → IfErr r (λ e. TakesPart old new s bytes e.sent)
all_part old mid new s t bytes (Ok x) p q = tt
all_part old mid new s t bytes (Err e) p q = takes_then_part old mid new s t [] bytes e.sent p q

pub returns-clause-taken : goal.returns-clause-taken
returns-clause-taken g c =
    let before : Takes (g.W.Write.contents c.args.out.now) (g.W.Write.contents c.if-not-has_room.out) c.args.self.now c.if-not-has_room.self [] =
    elim c.if-not-has_room.branch [
      | then-not-has_room+in_ok-flush w ↦ rw (w.self-is, w.out-is) w.in_ok-flush.ensures.taken
      | else-not-has_room w ↦ rw (w.self-is, w.out-is) (takes_nothing _ _)
    ] in
    all_taken _ _ _ _ _ _ _ c.pass_on.result before c.pass_on.ensures.taken

pub returns-clause-part : goal.returns-clause-part
returns-clause-part g c =
    let before : Takes (g.W.Write.contents c.args.out.now) (g.W.Write.contents c.if-not-has_room.out) c.args.self.now c.if-not-has_room.self [] =
    elim c.if-not-has_room.branch [
      | then-not-has_room+in_ok-flush w ↦ rw (w.self-is, w.out-is) w.in_ok-flush.ensures.taken
      | else-not-has_room w ↦ rw (w.self-is, w.out-is) (takes_nothing _ _)
    ] in
    all_part _ _ _ _ _ _ c.pass_on.result before c.pass_on.ensures.part
