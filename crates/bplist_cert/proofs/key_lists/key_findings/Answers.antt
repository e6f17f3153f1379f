use Rattle.std.proofs.Common.{◌∙◌, ℕ, length, slice_index, ap, arith}
use Rattle.std.proofs.lemmas.List.{length-replicate}
use Rattle.bplist_objects.specs.declared.frame.Frame.{Frame}
use Rattle.bplist_objects.specs.Framed.{frame_in}
use Rattle.bplist_keys.proofs.Listed.{zero_in}
use Rattle.bplist_cert.proofs.KeysLooks.{none_listed}
use Rattle.bplist_cert.proofs.key_lists.key_findings.Goals as goal
use Rattle.bplist_cert.proofs.key_lists.key_findings.Goals.{in-None+in_ok-new-in-None, in-Some}

pub returns-clause-none : goal.returns-clause-none
returns-clause-none g c = λ honest heights.
    let f = (g.P.Source.means c.args.src.now).octets in
    let F : Frame = frame_in (g.P.Source.means c.args.src.now) in
    elim c.match-keys.branch [
      | in-None+in_ok-new-in-None w ↦
          let all = ap length w.in_ok-new-in-None.ensures ∙ length-replicate {A = ℕ} c.frame-objects.result.objects 0 ∙ ap (λ (x : Frame). x.objects) c.frame-objects.ensures.frame in
          rw (w.in-None.is, w.named-is) (all, λ n low. absurd (omega (arith, low)), λ true n low. absurd (omega (arith, low)), λ n some. absurd (omega (arith, some, ap (λ xs. slice_index xs n) w.in_ok-new-in-None.ensures, zero_in c.frame-objects.result.objects n)))
      | in-Some w ↦ rw w.in-Some.is (none_listed f F heights _ _ (c.new-2.ensures f F))
    ]
