use Rattle.std.proofs.Common.{arith, ◌≡◌, ◌<◌, ℕ, inl, inr, length, slice_index, subst, sym}
use Rattle.std.proofs.lemmas.Bool.{cases_lt}
use Rattle.std.proofs.lemmas.Grind.{get_or-set_at}
use Rattle.std.proofs.lemmas.List.{get_or-set_other}
use Rattle.bplist_c.specs.Objects.{IsFace}
use Rattle.bplist_c.specs.declared.object.BplistBody.{BplistBody}
use Rattle.bplist_c.proofs.faces.fill_faces.Goals as goal

pub loop-k-preserved : goal.loop-k-preserved
loop-k-preserved c =
    let into = c.loop-k.into in
    let at = c.loop-k.k in
    let face = c.face_or_zeros.result in
    let within : at < length into = omega arith in
    let IsOf = λ (n : ℕ) (body : BplistBody). IsFace c.args.checked.now (slice_index c.args.objects.now n) body in
    λ k d l. elim (cases_lt k at) [
      | inl before ↦ subst (IsOf k) (sym (get_or-set_other into at k face d (λ e. omega (arith, e, before)))) (c.loop-k.invariant k d before)
      | inr last ↦
          let same : k ≡ at = omega (arith, l, last) in
          subst (IsOf k) (sym (get_or-set_at into at k face d same within)) (subst (λ n. IsOf n face) (sym same) c.face_or_zeros.ensures)
    ]
