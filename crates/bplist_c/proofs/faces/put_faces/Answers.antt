use Rattle.std.proofs.Common.{arith, ◌≡◌, ◌++◌, ◌∙◌, Ok, length, drop, slice_index_or, sym, ap, subst}
use Rattle.std.proofs.lemmas.List.{get_or-take, length-take-le}
use Rattle.bplist_c.specs.Objects.{IsFace}
use Rattle.bplist_c.proofs.UnitSteps.{fitting}
use Rattle.bplist_c.proofs.faces.put_faces.Goals as goal

pub returns : goal.returns
returns c =
    let old = c.args.buffer.now in
    let bodies = c.fill_faces.new.into in
    let now = c.min-now.result in
    let len : length bodies ≡ now = c.fill_faces.auto.into ∙ length-take-le now old (omega (arith, c.min-now.ensures)) in (
      Ok bodies,
      fitting bodies old (bodies ++ drop now old) c.args.count.now now (omega (arith, len, c.min-now.ensures)) (sym len) (ap (λ n. bodies ++ drop n old) (sym len)),
      (
        len ∙ c.min-now.ensures,
        λ k d l. subst (λ n. IsFace c.args.checked.now n (slice_index_or bodies k d))
            (get_or-take now c.args.objects.now k 0 (omega (arith, l, len))) (c.fill_faces.ensures k d l),
      ),
    )
