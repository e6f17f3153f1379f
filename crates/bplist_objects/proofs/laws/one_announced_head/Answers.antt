use Rattle.std.proofs.Common.{◌+◌, ◌*◌, length, refl}
use Rattle.bplist_objects.specs.Frame.{off}
use Rattle.bplist_objects.specs.Announced.{item_size}
use Rattle.bplist_objects.proofs.BodyLaws.{HasHead-unique}
use Rattle.bplist_objects.proofs.laws.one_announced_head.Goals as goal

pub returns-clause-one : goal.returns-clause-one
returns-clause-one c = HasHead-unique

pub returns-clause-found : goal.returns-clause-found
returns-clause-found c = λ f F n kind count front is stands.
    let body = off f F n + length front in (
      record { kind = kind; count = count; body = body; «end» = body + count * item_size F.ref_size kind },
      record { front = front; announces = is; stands = stands; body = refl; ends = refl },
      refl,
      refl,
      refl,
    )
