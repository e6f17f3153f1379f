use Rattle.std.proofs.Common.{◌∙◌}
use Rattle.std.proofs.Math.Logic.{∥∥₁_map}
use Rattle.bplint_engine.proofs.sorting.with_key_lists.Goals as goal

pub new-requires : goal.new-requires
new-requires g c =
    let same = c.into_parts-src.ensures.source ∙ c.in-Ok.ensures.source in
    let checked = c.frame-frame.ensures.checked in
    rw (same, c.frame-frame.ensures.frame) (record {
      safe = checked.safe;
      count = rw c.in-Ok.ensures.heights checked.count;
      framed = checked.framed;
      accepted = λ honest. ∥∥₁_map (c.in-Ok.ensures.exact honest) (λ u. u.accepted);
    })
