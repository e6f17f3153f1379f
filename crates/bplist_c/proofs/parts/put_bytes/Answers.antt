use Rattle.std.proofs.Common.{arith, ◌≡◌, ◌+◌, ◌-◌, min, Err, Ok, length, refl}
use Rattle.bplist_octets.specs.Octets.{part}
use Rattle.bplist_c.specs.Objects.{bytes_of_body}
use Rattle.bplist_c.proofs.HeadSteps.{by_head, no_head}
use Rattle.bplist_c.proofs.UnitSteps.{part_put}
use Rattle.bplist_c.proofs.parts.put_bytes.Goals as goal

pub returns-in-Err : goal.returns-in-Err
returns-in-Err c = (
  Err c.in-Err.status,
  (c.number.ensures, refl, refl),
  no_head c.args.checked.now c.args.object _ c.in-Err.status c.in-Err.ensures.exact,
)

pub returns : goal.returns
returns c =
    let checked = c.args.checked.now in
    let head = c.in-Ok.head in
    let body = bytes_of_body checked.source.octets head in
    let old = c.args.buffer.now in
    let start = c.min-from.result in
    let now = c.min-now.result in
    let begin : start ≡ min c.args.from (length body) = rw c.octets-file.ensures.octets at c.min-from.ensures in
    let many : now ≡ min (length body - start) (length old) = rw c.octets-file.ensures.octets at c.min-now.ensures in
    let size : start + now - start ≡ now = omega arith in
    let read : c.copy_from_slice.new.self ≡ part body start now = rw (c.octets-file.ensures.octets, size) at c.copy_from_slice.ensures.after in (
      Ok (part body c.args.from (length old)),
      part_put body c.args.from start now c.copy_from_slice.new.self old c.args.count.now begin many read,
      by_head checked c.args.object (λ h answer. answer ≡ Ok (part (bytes_of_body checked.source.octets h) c.args.from (length old))) head _
          c.in-Ok.ensures.exact refl,
    )
