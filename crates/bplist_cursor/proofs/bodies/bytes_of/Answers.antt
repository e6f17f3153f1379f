use Rattle.std.proofs.Common.{arith, ◌≡◌, ℕ, ◌∙◌, List, [], get_or, slice_index, refl, ap}
use Rattle.bplist_octets.proofs.Sources.{slice_never_fails}
use Rattle.bplist_octets.specs.Meaning.{Meaning}
use Rattle.bplist_octets.specs.Octets.{part}
use Rattle.bplist_objects.specs.Answers.{read_failed}
use Rattle.bplist_objects.specs.declared.head.Head.{Head}
use Rattle.bplist_cert.specs.Valid.{IsVouchedBy}
use Rattle.bplist_cursor.proofs.LentBodies.{spells_bytes, other_head, no_error}
use Rattle.bplist_cursor.proofs.bodies.bytes_of.Goals as goal

-- the address in the first of these lists
abbrev address_in : List (List ℕ) → ℕ × ℕ
address_in lists = (slice_index (get_or lists 0 []) 0, slice_index (get_or lists 0 []) 1)

pub returns-in_default-clause-bytes : goal.returns-in_default-clause-bytes
returns-in_default-clause-bytes c = λ bytes vouched s.
    let is = c.frame-frame.ensures.checked.framed c.octets.ensures.honest in
    let octets : c.new-source.result.octets.now ≡ c.args.checked.now.source.octets = c.new-source.ensures.octets ∙ c.octets.ensures.octets in
    let shaped = rw (c.frame-frame.ensures.frame, octets) at c.shape_of.ensures.shaped in
    let sound = slice_never_fails (read_failed c.shape_of.result) c.new-source.result c.shape_of.new.src c.shape_of.ensures.reads in
    no_error (λ (y : Head). y ≡ s.0) c.shape_of.result sound (shaped refl is s.0 s.1.0) c.in_default.not-Ok

pub returns-in_default-kind-clause-bytes : goal.returns-in_default-kind-clause-bytes
returns-in_default-kind-clause-bytes c = λ bytes vouched s.
    let is = c.frame-frame.ensures.checked.framed c.octets.ensures.honest in
    let octets : c.new-source.result.octets.now ≡ c.args.checked.now.source.octets = c.new-source.ensures.octets ∙ c.octets.ensures.octets in
    let has = (rw (c.frame-frame.ensures.frame, octets) at c.in-Ok.ensures.exact) refl is in
    other_head c.args.checked.now.source.octets c.args.checked.now.frame c.args.node.object.0 c.in-Ok.head has
    c.in_default-kind.not-Bytes c.in_default-kind.not-Ascii bytes s

pub returns-in-Bytes-clause-bytes : goal.returns-in-Bytes-clause-bytes
returns-in-Bytes-clause-bytes c =
    let is = c.frame-frame.ensures.checked.framed c.octets.ensures.honest in
    let octets : c.new-source.result.octets.now ≡ c.args.checked.now.source.octets = c.new-source.ensures.octets ∙ c.octets.ensures.octets in
    let has = (rw (c.frame-frame.ensures.frame, octets) at c.in-Ok.ensures.exact) refl is in
    let vouched : IsVouchedBy c.args.checked.now.certificate.heights c.args.node.object.0 = omega arith in
    let same : c.shape_of.new.src.octets.now ≡ c.new-source.result.octets.now = ap (λ (m : Meaning). m.octets) c.in-Ok.ensures.reads in
    let body = c.borrow.ensures.part ∙ ap (λ f. part f c.in-Ok.head.body c.in-Ok.head.count) (same ∙ octets) in
    (vouched, spells_bytes c.args.checked.now c.frame-frame.ensures.checked c.octets.ensures.honest c.args.node.object.0 vouched c.in-Ok.head has c.in-Bytes.is c.borrow.result.now body)
