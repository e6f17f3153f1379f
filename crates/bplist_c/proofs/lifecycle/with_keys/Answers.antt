use Rattle.std.proofs.Common.{◌∙◌, IsSome, IsTrue, ap, sym, subst}
use Rattle.bplist_octets.specs.Meaning.{Meaning}
use Rattle.bplist_cert.specs.Lists.{Lists}
use Rattle.bplist_c.proofs.KeptLists.{has_keys, keyed_checked}
use Rattle.bplist_c.proofs.lifecycle.with_keys.Goals as goal

pub new-requires : goal.new-requires
new-requires c =
    let checked = c.args.checked in
    let source = c.into_parts.ensures.source ∙ c.in-Ok.ensures.source in
    let honest : IsTrue checked.source.honest = sym (ap (λ (m : Meaning). m.honest) source) in
    keyed_checked checked c.in-Ok.certificate (c.in-Ok.ensures.exact honest) c.into_parts.result.0.octets c.frame-frame.result c.frame-frame.ensures.checked honest
    (ap (λ (m : Meaning). m.octets) source) c.frame-frame.ensures.frame c.in-Ok.ensures.heights

pub returns-in-Ok : goal.returns-in-Ok
returns-in-Ok c =
    let checked = c.args.checked in
    let source = c.into_parts.ensures.source ∙ c.in-Ok.ensures.source in
    let honest : IsTrue checked.source.honest = sym (ap (λ (m : Meaning). m.honest) source) in (
      c.new.ensures.source ∙ source,
      c.new.ensures.frame ∙ c.frame-frame.ensures.frame,
      ap (λ (l : Lists). l.heights) c.new.ensures.certificate ∙ c.in-Ok.ensures.heights,
      subst (λ (l : Lists). IsSome l.keys) (sym c.new.ensures.certificate) (has_keys checked c.in-Ok.certificate (c.in-Ok.ensures.exact honest)),
    )
