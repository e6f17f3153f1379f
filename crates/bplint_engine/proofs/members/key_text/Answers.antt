use Rattle.bplist_objects.specs.Value.{leaf, text}
use Rattle.bplint_engine.proofs.members.key_text.Goals as goal

pub returns-in-Text-clause-exact : goal.returns-in-Text-clause-exact
returns-in-Text-clause-exact g c = λ honest u held.
    let shown = c.in_ok-units.ensures.value honest held.0 (leaf (text u)) held.1 in
    let text = c.in-Text.is in
    cc

pub returns : goal.returns
returns g c = record {
  reads = c.in_ok-units.ensures.reads;
  exact = λ honest u held. absurd (c.in_default.not-Text u (c.in_ok-units.ensures.value honest held.0 (leaf (text u)) held.1));
}
