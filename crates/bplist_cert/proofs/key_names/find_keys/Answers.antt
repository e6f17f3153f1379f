use Rattle.std.proofs.Common.{◌≡◌, ◌∙◌, inl, inr, length, arith}
use Rattle.std.proofs.lemmas.List.{length-take-le}
use Rattle.bplist_objects.specs.Answers.{Never}
use Rattle.bplist_cert.proofs.CheckSteps.{never_refused, on_err}
use Rattle.bplist_cert.proofs.key_names.find_keys.Goals as goal

pub returns-in_err-name_key_block-clause-exact : goal.returns-in_err-name_key_block-clause-exact
returns-in_err-name_key_block-clause-exact g c = λ honest seen.
    let v = c.loop-done.invariant in
    let all : length c.read_offsets_in.new.into ≡ c.min-now.result = omega (arith, length-take-le c.min-now.result c.loop-done.buffer (omega arith)) in
    let places = (rw v.same at c.in_ok-read_offsets_in.ensures.offsets) honest in
    let exact = (rw (c.in_ok-read_offsets_in.ensures.reads, v.same) at c.in_err-name_key_block.ensures.exact) honest places in
    on_err _ _ _ _ c.from_residual-in_err-name_key_block.ensures.1 (never_refused Never c.in_err-name_key_block.field-0.0 (exact (λ m low vouched. seen m (omega (arith, low, all)) vouched) (v.named honest seen)))

pub loop-done-preserved : goal.loop-done-preserved
loop-done-preserved g c =
    let v = c.loop-done.invariant in
    let all : length c.read_offsets_in.new.into ≡ c.min-now.result = omega (arith, length-take-le c.min-now.result c.loop-done.buffer (omega arith)) in
    record {
      same = c.in_ok-name_key_block.ensures.reads ∙ c.in_ok-read_offsets_in.ensures.reads ∙ v.same;
      reached = omega arith;
      all = c.in_ok-name_key_block.ensures.all ∙ v.all;
      named = λ honest seen.
          let places = (rw v.same at c.in_ok-read_offsets_in.ensures.offsets) honest in
          let exact = (rw (c.in_ok-read_offsets_in.ensures.reads, v.same) at c.in_ok-name_key_block.ensures.exact) honest places in
          let named = exact (λ k below is. seen k (omega (arith, below, all)) is) (v.named honest seen) in
          (named.0, λ m low vouched. named.1 m (omega (arith, low, all)) vouched);
      only = λ honest m marked.
          let places = (rw v.same at c.in_ok-read_offsets_in.ensures.offsets) honest in
          let told = (rw (c.in_ok-read_offsets_in.ensures.reads, v.same) at c.in_ok-name_key_block.ensures.only) honest places in
          elim (told m marked) [ inl before ↦ v.only honest m before | inr key ↦ key ];
    }
