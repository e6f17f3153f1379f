use Rattle.std.proofs.Common.{◌≡◌, ◌∙◌, arith, sym, map, length, false}
use Rattle.std.proofs.lemmas.List.{ext_get_or, get_or-map, length-map}
use Rattle.bplist_lint.specs.HeightWalks.{first_state}
use Rattle.bplist_lint.specs.declared.heights.State.TheVariants as states
use Rattle.bplist_lint.proofs.heights.first_states.Goals as goal

pub returns : goal.returns
returns c =
    let marks = c.args.childless.now in
    let i = c.loop-i.invariant in
    let all : length c.loop-i.states.items ≡ length (map first_state marks) = i.all ∙ sym (length-map marks first_state) in
    ext_get_or states.New c.loop-i.states.items (map first_state marks) all
    (λ k low. i.put k (omega (arith, low, i.all, c.loop-i-test.false)) ∙ sym (get_or-map first_state marks k false states.New (omega (arith, low, i.all))))
