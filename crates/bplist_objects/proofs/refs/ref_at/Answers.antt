use Rattle.std.proofs.Common.{◌≡◌, ◌∙◌, sym, arith, length, slice_index, IsTrue}
use Rattle.bplist_objects.specs.Heads.{refs, content_at}
use Rattle.std.proofs.lemmas.Result.{IfOk-weaker}
use Rattle.bplist_objects.proofs.References.{nth-refs}
use Rattle.bplist_objects.proofs.BodyLaws.{refs_within}
use Rattle.bplist_objects.proofs.refs.ref_at.Goals as goal

pub overflow_mul-i : goal.overflow_mul-i
overflow_mul-i g c =
    omega (arith, refs_within (length (g.S.Source.means c.args.src.now).octets) c.args.i 1 c.args.frame.now c.args.head.now c.requires.safe c.requires.head (omega arith))

pub overflow_add-head : goal.overflow_add-head
overflow_add-head g c =
    omega (arith, refs_within (length (g.S.Source.means c.args.src.now).octets) c.args.i 1 c.args.frame.now c.args.head.now c.requires.safe c.requires.head (omega arith))

pub number_in-requires : goal.number_in-requires
number_in-requires g c =
    omega (arith, refs_within (length (g.S.Source.means c.args.src.now).octets) c.args.i 1 c.args.frame.now c.args.head.now c.requires.safe c.requires.head (omega arith))

pub returns-clause-reference : goal.returns-clause-reference
returns-clause-reference g c =
    let f = (g.S.Source.means c.args.src.now).octets in
    let head = c.args.head.now in
    IfOk-weaker c.number_in.result _ (λ x. IsTrue (g.S.Source.means c.args.src.now).honest → slice_index (refs (content_at f c.args.frame.now head)) c.args.i ≡ x) (λ x h honest. nth-refs f c.args.frame.now head.kind head.count head.body c.args.i c.requires.within ∙ sym (h honest)) c.number_in.ensures.value
