use Rattle.std.proofs.Common.{◌≡◌, ◌+◌, ◌-◌, ◌*◌, ap, ◌∙◌, take, drop, arith}
use Rattle.bplist_octets.specs.Octets.{num}
use Rattle.bplist_cert.proofs.NumberBytes.{AreBytes, word-lt, words_all}
use Rattle.bplist_cert.proofs.decoding.spell_words.Goals as goal

pub overflow_cast-into : goal.overflow_cast-into
overflow_cast-into c =
    let low : AreBytes c.args.octets.now = λ k. omega (arith, c.type_inv.octets k) in
    let lt = word-lt c.args.octets.now (4 * c.loop-k.k) low (omega arith) in
    let four : 4 * c.loop-k.k + 4 - 4 * c.loop-k.k ≡ 4 = omega arith in
    omega (arith, lt, c.sized.ensures ∙ ap (λ n. num (take n (drop (4 * c.loop-k.k) c.args.octets.now))) four)

pub returns : goal.returns
returns c =
    let low : AreBytes c.args.octets.now = λ k. omega (arith, c.type_inv.octets k) in
    words_all c.args.octets.now c.loop-k.into low (omega (arith, c.loop-k.auto.into)) (λ k l. c.loop-k.invariant k (omega (arith, l, c.loop-k.auto.into)))
