use Rattle.std.proofs.Common.{rules, arith, ◌++◌, ◌≡◌, ◌+◌, Err, length, take, drop, refl, sym, ap, ◌∙◌, IsTrue}
use Rattle.std.proofs.lemmas.List.{take_all, length-take, length-take-le}
use Rattle.std.proofs.lemmas.Result.{err_from_is_err_and}
use Rattle.std.specs.List.{flat_map}
use Rattle.bplist_octets.specs.Octets.{part}
use Rattle.bplist_objects.proofs.Parts.{part-part}
use Rattle.bplist_ascii.specs.BoundedWrites.{hex_digits}
use Rattle.bplist_ascii.proofs.WriteSteps.{on_err, read_fails, adds_fit, adds_within, adds_fail, text_more, text_adds, text_under, flat_part, flat_parts}
use Rattle.bplist_ascii.proofs.leaves.write_data_body.Goals as goal

pub returns-in_err-body_bytes-clause-fails : goal.returns-in_err-body_bytes-clause-fails
returns-in_err-body_bytes-clause-fails g c =
    let p = err_from_is_err_and c.from_residual.result c.from_residual.ensures.1 in
    let all = part c.args.checked.now.source.octets c.args.head.now.body c.args.head.now.count in
    rw (p.1, p.2) (λ honest low. read_fails _ c.in_err-body_bytes.field-0.0 (text_adds c.loop-done.invariant.so_far honest) (flat_parts hex_digits all c.loop-done.done 0)
    c.in_err-body_bytes.ensures.filled)

pub returns-in_err-body_bytes-clause-bounded : goal.returns-in_err-body_bytes-clause-bounded
returns-in_err-body_bytes-clause-bounded g c = on_err c.from_residual.result (adds_fit c.loop-done.invariant.so_far.adds)

pub returns-in_err-write_digits-clause-fails : goal.returns-in_err-write_digits-clause-fails
returns-in_err-write_digits-clause-fails g c =
    let is : c.from_residual-in_err-write_digits.result ≡ Err c.in_err-write_digits.field-0.0 = search rules in
    let f = c.args.checked.now.source.octets in
    let all = part f c.args.head.now.body c.args.head.now.count in
    let len : length (take c.min-now.result c.loop-done.buffer) ≡ c.min-now.result = length-take-le c.min-now.result c.loop-done.buffer (omega arith) in
    let read : IsTrue c.args.checked.now.source.honest → c.body_bytes.new.into ≡ part all c.loop-done.done c.min-now.result =
    λ honest. (rw c.loop-done.invariant.same at c.in_ok-body_bytes.ensures.filled) honest ∙ ap (part f (c.args.head.now.body + c.loop-done.done)) len
    ∙ sym (part-part f c.args.head.now.body c.args.head.now.count c.loop-done.done c.min-now.result (c.args.head.now.body + c.loop-done.done) (omega arith) refl) in
    rw is (λ honest low.
    let whole = flat_parts hex_digits all c.loop-done.done c.min-now.result in
    adds_fail _ _ _ (flat_map hex_digits (part all c.loop-done.done c.min-now.result)) _ (flat_map hex_digits all) _ (text_adds c.loop-done.invariant.so_far honest)
    (rw (read honest) at c.in_err-write_digits.ensures.fails) whole low)

pub returns-in_err-write_digits-clause-bounded : goal.returns-in_err-write_digits-clause-bounded
returns-in_err-write_digits-clause-bounded g c =
    let is : c.from_residual-in_err-write_digits.result ≡ Err c.in_err-write_digits.field-0.0 = search rules in
    rw is (adds_within _ _ _ c.loop-done.invariant.so_far.adds c.in_err-write_digits.ensures.bounded)

pub loop-done-preserved : goal.loop-done-preserved
loop-done-preserved g c =
    let f = c.args.checked.now.source.octets in
    let all = part f c.args.head.now.body c.args.head.now.count in
    let len : length (take c.min-now.result c.loop-done.buffer) ≡ c.min-now.result = length-take-le c.min-now.result c.loop-done.buffer (omega arith) in
    record {
      same = search rules;
      reached = omega arith;
      so_far = text_more _ _ c.loop-done.invariant.so_far c.in_ok-write_digits.ensures.adds (λ honest.
          ap (λ x. flat_map hex_digits (take c.loop-done.done all) ++ flat_map hex_digits x)
          ((rw c.loop-done.invariant.same at c.in_ok-body_bytes.ensures.filled) honest ∙ ap (part f (c.args.head.now.body + c.loop-done.done)) len
          ∙ sym (part-part f c.args.head.now.body c.args.head.now.count c.loop-done.done c.min-now.result (c.args.head.now.body + c.loop-done.done) (omega arith) refl))
          ∙ flat_part hex_digits all c.loop-done.done c.min-now.result);
    }

pub returns-clause-adds : goal.returns-clause-adds
returns-clause-adds g c =
    let f = c.args.checked.now.source.octets in
    let all = part f c.args.head.now.body c.args.head.now.count in
    let long = length-take c.args.head.now.count (drop c.args.head.now.body f) in
    text_under (λ _. ap (flat_map hex_digits) (take_all c.loop-done.done all (omega (arith, long)))) c.loop-done.invariant.so_far
