use Rattle.std.proofs.Common.{rules, arith, ◌++◌, ◌≡◌, ◌+◌, Err, length, take, drop, refl, sym, ap, ◌∙◌, subst, take-append-drop}
use Rattle.std.proofs.lemmas.List.{take_all, length-append, length-take, length-take-le}
use Rattle.std.proofs.lemmas.Result.{err_from_is_err_and}
use lib.Seq.{take-add}
use Rattle.bplist_octets.specs.Octets.{part}
use Rattle.bplist_objects.proofs.Parts.{part-part}
use Rattle.bplist_octets.specs.Sending.{Takes}
use Rattle.bplist_octets.proofs.SinkSteps.{takes_more}
use Rattle.bplist_ascii.proofs.WriteSteps.{parts_of}
use Rattle.bplint_lines.specs.declared.fault.RunFault.TheVariants.{Write}
use Rattle.bplint_engine.proofs.LowerFaults.{unread_excused}
use Rattle.bplint_engine.proofs.Puts.{fails_behind, stopped_behind}
use Rattle.bplint_engine.proofs.raw_bytes.put_data.Goals as goal

pub returns-in_err-body_bytes-clause-exact : goal.returns-in_err-body_bytes-clause-exact
returns-in_err-body_bytes-clause-exact g c = λ honest.
    let p = err_from_is_err_and c.from_residual.result c.from_residual.ensures.1 in
    let all = part c.args.checked.now.source.octets c.args.head.now.body c.args.head.now.count in
    rw (p.1, p.2) (stopped_behind _ _ (drop c.loop-done.done all) all _ (c.loop-done.invariant.so_far honest)
    (unread_excused c.in_err-body_bytes.field-0.0 c.in_err-body_bytes.ensures.filled) (sym (take-append-drop c.loop-done.done all)))

pub returns-in_err-put-clause-exact : goal.returns-in_err-put-clause-exact
returns-in_err-put-clause-exact g c = λ honest.
    let is : c.from_residual-in_err-put.result ≡ Err (Write c.in_err-put.field-0.0.sent) = search rules in
    let f = c.args.checked.now.source.octets in
    let all = part f c.args.head.now.body c.args.head.now.count in
    let len : length (take c.min-now.result c.loop-done.buffer) ≡ c.min-now.result = length-take-le c.min-now.result c.loop-done.buffer (omega arith) in
    let read = (rw c.loop-done.invariant.same at c.in_ok-body_bytes.ensures.filled) honest ∙ ap (part f (c.args.head.now.body + c.loop-done.done)) len
    ∙ sym (part-part f c.args.head.now.body c.args.head.now.count c.loop-done.done c.min-now.result (c.args.head.now.body + c.loop-done.done) (omega arith) refl) in
    rw is (fails_behind _ _ _ (part all c.loop-done.done c.min-now.result) _ all (Write c.in_err-put.field-0.0.sent) (c.loop-done.invariant.so_far honest)
    (rw read at c.in_err-put.ensures.part) (parts_of all c.loop-done.done c.min-now.result))

pub loop-done-preserved : goal.loop-done-preserved
loop-done-preserved g c =
    let f = c.args.checked.now.source.octets in
    let all = part f c.args.head.now.body c.args.head.now.count in
    let len : length (take c.min-now.result c.loop-done.buffer) ≡ c.min-now.result = length-take-le c.min-now.result c.loop-done.buffer (omega arith) in
    record {
      same = search rules;
      reached = omega arith;
      so_far = λ honest.
          let read = (rw c.loop-done.invariant.same at c.in_ok-body_bytes.ensures.filled) honest ∙ ap (part f (c.args.head.now.body + c.loop-done.done)) len
          ∙ sym (part-part f c.args.head.now.body c.args.head.now.count c.loop-done.done c.min-now.result (c.args.head.now.body + c.loop-done.done) (omega arith) refl) in
          subst (Takes _ _ _ _) (ap (λ x. take c.loop-done.done all ++ x) read ∙ sym (take-add c.loop-done.done c.min-now.result all))
          (takes_more (c.loop-done.invariant.so_far honest) c.in_ok-put.ensures.taken);
      whole =
          let (before, many, takes) = c.loop-done.invariant.whole in
          (before ++ _, length-append before _ ∙ omega (arith, many, len), takes_more takes c.in_ok-put.ensures.taken);
    }

pub returns-clause-exact : goal.returns-clause-exact
returns-clause-exact g c = λ honest.
    let f = c.args.checked.now.source.octets in
    let all = part f c.args.head.now.body c.args.head.now.count in
    let long = length-take c.args.head.now.count (drop c.args.head.now.body f) in
    subst (Takes _ _ _ _) (take_all c.loop-done.done all (omega (arith, long))) (c.loop-done.invariant.so_far honest)
