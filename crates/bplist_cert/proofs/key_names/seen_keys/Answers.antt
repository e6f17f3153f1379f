use Rattle.bplist_cert.proofs.KeysLooks.{stamps_marked}
use Rattle.bplist_cert.proofs.key_names.seen_keys.Goals as goal

pub returns-then-len-objects-clause-exact : goal.returns-then-len-objects-clause-exact
returns-then-len-objects-clause-exact g c = λ honest seen given.
    stamps_marked _ _ c.args.heights.now c.args.bound c.in-Some.names c.in_ok-marks_of.field-0.marks.items
    (rw c.deref.ensures.value at c.in_ok-marks_of.ensures.all) (rw c.deref.ensures.value at c.in_ok-marks_of.ensures.exact) (rw c.in-Some.is at given)
