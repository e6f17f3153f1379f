use Rattle.bplist_objects.proofs.UnitOrder.{compare_units-equal_iff, compare_units-reverse, compare_units-less_less}
use Rattle.bplist_objects.proofs.leaf_laws.units_are_ordered.Goals as goal

pub returns : goal.returns
returns c = record {
  equal = λ us vs. compare_units-equal_iff us vs;
  reverse = λ us vs. compare_units-reverse us vs;
  less = λ us vs ws a b. compare_units-less_less us vs ws a b;
}
