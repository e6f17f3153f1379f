use Rattle.bplist_lint.specs.Trail.{AllHave}
use Rattle.bplist_lint.proofs.circle.without.Given as goal

abbrev pub invariant-loop-m : goal.invariant-loop-m
invariant-loop-m l = record {
  have : AllHave l.heights l.objects l.m-index;
}
