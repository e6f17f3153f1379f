use Rattle.bplist_lint.proofs.HeldValues.{holds_formed, formed_holds}
use Rattle.bplist_lint.proofs.laws.holds_iff_well_formed.Goals as goal

pub returns : goal.returns
returns c = λ f. ((λ h. holds_formed f h.0 h.1), λ w. formed_holds f w.0 w.1)
