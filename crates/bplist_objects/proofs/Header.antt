-- Laws of the header.
use Rattle.std.proofs.Common.{◌≡◌, ◌≢◌, ℕ, ◌<◌, List, get_or, sym, ◌∙◌, ap, arith}
use Rattle.bplist_octets.specs.Octets.{part}
use Rattle.bplist_objects.specs.Frame.{header}
use Rattle.bplist_objects.specs.Claims.{FailsAt}
use Rattle.bplist_objects.proofs.Parts.{get_or-part}
use Rattle.bplist_objects.proofs.ClaimLaws.{Below, first_failure}

-- the first difference in the first eight bytes is the first difference in the file
pub first_wrong : (file octets : List ℕ) (i : ℕ) → octets ≡ part file 0 8 → i < 8 → get_or octets i 0 ≢ get_or header i 0 → ((k : ℕ) → k < i → get_or octets k 0 ≡ get_or header k 0)
    → FailsAt (Below (λ k. get_or file k 0 ≡ get_or header k 0)) 8 i
first_wrong file octets i e h wrong before =
    let same : (k : ℕ) → k < 8 → get_or file k 0 ≡ get_or octets k 0 = λ k l. sym (ap (λ o. get_or o k 0) e ∙ get_or-part file 0 8 k 0 l ∙ ap (λ j. get_or file j 0) (omega arith)) in
    first_failure (λ k. get_or file k 0 ≡ get_or header k 0) 8 i h (λ q. wrong (sym (same i h) ∙ q)) (λ k l. same k (omega (arith, l, h)) ∙ before k l)
