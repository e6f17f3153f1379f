-- The bytes in a page.
use Rattle.std.proofs.Common.{◌≡◌, ℕ, ◌+◌, ◌≤◌, Bool, List, ◌++◌, sym, ap, ◌∙◌, subst, IsTrue}
use Rattle.bplist_octets.specs.Octets.{part}
use Rattle.bplist_octets.specs.Meaning.{Meaning}
use Rattle.bplist_octets.specs.Pages.{IsPage}
use Rattle.bplist_octets.specs.declared.pages.Page.{Page}
use Rattle.bplist_octets.proofs.Parts.{part_joined, range_is_part, window_part}

-- a part of a page's bytes is that part of the source's bytes
pub page_part : (f : List ℕ) (honest : Bool) (page : Page) (k at from n : ℕ) → IsPage f honest k page → page.start + from ≡ at → from + n ≤ page.held → IsTrue honest → part page.octets.items from n ≡ part f at n
page_part f honest page k at from n is same inside is_honest =
    sym (range_is_part page.octets.items from n)
    ∙ window_part page.octets.items f page.start page.held from n (is.holds is_honest) inside
    ∙ ap (λ k. part f k n) same

-- two reads, one behind the other
pub joined_reads : (old mid : Meaning) (xs ys : List ℕ) (at n j m k : ℕ) → mid ≡ old → j ≡ n → (IsTrue old.honest → xs ≡ part old.octets at n) → (IsTrue mid.honest → ys ≡ part mid.octets (at + j) m) → k ≡ n + m → IsTrue old.honest → xs ++ ys ≡ part old.octets at k
joined_reads old mid xs ys at n j m k same is first second total honest =
    let behind : ys ≡ part old.octets (at + j) m = subst (λ s. IsTrue s.honest → ys ≡ part s.octets (at + j) m) same second honest in
    ap (λ l. l ++ ys) (first honest)
    ∙ ap (λ l. part old.octets at n ++ l) (behind ∙ ap (λ i. part old.octets (at + i) m) is)
    ∙ part_joined old.octets at n m
    ∙ ap (part old.octets at) (sym total)
