-- What is kept of pages, and for how many bytes they may be read.
use Rattle.std.proofs.Common.{◌≡◌, ℕ, ◌+◌, ◌*◌, ◌/◌, ◌%◌, ◌<◌, ◌≤◌, inl, inr, Bool, false, List, Option, Some, None, ap, is_some, get_or, length, set, sum_by, take, refl, sym, ◌∙◌, subst, arith}
use Rattle.std.proofs.lemmas.Bool.{cases_eq, cases_lt}
use Rattle.std.proofs.lemmas.List.{get_or-set_same, get_or-set_other, length-set}
use Rattle.std.proofs.lemmas.List.Sums.{sum_by-le, sum_by-set}
use Rattle.bplist_octets.specs.Octets.{part}
use Rattle.bplist_octets.specs.Pages.{ArePages, IsPage, IsUnread, page_left, pages_left}
use Rattle.bplist_octets.specs.declared.pages.Page.{Page}

-- a page that was read twice has all bytes of a request in it
pub kept_whole : (f : List ℕ) (honest : Bool) (at count : ℕ) (page : Page) → IsPage f honest (at / 16384) page → 2 ≤ page.reads
    → at % 16384 + count ≤ 16384 → at + count ≤ length f → (page.start ≤ at) × (at + count ≤ page.start + page.held)
kept_whole f honest at count page is two fits inside =
    let all = is.whole two in
    (omega (arith, all.0), omega (arith, all.1, fits, inside))

-- so a page that lacks some of them was read at most once
pub read_once : (f : List ℕ) (honest : Bool) (at count : ℕ) (page : Page) → IsPage f honest (at / 16384) page
    → (page.start ≤ at → at + count ≤ page.start + page.held → ⊥) → at % 16384 + count ≤ 16384 → at + count ≤ length f → page.reads < 2
read_once f honest at count page is lacks fits inside = elim (cases_lt page.reads 2) [
  | inl few ↦ few
  | inr two ↦ let all = kept_whole f honest at count page is (omega (arith, two)) fits inside in absurd (lacks all.0 all.1)
]

-- no index is found
pub is_none : (found : Option ℕ) → false ≡ is_some found → found ≡ None
is_none None none = refl
is_none (Some k) none = cc none

-- one page changes
pub pages_set : (f : List ℕ) (honest : Bool) (pages : List Page) (number : ℕ) (page : Page) → ArePages f honest pages → IsPage f honest number page → ArePages f honest (set pages number page)
pages_set f honest pages number page are is k d low =
    let long = length-set pages number page in
    elim (cases_eq k number) [
      | inl e ↦ rw e (subst (IsPage f honest number) (sym (get_or-set_same pages number page d (omega (arith, low, long, e)))) is)
      | inr ne ↦ subst (IsPage f honest k) (sym (get_or-set_other pages number k page d ne)) (are k d (omega (arith, low, long)))
    ]

-- what is left changes with it
pub left_set : (spare : ℕ) (pages : List Page) (number more : ℕ) (page old d : Page) → old ≡ get_or pages number d → number < length pages
    → page_left page ≤ page_left old + more → pages_left spare (set pages number page) ≤ pages_left spare pages + more
left_set spare pages number more page old d is low bound =
    let sums = sum_by-set page_left pages number page d low in
    let same = ap page_left is in
    omega (arith, sums, same, bound)

-- no page may be read for more than two pages
pub all_left : (pages : List Page) → sum_by page_left pages ≤ length pages * 32768
all_left pages = sum_by-le page_left 32768 pages (λ k d low. omega arith)

-- a page that gave its bytes up, or that has been given memory
pub emptied : (f : List ℕ) (honest : Bool) (number : ℕ) (page new : Page) → IsPage f honest number page → new.start ≡ page.start → new.held ≡ 0 → new.reads ≡ 0 → IsPage f honest number new
emptied f honest number page new is start none unread = record {
  place = ap (λ k. k / 16384) start ∙ is.place;
  room = omega (arith, none);
  inside = let inside = is.inside in omega (arith, start, none, inside);
  none = λ _. none;
  holds = λ _. ap (λ n. take n new.octets.items) none ∙ sym (ap (part f new.start) none);
  whole = λ two. absurd (omega (arith, two, unread));
}

-- a page of which nothing is kept stays so, if another is given up
pub still_unread : (pages : List Page) (k number : ℕ) (page d : Page) → k < length pages → page.reads ≡ 0 → IsUnread pages number → (get_or (set pages k page) number d).reads ≡ 0
still_unread pages k number page d low none unread = elim (cases_eq number k) [
  | inl e ↦ rw (e, get_or-set_same pages k page d low) none
  | inr ne ↦ rw (get_or-set_other pages k number page d ne) (unread d)
]
