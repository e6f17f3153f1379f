-- Pages of bytes that were read from a source. Source of these definitions: profile.
use Rattle.std.specs.Prelude.{◌≡◌, ℕ, ◌+◌, ◌*◌, ◌-◌, ◌/◌, ◌<◌, ◌≤◌, Bool, List, cond, get_or, length, min, nat_lt, sum_by, take, vec_len, IsTrue}
use Rattle.bplist_octets.specs.Octets.{part}
use Rattle.bplist_octets.specs.declared.pages.Page.{Page}

-- what is kept of this page is inside it and has the bytes, if the source is honest; before the first read it is nothing,
-- and after two reads all of the page
pub record IsPage (f : List ℕ) (honest : Bool) (number : ℕ) (page : Page) : Type 0 where
  pub place : page.start / 16384 ≡ number
  pub room : page.held ≤ vec_len page.octets
  pub inside : page.start + page.held ≤ length f
  pub none : page.reads ≡ 0 → page.held ≡ 0
  pub holds : IsTrue honest → take page.held page.octets.items ≡ part f page.start page.held
  pub whole : 2 ≤ page.reads → (page.start ≤ 16384 * number) × (min (16384 * number + 16384) (length f) ≤ page.start + page.held)

-- the pages of a source, by their numbers
abbrev pub ArePages : List ℕ → Bool → List Page → Type 0
ArePages f honest pages = (number : ℕ) (d : Page) → number < length pages → IsPage f honest number (get_or pages number d)

-- nothing is kept of this page
abbrev pub IsUnread : List Page → ℕ → Type 0
IsUnread pages number = (d : Page) → (get_or pages number d).reads ≡ 0

-- pages of which nothing is kept, by their numbers
abbrev pub AreUnread : List Page → Type 0
AreUnread pages = (number : ℕ) (d : Page) → number < length pages
    → ((get_or pages number d).start ≡ number * 16384) × ((get_or pages number d).held ≡ 0) × ((get_or pages number d).reads ≡ 0)

-- for how many bytes more the source is asked to keep the page: once for a part of it, and once for all
abbrev pub page_left : Page → ℕ
page_left page = 16384 * (2 - page.reads)

-- the same for all pages, if so many of them may be given up again
abbrev pub pages_left : ℕ → List Page → ℕ
pages_left spare pages = 32768 * spare + sum_by page_left pages

-- for how many bytes a request goes past the pages
abbrev pub past_pages : ℕ → ℕ
past_pages n = cond (nat_lt 8192 n) n 0
