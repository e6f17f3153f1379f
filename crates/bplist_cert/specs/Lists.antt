-- Certificates as lists. Source: profile.
use Rattle.std.specs.Prelude.{◌≡◌, ℕ, ◌+◌, ◌^◌, ◌<◌, ◌≤◌, List, length, slice_index, Option, IfSome}
use Rattle.bplist_octets.specs.Octets.{part}

-- the key lists of version 2: the index at which each dictionary's list starts, and the positions of its keys
pub record Keyed : Type 0 where
  pub starts : List ℕ
  pub positions : List ℕ

-- the key list of object n, with `count` positions, is complete
abbrev pub IsCompleteList : Keyed → ℕ → ℕ → Type 0
IsCompleteList keyed n count = slice_index keyed.starts n + count ≤ length keyed.positions

-- the key list of object n
abbrev pub list_of : Keyed → ℕ → ℕ → List ℕ
list_of keyed n count = part keyed.positions (slice_index keyed.starts n) count

-- a height for each object, and in version 2 the key lists
pub record Lists : Type 0 where
  pub heights : List ℕ
  pub keys : Option Keyed

-- heights and key lists as one record
abbrev pub lists : List ℕ → Option Keyed → Lists
lists heights keys = record { heights = heights; keys = keys }

-- there is a start for each height
abbrev pub HasStarts : List ℕ → Option Keyed → Type 0
HasStarts heights keys = IfSome keys (λ keyed. length keyed.starts ≡ length heights)

-- in version 2, this is the number of starts
abbrev pub HasCount : Option Keyed → ℕ → Type 0
HasCount keys count = IfSome keys (λ keyed. length keyed.starts ≡ count)

-- all of these numbers have 32 bits
abbrev pub AreWords : List ℕ → Type 0
AreWords xs = (k : ℕ) → slice_index xs k < 2 ^ 32

-- the lists that a certificate can have: numbers of 32 bits, and a start for each height
pub record IsCertificate (certificate : Lists) : Type 0 where
  pub count : length certificate.heights < 2 ^ 64
  pub heights : AreWords certificate.heights
  pub keys : IfSome certificate.keys (λ keyed. AreWords keyed.starts × AreWords keyed.positions)
  pub starts : HasStarts certificate.heights certificate.keys
