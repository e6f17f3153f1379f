-- The key lists of vouched dictionaries, one after the other. Source: profile.
use Rattle.std.specs.Prelude.{◌≡◌, ℕ, suc, ◌+◌, ◌<◌, ◌≤◌, nat_lt, cond, List, length, slice_index, Option, Some, None, is_some, sum, filter_map, Bool, if◌then◌else◌}
use Rattle.std.specs.List.{range_with_len}
use Rattle.std.specs.Option.{option_and_then}
use Rattle.bplist_objects.specs.declared.frame.Frame.{Frame}
use Rattle.bplist_objects.specs.declared.head.Head.{Head}
use Rattle.bplist_objects.specs.declared.head.Kind.TheVariants.{Dict}
use Rattle.bplist_objects.specs.Announced.{HasHead}
use Rattle.bplist_objects.specs.Heads.{Spells, dict}
use Rattle.bplist_objects.specs.Markers.{head_found}
use Rattle.bplist_objects.specs.Extents.{Sums}
use Rattle.bplist_cert.specs.Lists.{Keyed, Lists, lists}
use Rattle.bplist_cert.specs.Valid.{IsVouchedBy}
use Rattle.bplist_cert.specs.Sorted.{IsAccepted}
use Rattle.bplist_cert.specs.CheckRules.{HasOrder}
use Rattle.bplist_lint.specs.declared.linter.Keys.{Keys}
use Rattle.bplist_lint.specs.declared.linter.Keys.TheVariants.{Classes, Ranks}
use Rattle.bplist_lint.specs.declared.tally.Tally.{Tally}
use Rattle.bplist_lint.specs.Linted.{IsLintedBy, lint_of}

module _ (f : List ℕ) (F : Frame) (heights : List ℕ) where
  -- the number of positions in the key list of object n, computed: the count of its head, if it is a vouched dictionary
  abbrev pub pairs : ℕ → Option ℕ
  pairs n = cond (nat_lt 0 (slice_index heights n))
      (option_and_then (λ head. elim head.kind [ Dict ↦ Some head.count | _ ↦ None ]) (head_found f F n)) None

  -- the number of positions in the key lists of the objects below n together
  abbrev pub pairs_below : ℕ → ℕ
  pairs_below n = sum (filter_map pairs (range_with_len 0 n))

  -- the vouched dictionaries before n have their key lists
  pub record Listed (n : ℕ) (starts positions : List ℕ) : Type 0 where
    pub total : length positions ≡ pairs_below n
    pub begins : (m : ℕ) → m < n → slice_index starts m ≡ cond (is_some (pairs m)) (pairs_below m) 0
    pub later : (m : ℕ) → n ≤ m → slice_index starts m ≡ 0
    pub order : (m : ℕ) → m < n → IsVouchedBy heights m → (head : Head) → HasHead f F m head → head.kind ≡ Dict
        → HasOrder f F (record { starts = starts; positions = positions }) m head
    pub used : ℕ
    pub sums : Sums f F (IsVouchedBy heights) n used
    pub few : length positions ≤ used

  -- object n is vouched for, and spells a dictionary of this many pairs
  abbrev pub HasPairs : ℕ → ℕ → Type 0
  HasPairs n count = IsVouchedBy heights n × ((ks ms : List ℕ) × Spells f F n (dict ks ms) × (length ks ≡ count))

  -- the certificate keeps its heights and gets the key lists of the vouched dictionaries, one after the other; each
  -- list is as long as its dictionary has pairs
  pub record IsUpgraded (certificate : Lists) : Type 0 where
    pub keyed : Keyed
    pub is : certificate ≡ lists heights (Some keyed)
    pub all : length keyed.starts ≡ F.objects
    -- how many positions come before the key list of object n: none before the first
    pub before : ℕ → ℕ
    pub none : before 0 ≡ 0
    -- the list of a vouched dictionary begins behind them, and has a position for each pair
    pub dict : (n count : ℕ) → n < F.objects → HasPairs n count
        → (slice_index keyed.starts n ≡ before n) × (before (suc n) ≡ before n + count)
    -- any other object has no list
    pub other : (n : ℕ) → n < F.objects → ((count : ℕ) → HasPairs n count → ⊥)
        → (slice_index keyed.starts n ≡ 0) × (before (suc n) ≡ before n)
    pub total : length keyed.positions ≡ before F.objects
    pub accepted : IsAccepted f F certificate

-- how the linter numbers keys for a certificate that is to have key lists or not
abbrev pub keys_for : Bool → Keys
keys_for sorted = if sorted then Ranks else Classes

-- the linter's answer is right for the certificate's heights and this tally, and with ranks the certificate has key
-- lists
abbrev pub IsLintedWith : Keys → List ℕ → Frame → Lists → Tally → Type 0
IsLintedWith keys f F certificate tally = IsLintedBy f F (lint_of F (lists certificate.heights None) tally)
    × elim keys [ Classes ↦ certificate.keys ≡ None | Ranks ↦ IsUpgraded f F certificate.heights certificate ]
