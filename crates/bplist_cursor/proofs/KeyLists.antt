-- The key lists of a checked file.
use Rattle.std.proofs.Common.{arith, ◌≡◌, ◌≤◌, ◌+◌, ℕ, length, List, slice_index, Some, IsTrue, sym, ap₂, ◌∙◌}
use Rattle.std.proofs.Props.{props}
use Rattle.std.proofs.Math.Logic.{∥∥₁_map, ∥∥₁_elim}
use Rattle.bplist_octets.specs.Octets.{part}
use Rattle.bplist_objects.specs.declared.frame.Frame.{Frame}
use Rattle.bplist_objects.specs.Heads.{Spells, dict}
use Rattle.bplist_objects.specs.Units.{compare_units}
use Rattle.bplist_cert.specs.Lists.{Keyed, IsCompleteList, list_of}
use Rattle.bplist_cert.specs.Valid.{IsVouchedBy}
use Rattle.bplist_cert.specs.Sorted.{IsSorted}
use Rattle.bplist_cert.proofs.OrderedLists.{ascend_far}
use Rattle.bplist_cert.proofs.RepeatedKeys.{units_at, low, up, units_of_key}
use Rattle.bplist_cert.specs.CheckedFile.{CheckedFile, IsChecked}
use Rattle.bplist_cursor.specs.KeySearch.{IsKeyList}

-- a sorted list is a key list
module _ (f : List ℕ) (F : Frame) (ks list : List ℕ) (is : IsSorted f F ks list) where
  pub sorted_list : IsKeyList f F ks list
  sorted_list = record {
    within = low f F ks list is;
    ascend = λ i j before l us vs s t.
        let first = units_of_key f F ks list is (slice_index list i) us (low f F ks list is i (omega (arith, before, l))) s in
        let second = units_of_key f F ks list is (slice_index list j) vs (low f F ks list is j l) t in
        ap₂ compare_units (sym first) (sym second) ∙ ascend_far (units_at f F ks list is) (length ks) (up f F ks list is) i j before l;
  }

-- the key list of a dictionary that a checked file's certificate vouches for
module _ (checked : CheckedFile) (is : IsChecked checked) (honest : IsTrue checked.source.honest) (n : ℕ) (ks ms : List ℕ)
    (vouched : IsVouchedBy checked.certificate.heights n) (spells : Spells checked.source.octets checked.frame n (dict ks ms))
    (keyed : Keyed) (has : checked.certificate.keys ≡ Some keyed) where
  listed : ∥ IsCompleteList keyed n (length ks) × IsSorted checked.source.octets checked.frame ks (list_of keyed n (length ks)) ∥₁
  listed = ∥∥₁_map (is.accepted honest) (λ a. (rw has at a.listed) n ks ms vouched spells)

  pub list_room : slice_index keyed.starts n + length ks ≤ length keyed.positions
  list_room = ∥∥₁_elim listed (hlevel props) (λ p. p.0)

  pub list_of_keys : IsKeyList checked.source.octets checked.frame ks (part keyed.positions (slice_index keyed.starts n) (length ks))
  list_of_keys = ∥∥₁_elim listed (hlevel props) (λ p. sorted_list _ _ ks _ p.1)
