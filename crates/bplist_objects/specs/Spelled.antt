-- What an object spells, as a function of the file, for contracts inside crates that follow references. Source: as in
-- Heads, to which the lemmas `spells_iff` and `refs_iff` tie it.
use Rattle.std.specs.Prelude.{ℕ, Bool, true, ◌&&◌, nat_lt, nat_le, if◌then◌else◌, List, [], length, Option, Some, None}
use Rattle.std.specs.List.{list_all}
use Rattle.std.specs.Option.{option_and_then, option_map_or}
use Rattle.bplist_octets.specs.Octets.{part}
use Rattle.bplist_objects.specs.declared.frame.Frame.{Frame}
use Rattle.bplist_objects.specs.declared.head.Kind.{Kind}
use Rattle.bplist_objects.specs.declared.head.Kind.TheVariants as kinds
use Rattle.bplist_objects.specs.declared.head.Head.{Head}
use Rattle.bplist_objects.specs.Numbers.{num_at}
use Rattle.bplist_objects.specs.Frame.{off}
use Rattle.bplist_objects.specs.Heads.{Content, refs, content_at}
use Rattle.bplist_objects.specs.Markers.{head_found}

-- rules 18 and 19: the bytes of Ascii are below 128, and a UID is not too large
abbrev pub is_proper : List ℕ → Kind → ℕ → ℕ → Bool
is_proper f kinds.Ascii count body = list_all (λ b. nat_lt b 128) (part f body count)
is_proper f kinds.Uid count body = nat_le (num_at f body count) 4294967295
is_proper f _ count body = true

module _ (f : List ℕ) (F : Frame) where
  -- n is an object, and with this announced head it keeps rules 14 to 20
  abbrev pub is_spelled : ℕ → Head → Bool
  is_spelled n head =
      nat_lt n F.objects && (nat_le 8 (off f F n) && (nat_le head.body (length f) && (nat_le head.end F.table
      && (is_proper f head.kind head.count head.body && list_all (λ m. nat_lt m F.objects) (refs (content_at f F head))))))

  -- what object n spells, if it spells anything
  unfoldable pub spelled_at : ℕ → Option Content
  spelled_at n = option_and_then (λ head. if is_spelled n head then Some (content_at f F head) else None) (head_found f F n)

  -- the references of object n, or none if it spells nothing
  unfoldable pub refs_at : ℕ → List ℕ
  refs_at n = option_map_or refs (spelled_at n) []
