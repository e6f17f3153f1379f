-- The definitions hold of small files.
use Rattle.std.proofs.Common.{◌≡◌, ℕ, zero, suc, ◌<◌, ◌≤◌, ◌+◌, List, [], ◌∷◌, slice_index, true, refl, sym, ap, ◌∙◌, arith, take, get_or-take, inl}
use Rattle.bplist_octets.specs.Octets.{num}
use Rattle.bplist_objects.specs.declared.frame.Frame.{Frame}
use Rattle.bplist_objects.specs.declared.head.Kind.TheVariants as kinds
use Rattle.bplist_objects.specs.Frame.{header, trailer, off, Keeps, IsFrame}
use Rattle.bplist_objects.specs.declared.rule.Rule.TheVariants.{Magic, RefNarrow, OffsetNarrow}
use Rattle.bplist_objects.specs.Value.{boolean, text, leaf, array, value, no_values, dict, pair, no_pairs}
use Rattle.bplist_objects.specs.Heads.{Content, Spells}
use Rattle.bplist_objects.specs.Reach.{Reach}
use Rattle.bplist_objects.specs.Extents.{HaveRoom, TakeAtMost}
use Rattle.bplist_objects.specs.File.{FileHolds}
use Rattle.bplist_objects.specs.SmallFiles.{small_file}
use Rattle.bplist_objects.proofs.Lists.{all_weaker}
use Rattle.bplist_objects.proofs.FrameTies.{Numbered, trailer_is_frame}
use Rattle.std.proofs.lemmas.List.Elements.{All-from_recursion}
use Rattle.bplist_objects.proofs.ExtentSums.{most_none, most_more, shape_extent}
use Rattle.bplist_objects.proofs.ReachedObjects.{reach_within}

-- true
abbrev row_true : List ℕ
row_true = small_file (9 ∷ []) (8 ∷ [])

-- an array of the same object true twice
abbrev row_array : List ℕ
row_array = small_file (162 ∷ 1 ∷ 1 ∷ 9 ∷ []) (8 ∷ 11 ∷ [])

-- a dictionary from `a` to true
abbrev row_dict : List ℕ
row_dict = small_file (209 ∷ 1 ∷ 2 ∷ 81 ∷ 97 ∷ 9 ∷ []) (8 ∷ 11 ∷ 13 ∷ [])

-- a file that begins with the header has the frame of its numbers
small_frame : (f : List ℕ) → take 8 f ≡ header → Numbered f (trailer f) → Keeps f RefNarrow → Keeps f OffsetNarrow → IsFrame f (trailer f)
small_frame f begins n ref offset =
    let magic : Keeps f Magic = λ i l. sym (get_or-take 8 f i 0 l) ∙ ap (λ x. slice_index x i) begins in
    trailer_is_frame f (n.large, (n.short, (magic, (n.objects, (n.top, (n.table_early, (n.table_late, (n.offset_size, (n.ref_size, (n.whole, (ref, (offset, (n.offsets, tt)))))))))))))

-- the bytes that all objects take bound those that the reachable objects take
reached_room : (f : List ℕ) (F : Frame) (t : ℕ) → F.top.0 < F.objects → TakeAtMost f F (λ m. Reach f F m × (m < F.objects)) t → t + 8 ≤ F.table → HaveRoom f F (Reach f F)
reached_room f F t top most room ns r d a taken =
    let b = most ns r d (all_weaker (Reach f F) _ (λ m e. (e, reach_within f F top m e)) ns a) taken in
    omega (arith, b, room)

-- ---- true
true_offsets : (n : ℕ) → n < 1 → off row_true (trailer row_true) n < 9
unfolding num
true_offsets zero h = omega arith
true_offsets (suc n) h = absurd (omega arith)

frame_true : IsFrame row_true (trailer row_true)
unfolding num
frame_true =
    small_frame row_true refl (record {
      large = omega arith;
      short = omega arith;
      objects = omega arith;
      top = omega arith;
      table_early = omega arith;
      table_late = omega arith;
      offset_size = omega arith;
      ref_size = omega arith;
      whole = refl;
      offsets = true_offsets;
    }) (λ _. omega arith) (λ _. omega arith)

true_0 : Spells row_true (trailer row_true) 0 (Content.leaf (boolean true))
unfolding num
true_0 = record {
  shape = record { kind = kinds.True; count = 0; body = 9; «end» = 9 };
  has = record { within = omega arith; low = omega arith; has = record { front = 9 ∷ []; announces = (refl, refl); stands = refl; body = refl; ends = refl }; inside = omega arith };
  ascii = λ e. cc e;
  uid = λ x e. cc e;
  refs = All-from_recursion (λ m. m < 1) [] tt;
  means = refl;
}

true_most : TakeAtMost row_true (trailer row_true) (λ m. Reach row_true (trailer row_true) m × (m < 1)) 1
unfolding num true_0
true_most =
    let f = row_true in
    let F = trailer f in
    let R = Reach f F in
    most_more f F R 0 1 0 (shape_extent f F 0 true_0.shape true_0.has)
    (most_none f F R)

-- the file holds its value
pub file_true : FileHolds row_true (leaf (boolean true))
unfolding num
file_true = record {
  frame = trailer row_true;
  is = frame_true;
  holds = true_0;
  room = reached_room row_true (trailer row_true) 1 (omega arith) true_most (omega arith);
}

-- ---- an array that has one object twice
array_offsets : (n : ℕ) → n < 2 → off row_array (trailer row_array) n < 12
unfolding num
array_offsets zero h = omega arith
array_offsets (suc zero) h = omega arith
array_offsets (suc (suc n)) h = absurd (omega arith)

frame_array : IsFrame row_array (trailer row_array)
unfolding num
frame_array =
    small_frame row_array refl (record {
      large = omega arith;
      short = omega arith;
      objects = omega arith;
      top = omega arith;
      table_early = omega arith;
      table_late = omega arith;
      offset_size = omega arith;
      ref_size = omega arith;
      whole = refl;
      offsets = array_offsets;
    }) (λ _. omega arith) (λ _. omega arith)

array_0 : Spells row_array (trailer row_array) 0 (Content.array (1 ∷ 1 ∷ []))
unfolding num
array_0 = record {
  shape = record { kind = kinds.Array; count = 2; body = 9; «end» = 11 };
  has = record { within = omega arith; low = omega arith; has = record { front = 162 ∷ []; announces = inl (omega arith, refl); stands = refl; body = refl; ends = refl }; inside = omega arith };
  ascii = λ e. cc e;
  uid = λ x e. cc e;
  refs = All-from_recursion (λ m. m < 2) (1 ∷ 1 ∷ []) (omega arith, (omega arith, tt));
  means = refl;
}

array_1 : Spells row_array (trailer row_array) 1 (Content.leaf (boolean true))
unfolding num
array_1 = record {
  shape = record { kind = kinds.True; count = 0; body = 12; «end» = 12 };
  has = record { within = omega arith; low = omega arith; has = record { front = 9 ∷ []; announces = (refl, refl); stands = refl; body = refl; ends = refl }; inside = omega arith };
  ascii = λ e. cc e;
  uid = λ x e. cc e;
  refs = All-from_recursion (λ m. m < 2) [] tt;
  means = refl;
}

array_most : TakeAtMost row_array (trailer row_array) (λ m. Reach row_array (trailer row_array) m × (m < 2)) 4
unfolding num array_0 array_1
array_most =
    let f = row_array in
    let F = trailer f in
    let R = Reach f F in
    most_more f F R 1 1 3 (shape_extent f F 1 array_1.shape array_1.has)
    (most_more f F R 0 3 0 (shape_extent f F 0 array_0.shape array_0.has)
    (most_none f F R))

-- the file holds its value
pub file_array : FileHolds row_array (array (value (leaf (boolean true)) (value (leaf (boolean true)) no_values)))
unfolding num
file_array = record {
  frame = trailer row_array;
  is = frame_array;
  holds = (1 ∷ 1 ∷ [], array_0, (array_1, (array_1, tt)));
  room = reached_room row_array (trailer row_array) 4 (omega arith) array_most (omega arith);
}

-- ---- a dictionary
dict_offsets : (n : ℕ) → n < 3 → off row_dict (trailer row_dict) n < 14
unfolding num
dict_offsets zero h = omega arith
dict_offsets (suc zero) h = omega arith
dict_offsets (suc (suc zero)) h = omega arith
dict_offsets (suc (suc (suc n))) h = absurd (omega arith)

frame_dict : IsFrame row_dict (trailer row_dict)
unfolding num
frame_dict =
    small_frame row_dict refl (record {
      large = omega arith;
      short = omega arith;
      objects = omega arith;
      top = omega arith;
      table_early = omega arith;
      table_late = omega arith;
      offset_size = omega arith;
      ref_size = omega arith;
      whole = refl;
      offsets = dict_offsets;
    }) (λ _. omega arith) (λ _. omega arith)

dict_0 : Spells row_dict (trailer row_dict) 0 (Content.dict (1 ∷ []) (2 ∷ []))
unfolding num
dict_0 = record {
  shape = record { kind = kinds.Dict; count = 1; body = 9; «end» = 11 };
  has = record { within = omega arith; low = omega arith; has = record { front = 209 ∷ []; announces = inl (omega arith, refl); stands = refl; body = refl; ends = refl }; inside = omega arith };
  ascii = λ e. cc e;
  uid = λ x e. cc e;
  refs = All-from_recursion (λ m. m < 3) (1 ∷ 2 ∷ []) (omega arith, (omega arith, tt));
  means = refl;
}

dict_1 : Spells row_dict (trailer row_dict) 1 (Content.leaf (text (97 ∷ [])))
unfolding num
dict_1 = record {
  shape = record { kind = kinds.Ascii; count = 1; body = 12; «end» = 13 };
  has = record { within = omega arith; low = omega arith; has = record { front = 81 ∷ []; announces = inl (omega arith, refl); stands = refl; body = refl; ends = refl }; inside = omega arith };
  ascii = λ e. All-from_recursion (λ b. b < 128) (97 ∷ []) (omega arith, tt);
  uid = λ x e. cc e;
  refs = All-from_recursion (λ m. m < 3) [] tt;
  means = refl;
}

dict_2 : Spells row_dict (trailer row_dict) 2 (Content.leaf (boolean true))
unfolding num
dict_2 = record {
  shape = record { kind = kinds.True; count = 0; body = 14; «end» = 14 };
  has = record { within = omega arith; low = omega arith; has = record { front = 9 ∷ []; announces = (refl, refl); stands = refl; body = refl; ends = refl }; inside = omega arith };
  ascii = λ e. cc e;
  uid = λ x e. cc e;
  refs = All-from_recursion (λ m. m < 3) [] tt;
  means = refl;
}

dict_most : TakeAtMost row_dict (trailer row_dict) (λ m. Reach row_dict (trailer row_dict) m × (m < 3)) 6
unfolding num dict_0 dict_1 dict_2
dict_most =
    let f = row_dict in
    let F = trailer f in
    let R = Reach f F in
    most_more f F R 2 1 5 (shape_extent f F 2 dict_2.shape dict_2.has)
    (most_more f F R 1 2 3 (shape_extent f F 1 dict_1.shape dict_1.has)
    (most_more f F R 0 3 0 (shape_extent f F 0 dict_0.shape dict_0.has)
    (most_none f F R)))

-- the file holds its value
pub file_dict : FileHolds row_dict (dict (pair (97 ∷ []) (leaf (boolean true)) no_pairs))
unfolding num
file_dict = record {
  frame = trailer row_dict;
  is = frame_dict;
  holds = (1 ∷ [], 2 ∷ [], dict_0, (dict_1, dict_2, tt), λ i j d h l. absurd (omega arith));
  room = reached_room row_dict (trailer row_dict) 6 (omega arith) dict_most (omega arith);
}
