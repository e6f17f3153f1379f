-- What an object shows, by its head and by the value that it holds.
use Rattle.std.proofs.Common.{◌≡◌, ◌≤◌, ◌+◌, ◌*◌, ℕ, List, [], ◌∷◌, ◌++◌, length, take, refl, sym, ap, ◌∙◌, arith}
use Rattle.std.proofs.lemmas.List.{take_all}
use lib.Seq.{take-append-le}
use Rattle.bplist_octets.specs.Octets.{part}
use Rattle.bplist_objects.specs.declared.frame.Frame.{Frame}
use Rattle.bplist_objects.specs.declared.head.Head.{Head}
use Rattle.bplist_objects.specs.declared.head.Kind.{Kind}
use Rattle.bplist_objects.specs.declared.head.Kind.TheVariants as kinds
use Rattle.bplist_objects.specs.Value.{Value, leaf, array, set, dict, Values, no_values, value}
use Rattle.bplist_objects.specs.Announced.{item_size}
use Rattle.bplist_objects.specs.Heads.{Content, Spells, content_at, content_of}
use Rattle.bplist_objects.specs.Holds.{Holds, HoldEach}
use Rattle.bplist_objects.specs.Units.{IsTextKind, units_of}
use Rattle.bplist_objects.proofs.Units.{length-units_at}
use Rattle.bplist_objects.proofs.References.{length-nums_at}
use Rattle.bplist_cursor.specs.declared.replies.Face.TheVariants as faces
use Rattle.bplist_cursor.specs.Replies.{face}
use Rattle.bplist_cursor.specs.Members.{members}
use Rattle.bplist_cursor.specs.Shown.{content_face}
use Rattle.bplist_cursor.proofs.Counts.{pair_counts}

-- all units of a text are its units
pub all_units : (f : List ℕ) (head : Head) (n : ℕ) → IsTextKind head.kind → head.body + head.count * item_size 1 head.kind ≤ length f → n ≡ head.count
    → part (units_of f head) 0 n ≡ units_of f head
all_units f head n t h e = take_all n (units_of f head) (let l = length-units_at f head.kind head.count head.body t h in omega (arith, l, e))

-- the front that was written is what was written
pub take_front : (len : ℕ) (xs ys : List ℕ) → length xs ≡ len → take len (xs ++ ys) ≡ xs
take_front len xs ys e = take-append-le len xs ys (omega (arith, e)) ∙ take_all len xs (omega (arith, e))

module _ (f : List ℕ) (F : Frame) where
  -- the face by kind, count and place of the body
  face_by_kind : (head : Head) (kind : Kind) → head.kind ≡ kind → content_face (content_of f F kind head.count head.body) ≡ content_face (content_at f F head)
  face_by_kind head kind e = ap (λ k. content_face (content_of f F k head.count head.body)) (sym e)

  -- a container counts its references
  pub array_face : (head : Head) → head.kind ≡ kinds.Array → faces.Array head.count ≡ content_face (content_at f F head)
  array_face head e = ap faces.Array (sym (length-nums_at f head.body F.ref_size head.count)) ∙ face_by_kind head kinds.Array e

  pub set_face : (head : Head) → head.kind ≡ kinds.Set → faces.Set head.count ≡ content_face (content_at f F head)
  set_face head e = ap faces.Set (sym (length-nums_at f head.body F.ref_size head.count)) ∙ face_by_kind head kinds.Set e

  pub dict_face : (head : Head) → head.kind ≡ kinds.Dict → faces.Dict head.count ≡ content_face (content_at f F head)
  dict_face head e = ap faces.Dict (sym (length-nums_at f head.body F.ref_size head.count)) ∙ face_by_kind head kinds.Dict e

  count_each : (ms : List ℕ) (vs : Values) → HoldEach f F ms vs → length ms ≡ length (members vs)
  count_each [] no_values h = refl
  count_each (m ∷ ms) (value v vs) h = let e = count_each ms vs h.1 in omega (arith, e)
  count_each _ _ h = absurd h

  -- what an object that holds a value spells has the face of the value
  pub held_face : (v : Value) (n : ℕ) → Holds f F n v → (c : Content) × Spells f F n c × (content_face c ≡ face v)
  held_face (leaf l) n h = (Content.leaf l, h, refl)
  held_face (array vs) n h = let e = count_each h.0 vs h.2 in (Content.array h.0, h.1, ap faces.Array e)
  held_face (set vs) n h = let e = count_each h.0 vs h.2 in (Content.set h.0, h.1, ap faces.Set e)
  held_face (dict ps) n h = let e = (pair_counts f F h.0 h.1 ps h.3).0 in (Content.dict h.0 h.1, h.2, ap faces.Dict e)
