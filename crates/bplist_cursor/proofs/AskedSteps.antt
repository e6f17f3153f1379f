-- How many bytes are asked for, from call to call.
use Rattle.std.proofs.Common.{arith, ◌≡◌, ◌+◌, ◌*◌, ◌<◌, ◌≤◌, ℕ, suc, List, length, slice_index_or, take, Result, Ok, Err, refl, sym, ap, subst, ◌∙◌, [], ◌∷◌}
use Rattle.std.specs.Prelude.{Option}
use Rattle.std.specs.List.{sum_by}
use Rattle.std.proofs.Math.Nat.{add-mul, mul-le-mul_right}
use Rattle.std.proofs.lemmas.List.Sums.{sum_by_more, sum_by_more_le}
use Rattle.bplist_objects.specs.declared.frame.Frame.{Frame}
use Rattle.bplist_objects.specs.declared.head.Head.{Head}
use Rattle.bplist_objects.specs.declared.head.Kind.{Kind}
use Rattle.bplist_objects.specs.declared.head.Kind.TheVariants as kinds
use Rattle.bplist_objects.specs.Value.{Value, leaf, array, set, dict, keys}
use Rattle.bplist_objects.specs.Heads as H
use Rattle.bplist_objects.specs.Heads.{Spells}
use Rattle.bplist_objects.specs.Holds.{Holds}
use Rattle.bplist_objects.specs.Announced.{item_size}
use Rattle.bplist_objects.specs.Safe.{IsSafeBody}
use Rattle.bplist_objects.proofs.References.{length-nums_at}
use Rattle.bplist_objects.proofs.Units.{length-part}
use Rattle.bplist_cert.specs.Lists.{Keyed}
use Rattle.bplist_cert.specs.CheckedFile.{CheckedFile, HonestlyChecked}
use Rattle.bplist_cursor.specs.Kept.{IsSameFile}
use Rattle.bplist_cursor.specs.Asked.{count_bytes, face_bytes, key_bytes, leaf_bytes, path_bytes, reply_bytes, told_bytes, tries}
use Rattle.bplist_cursor.specs.declared.replies.Query.{Query}
use Rattle.bplist_cursor.specs.Look.{look, stepped}
use Rattle.bplist_cursor.specs.Queries.{steps_in}
use Rattle.bplist_cursor.proofs.Counts.{by_keys, keys_counted}
use Rattle.bplist_cursor.specs.declared.node.Why.{Why}

-- a turn more, of as many bytes as each turn
pub a_turn_more : (start before after turns each : ℕ) → before ≤ start + turns * each → after ≤ before + each → after ≤ start + (turns + 1) * each
a_turn_more start before after turns each a b = omega (arith, a, b, add-mul turns 1 each)

-- no more turns than these
pub turns_within : (start after turns most each : ℕ) → after ≤ start + turns * each → turns ≤ most → after ≤ start + most * each
turns_within start after turns most each a few =
    let all : turns * each ≤ most * each = mul-le-mul_right each few in
    omega (arith, a, all)

-- a turn of those that are left
pub a_turn_less : (start before after left less all each : ℕ) → suc less ≤ left → before + left * each ≤ start + all * each → after ≤ before + each → after + less * each ≤ start + all * each
a_turn_less start before after left less all each fewer a b =
    let turn : suc less * each ≤ left * each = mul-le-mul_right each fewer in
    omega (arith, a, b, turn, add-mul 1 less each)

-- an item more, of as many bytes as each asks for
pub an_item_more : {X : Type 0} (bytes : X → ℕ) (xs : List X) (i start before after : ℕ) (d : X) → i < length xs
    → before ≤ start + sum_by bytes (take i xs) → after ≤ before + bytes (slice_index_or xs i d)
    → (after ≤ start + sum_by bytes (take (i + 1) xs)) × (after ≤ start + sum_by bytes xs)
an_item_more bytes xs i start before after d l a b =
    (omega (arith, a, b, sum_by_more bytes xs i d l), omega (arith, a, b, sum_by_more_le bytes xs i d l))

-- the bytes that finding a key with these units in a value asks for
abbrev pub value_bytes : Option Keyed → Value → List ℕ → ℕ
value_bytes lists v s = elim v [ dict ps ↦ tries lists (length (keys ps)) * (36 + 2 * length s) | _ ↦ 0 ]

-- what follows from a value, or from none
abbrev pub on_either : {T E R : Type 0} → Result T E → (T → R) → (E → R) → R
on_either r go stop = elim r [ Ok v ↦ go v | Err e ↦ stop e ]

-- the last step
pub last_bytes : (lists : Option Keyed) (v : Value) (s : List ℕ) → path_bytes lists v (s ∷ []) ≡ 36 + value_bytes lists v s
last_bytes lists v s = either (stepped v s)
  where
    either : (r : Result Value Why) → 36 + value_bytes lists v s + on_either r (λ w. 0) (λ why. 0) ≡ 36 + value_bytes lists v s
    either (Ok w) = omega arith
    either (Err y) = omega arith

-- a query whose path leads to a value
pub reply_to : (lists : Option Keyed) (v w : Value) (query : Query) → look 0 v (steps_in query) ≡ Ok w
    → reply_bytes lists v query ≡ path_bytes lists v (steps_in query) + told_bytes w query
reply_to lists v w query e = ap (λ r. path_bytes lists v (steps_in query) + on_either r (λ x. told_bytes x query) (λ missing. 0)) e

module _ (f : List ℕ) (F : Frame) (lists : Option Keyed) (s : List ℕ) where
  abbrev bytes : ℕ → ℕ
  bytes count = tries lists count * (36 + 2 * length s)

  -- they are the same for the value and for the head
  pub same_bytes : (v : Value) (n : ℕ) (head : Head) → Holds f F n v → ((content : H.Content) → Spells f F n content → content ≡ H.content_at f F head)
      → key_bytes lists head.kind head.count s ≡ value_bytes lists v s
  same_bytes v n head o e = of_kind head.kind head.count head.body ∙ keys_counted f F bytes v n head o e
    where
      of_kind : (kind : Kind) (c at : ℕ) → key_bytes lists kind c s ≡ by_keys bytes (H.content_of f F kind c at)
      of_kind kinds.Dict c at = ap bytes (sym (length-nums_at f at F.ref_size c))
      of_kind _ c at = refl

-- the bytes of a leaf that is spelled
abbrev pub spelled_bytes : H.Content → ℕ
spelled_bytes content = elim content [ H.Content.leaf l ↦ leaf_bytes l | _ ↦ 0 ]

module _ (f : List ℕ) (F : Frame) where
  by_kind : (kind : Kind) (count at : ℕ) → at + count * item_size 1 kind ≤ length f → spelled_bytes (H.content_of f F kind count at) ≡ count_bytes kind count
  by_kind kinds.Real count at h = length-part f at count (omega (arith, h))
  by_kind kinds.Date count at h = length-part f at count (omega (arith, h))
  by_kind kinds.Bytes count at h = length-part f at count (omega (arith, h))
  by_kind kinds.Ascii count at h = ap (λ n. 2 * n) (length-part f at count (omega (arith, h)))
  by_kind kinds.Wide count at h = ap (λ n. 2 * n) (length-nums_at f at 2 count)
  by_kind _ count at h = refl

  -- the face of a value asks for the same bytes by the head
  pub same_face : (v : Value) (n : ℕ) (head : Head) → Holds f F n v → ((content : H.Content) → Spells f F n content → content ≡ H.content_at f F head)
      → IsSafeBody (length f) head → 28 + count_bytes head.kind head.count ≡ face_bytes v
  same_face v n head o e safe = let body = safe.body in let within = safe.within in go v o (by_kind head.kind head.count head.body (omega (arith, body, within)))
    where
      go : (v : Value) → Holds f F n v → spelled_bytes (H.content_at f F head) ≡ count_bytes head.kind head.count → 28 + count_bytes head.kind head.count ≡ face_bytes v
      go (leaf l) o k = ap (λ m. 28 + m) (sym (ap spelled_bytes (e _ o) ∙ k))
      go (array vs) o k = ap (λ m. 28 + m) (sym (ap spelled_bytes (e _ o.1) ∙ k))
      go (set vs) o k = ap (λ m. 28 + m) (sym (ap spelled_bytes (e _ o.1) ∙ k))
      go (dict ps) o k = ap (λ m. 28 + m) (sym (ap spelled_bytes (e _ o.2) ∙ k))

-- what a step asks for, if the file before it is as it was at the start
pub asked_from : (old mid : CheckedFile) (n after : ℕ) (steps : List (List ℕ)) → IsSameFile old mid
    → HonestlyChecked mid (λ f F. (v : Value) → Holds f F n v → after ≤ mid.asked + path_bytes mid.certificate.keys v steps)
    → HonestlyChecked old (λ f F. (v : Value) → Holds f F n v → after ≤ mid.asked + path_bytes old.certificate.keys v steps)
asked_from old mid n after steps kept =
    subst (λ (file : CheckedFile). HonestlyChecked file (λ f F. (v : Value) → Holds f F n v → after ≤ mid.asked + path_bytes file.certificate.keys v steps)) kept
