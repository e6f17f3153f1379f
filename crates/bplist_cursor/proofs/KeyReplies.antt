-- What a value replies to a query for its keys, by the head of the object that holds it.
use Rattle.std.proofs.Common.{Ok, ◌≡◌, ℕ, ◌+◌, List, [], ◌∷◌, refl, ap, ◌∙◌, arith}
use Rattle.std.specs.List.{AllZip}
use Rattle.bplist_objects.specs.declared.frame.Frame.{Frame}
use Rattle.bplist_objects.specs.declared.head.Head.{Head}
use Rattle.bplist_objects.specs.declared.head.Kind.{Kind}
use Rattle.bplist_objects.specs.declared.head.Kind.TheVariants as kinds
use Rattle.bplist_objects.specs.Value.{Value, leaf, array, set, dict, Pairs, no_pairs, pair, keys}
use Rattle.bplist_objects.specs.Heads.{Content, Spells, content_of, content_at}
use Rattle.bplist_objects.specs.Holds.{Holds, HoldPairs}
use Rattle.bplist_objects.proofs.References.{dict_parts}
use Rattle.bplist_cert.specs.Valid.{SpellsText}
use Rattle.bplist_cursor.specs.declared.replies.Reply.TheVariants as replies
use Rattle.bplist_cursor.specs.declared.replies.Query.{Query}
use Rattle.bplist_cursor.specs.declared.replies.Query.TheVariants as queries
use Rattle.bplist_cursor.specs.Asked.{keys_bytes, texts_bytes}
use Rattle.bplist_cursor.proofs.Counts.{pair_counts}
use Rattle.bplist_cursor.specs.Look.{look}
use Rattle.bplist_cursor.specs.Replies.{reply, told_of, keys_reply}
use Rattle.bplist_cursor.specs.Queries.{steps_in, reply_at}

module _ (f : List ℕ) (F : Frame) where
  -- the keys of a dictionary that holds a value are the value's
  pub key_units : (ps : Pairs) (ks ms : List ℕ) → HoldPairs f F ks ms ps → AllZip (SpellsText f F) ks (keys ps)
  key_units no_pairs [] [] h = tt
  key_units (pair u v ps) (k ∷ ks) (m ∷ ms) h = (h.0, key_units ps ks ms h.2)
  key_units ps ks ms h = absurd (let c = pair_counts f F ks ms ps h in omega (arith, c.0, c.1))

  pub record KeysTold (v : Value) (n : ℕ) (head : Head) : Type 0 where
    pub keys : List ℕ
    pub values : List ℕ
    pub spells : Spells f F n (Content.dict keys values)
    pub means : Content.dict keys values ≡ content_at f F head
    pub units : List (List ℕ)
    pub texts : AllZip (SpellsText f F) keys units
    pub told : keys_reply v ≡ replies.Keys units
    pub bytes : keys_bytes v ≡ 28 + texts_bytes units

  leaf_kind : (kind : Kind) (c at : ℕ) (content : Content) → content ≡ content_of f F kind c at → kind ≡ kinds.Dict → content ≡ content_of f F kinds.Dict c at
  leaf_kind kind c at content e k = e ∙ ap (λ k. content_of f F k c at) k

  pub keys_told : (v : Value) (n : ℕ) (head : Head) → Holds f F n v → ((content : Content) → Spells f F n content → content ≡ content_at f F head) → head.kind ≡ kinds.Dict → KeysTold v n head
  keys_told (leaf l) n head o e k = cc (leaf_kind head.kind head.count head.body _ (e _ o) k)
  keys_told (array vs) n head o e k = cc (leaf_kind head.kind head.count head.body _ (e _ o.1) k)
  keys_told (set vs) n head o e k = cc (leaf_kind head.kind head.count head.body _ (e _ o.1) k)
  keys_told (dict ps) n head o e k = record { keys = o.0; values = o.1; spells = o.2; means = e _ o.2; units = keys ps; texts = key_units ps o.0 o.1 o.3; told = refl; bytes = refl }

  pub no_keys : (v : Value) (n : ℕ) (head : Head) → Holds f F n v → ((content : Content) → Spells f F n content → content ≡ content_at f F head) → (head.kind ≡ kinds.Dict → ⊥) → keys_reply v ≡ replies.NoKeys
  no_keys (dict ps) n head o e other = absurd (other (dict_parts f F head.kind head.count head.body o.0 o.1 (e _ o.2)).0)
  no_keys _ n head o e other = refl

-- the reply of a value is that of what the query's path leads to
pub reply_found : (v w : Value) (query : Query) → look 0 v (steps_in query) ≡ Ok w → reply v query ≡ reply_at w query
reply_found v w (queries.Get steps) e = rw (e, reply, told_of) refl
reply_found v w _ e = rw (e, reply, told_of) refl
