-- How many references an object has, and how many keys.
use Rattle.std.proofs.Common.{◌≡◌, ℕ, suc, ◌<◌, ◌^◌, List, [], ◌∷◌, length, refl, sym, ap, ◌∙◌, arith}
use Rattle.bplist_objects.specs.declared.frame.Frame.{Frame}
use Rattle.bplist_objects.specs.Frame.{IsFrame}
use Rattle.bplist_objects.specs.declared.head.Head.{Head}
use Rattle.bplist_objects.specs.Value.{Value, leaf, array, set, dict, Pairs, no_pairs, pair, keys}
use Rattle.bplist_objects.specs.Heads.{Content, content_at, refs, Spells}
use Rattle.bplist_objects.specs.Holds.{Holds, HoldPairs}
use Rattle.bplist_objects.specs.Safe.{ref_count}
use Rattle.bplist_objects.proofs.Bounds.{frame_safe, shape_safe, refs_within}
use Rattle.bplist_objects.proofs.References.{length-refs}
use Rattle.bplist_objects.proofs.FrameTies.{numbered}

-- the count is below 2^64
pub few_refs : (f : List ℕ) (F : Frame) → IsFrame f F → (n : ℕ) (c : Content) → Spells f F n c → length (refs c) < 2 ^ 64
few_refs f F is n c sp =
    let large = (numbered is).large in
    let few = (refs_within (length f) F sp.shape (frame_safe f F is).safe (omega (arith, large)) (shape_safe f F n sp.shape sp.has)).0 in
    let same : length (refs c) ≡ ref_count sp.shape.kind sp.shape.count = ap (λ x. length (refs x)) sp.means ∙ length-refs f F sp.shape.kind sp.shape.count sp.shape.body in
    omega (arith, few, same)

-- as many keys as pairs, and as many values
pub pair_counts : (f : List ℕ) (F : Frame) (ks ms : List ℕ) (ps : Pairs) → HoldPairs f F ks ms ps → (length ks ≡ length (keys ps)) × (length ks ≡ length ms)
pair_counts f F [] [] no_pairs h = (refl, refl)
pair_counts f F (k ∷ ks) (m ∷ ms) (pair u v ps) h = let rest = pair_counts f F ks ms ps h.2 in (ap suc rest.0, ap suc rest.1)
pair_counts f F _ _ _ h = absurd h

-- what is counted by the keys of a dictionary, and is 0 of any other content
abbrev pub by_keys : (ℕ → ℕ) → Content → ℕ
by_keys g content = elim content [ Content.dict ks ms ↦ g (length ks) | _ ↦ 0 ]

-- it is the same by the head and by the value
pub keys_counted : (f : List ℕ) (F : Frame) (g : ℕ → ℕ) (v : Value) (n : ℕ) (head : Head) → Holds f F n v
    → ((content : Content) → Spells f F n content → content ≡ content_at f F head) → by_keys g (content_at f F head) ≡ elim v [ dict ps ↦ g (length (keys ps)) | _ ↦ 0 ]
keys_counted f F g (leaf l) n head h e = ap (by_keys g) (sym (e _ h))
keys_counted f F g (array vs) n head h e = ap (by_keys g) (sym (e _ h.1))
keys_counted f F g (set vs) n head h e = ap (by_keys g) (sym (e _ h.1))
keys_counted f F g (dict ps) n head h e = ap (by_keys g) (sym (e _ h.2)) ∙ ap g (pair_counts f F h.0 h.1 ps h.3).0
