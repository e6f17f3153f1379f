-- The members of containers.
use Rattle.std.proofs.Common.{◌≡◌, ◌<◌, ◌+◌, ◌-◌, ◌*◌, ℕ, zero, suc, List, length, slice_get, Option, Some, arith, refl, subst, sym}
use Rattle.bplist_objects.specs.Value.{Value, leaf, text, Values, no_values, value, Pairs, no_pairs, pair, keys}
use Rattle.bplist_objects.specs.declared.head.Head.{Head}
use Rattle.bplist_objects.specs.Heads.{Content, Spells, content_at}
use Rattle.bplist_cert.specs.CheckedFile.{CheckedFile}
use Rattle.bplist_cert.specs.Valid.{IsVouchedBy}
use Rattle.bplist_cursor.specs.declared.node.Node.{Node}
use Rattle.bplist_cursor.specs.Members.{HoldsMember, member_of, member_reference, members, named}
use Rattle.bplist_cursor.proofs.Membership.{held_members, in_turn}
use Rattle.bplint_engine.specs.Ls.{IsHeadFor}

-- an array or a set has a member at each index
pub item_there : (vs : Values) (n i : ℕ) → length (members vs) ≡ n → i < n → (m : Value) × (slice_get (members vs) i ≡ Some m)
item_there no_values n i e l = absurd (omega (arith, e, l))
item_there (value v vs) n zero e l = (v, refl)
item_there (value v vs) n (suc i) e l = item_there vs (n - 1) i (omega (arith, e)) (omega (arith, e, l))

-- a dictionary has a key at each index
pub key_there : (ps : Pairs) (n j k : ℕ) → length (keys ps) ≡ n → j < n → k ≡ 2 * j → (u : List ℕ) × (slice_get (in_turn ps) k ≡ Some (leaf (text u)))
key_there no_pairs n j k e l is = absurd (omega (arith, e, l))
key_there (pair u v ps) n zero zero e l is = (u, refl)
key_there (pair u v ps) n zero (suc k) e l is = absurd (omega (arith, is))
key_there (pair u v ps) n (suc j) zero e l is = absurd (omega (arith, is))
key_there (pair u v ps) n (suc j) (suc zero) e l is = absurd (omega (arith, is))
key_there (pair u v ps) n (suc j) (suc (suc k)) e l is =
    key_there ps (n - 1) j k (omega (arith, e)) (omega (arith, e, l)) (omega (arith, is))

-- a dictionary has a value at each index
pub value_there : (ps : Pairs) (n j k : ℕ) → length (keys ps) ≡ n → j < n → k ≡ 2 * j + 1 → (m : Value) × (slice_get (in_turn ps) k ≡ Some m)
value_there no_pairs n j k e l is = absurd (omega (arith, e, l))
value_there (pair u v ps) n j zero e l is = absurd (omega (arith, is))
value_there (pair u v ps) n zero (suc zero) e l is = (v, refl)
value_there (pair u v ps) n (suc j) (suc zero) e l is = absurd (omega (arith, is))
value_there (pair u v ps) n zero (suc (suc k)) e l is = absurd (omega (arith, is))
value_there (pair u v ps) n (suc j) (suc (suc k)) e l is =
    value_there ps (n - 1) j k (omega (arith, e)) (omega (arith, e, l)) (omega (arith, is))

-- if member_by_head finds a member, it holds member i of the value
pub found_member : (checked : CheckedFile) (head : Head) (w : Value) (i : ℕ) (found : Option Node) → IsHeadFor checked head w
    → ((n : ℕ) → IsVouchedBy checked.certificate.heights n → (content : Content) → Spells checked.source.octets checked.frame n content
    → content ≡ content_at checked.source.octets checked.frame head → found ≡ named (member_reference content i))
    → HoldsMember checked.source.octets checked.frame (member_of w i) found
found_member checked head w i found of is =
    let held = held_members checked.source.octets checked.frame w of.0 of.2 in
    let named_so = is of.0 of.1 held.0 held.1 (of.3 held.0 held.1) in
    subst (HoldsMember checked.source.octets checked.frame (member_of w i)) (sym named_so) (held.2 i)
