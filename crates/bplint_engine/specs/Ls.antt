-- What `ls` says: the members of a value, one line each. Source: the path texts RFC 6901; the lines profile.
use Rattle.std.specs.Prelude.{◌≡◌, ◌∷◌, ◌++◌, ℕ, length, List, [], codes, Result, Ok, Err, ⊤}
use Rattle.std.specs.List.{enumerate_from, flat_map}
use Rattle.bplist_objects.specs.declared.frame.Frame.{Frame}
use Rattle.bplist_objects.specs.declared.head.Head.{Head}
use Rattle.bplist_objects.specs.Heads.{Content, Spells, content_at}
use Rattle.bplist_objects.specs.Holds.{Holds}
use Rattle.bplist_objects.specs.Value.{Value, leaf, array, set, dict, keys}
use Rattle.bplist_cert.specs.CheckedFile.{CheckedFile}
use Rattle.bplist_cert.specs.Valid.{IsVouchedBy}
use Rattle.bplist_cursor.specs.declared.node.Why.{Why}
use Rattle.bplist_cursor.specs.Look.{look}
use Rattle.bplist_cursor.specs.Members.{entries, members}
use Rattle.bplint_engine.specs.declared.members.Members.{Members}
use Rattle.bplint_engine.specs.declared.members.Members.TheVariants.{Array, Set, Dict}
use Rattle.bplint_lines.specs.MemberNames.{bracketed, index_name, key_name}
use Rattle.bplint_lines.specs.declared.texts.Style.{Style}
use Rattle.bplint_lines.specs.Answers.{Answer, gives}
use Rattle.bplint_engine.specs.Get.{found_line, said_of}

-- the value is a leaf
abbrev pub IsLeaf : Value → Type 0
IsLeaf (leaf l) = ⊤
IsLeaf _ = ⊥

-- the value is a container of this kind with n members, or n pairs
abbrev pub HasMembers : Members → ℕ → Value → Type 0
HasMembers Array n (array vs) = length (members vs) ≡ n
HasMembers Set n (set vs) = length (members vs) ≡ n
HasMembers Dict n (dict ps) = length (keys ps) ≡ n
HasMembers _ n w = ⊥

-- the value is a container with n members, or n pairs
abbrev pub HasCount : ℕ → Value → Type 0
HasCount n (leaf l) = ⊥
HasCount n (array vs) = length (members vs) ≡ n
HasCount n (set vs) = length (members vs) ≡ n
HasCount n (dict ps) = length (keys ps) ≡ n

-- some object vouched for by these heights holds the value and has this head
abbrev pub IsHeadIn : List ℕ → Frame → List ℕ → Head → Value → Type 0
IsHeadIn f F heights head w = (n : ℕ) × IsVouchedBy heights n × Holds f F n w × ((c : Content) → Spells f F n c → c ≡ content_at f F head)

-- the same in a checked file
abbrev pub IsHeadFor : CheckedFile → Head → Value → Type 0
IsHeadFor checked = IsHeadIn checked.source.octets checked.frame checked.certificate.heights

-- a value's line: name, tab, line of `get`
abbrev pub named_line : Style → List ℕ → Value → List ℕ
named_line style name w = name ++ codes "\t" ++ found_line style (Ok w)

-- the lines of the members of the value, or of the leaf, or of a path that leads nowhere
abbrev pub listed : Style → List ℕ → Result Value (ℕ × Why) → List ℕ
listed style path (Ok (leaf l)) = named_line style path (leaf l)
listed style path (Ok (array vs)) = flat_map (λ e. named_line style (index_name path e.0) e.1) (enumerate_from 0 (members vs))
listed style path (Ok (set vs)) = flat_map (λ e. named_line style (bracketed e.0) e.1) (enumerate_from 0 (members vs))
listed style path (Ok (dict ps)) = flat_map (λ e. named_line style (key_name style path e.0 e.1.0) e.1.1) (enumerate_from 0 (entries ps))
listed style path (Err missing) = found_line style (Err missing)

-- the answer is what `ls` says of what these steps, with this path text, lead to in the value
abbrev pub PathListed : Style → List ℕ → List (List ℕ) → Value → Answer → Type 0
PathListed style path steps v answer = answer ≡ gives (said_of (look 0 v steps ∷ [])) (listed style path (look 0 v steps))
