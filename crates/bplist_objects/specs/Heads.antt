-- What an object spells: the meaning of the body after its front. Source: the format comment of CFBinaryPList.c.
use Rattle.std.specs.Prelude.{◌≡◌, ℕ, ◌+◌, ◌*◌, ◌<◌, ◌≤◌, List, [], ◌++◌, All, true, false}
use Rattle.bplist_octets.specs.Octets.{part}
use Rattle.bplist_objects.specs.declared.frame.Frame.{Frame}
use Rattle.bplist_objects.specs.declared.head.Kind.{Kind}
use Rattle.bplist_objects.specs.declared.head.Kind.TheVariants as kinds
use Rattle.bplist_objects.specs.declared.head.Head.{Head}
use Rattle.bplist_objects.specs.Numbers.{integer, num_at, nums_at}
use Rattle.bplist_objects.specs.Frame.{off}
use Rattle.bplist_objects.specs.Announced.{HasHead}
use Rattle.bplist_objects.specs.Value.{Leaf, null, boolean, int, real, date, bytes, text, uid}

-- what an object spells: a leaf, or a container with the numbers of its references
pub data Content : Type 0 where
  leaf : Leaf → Content
  array : List ℕ → Content
  set : List ℕ → Content
  dict : (keys values : List ℕ) → Content

-- the references in file order; in a dictionary the keys come before the values
abbrev pub refs : Content → List ℕ
refs content = elim content [ leaf l ↦ [] | array ms ↦ ms | set ms ↦ ms | dict ks ms ↦ ks ++ ms ]

module _ (f : List ℕ) (F : Frame) where
  -- n is an object with this head, which lies between place 8 and the table: rules 14 to 17
  pub record HasShape (n : ℕ) (head : Head) : Type 0 where
    pub within : n < F.objects
    pub low : 8 ≤ off f F n
    pub has : HasHead f F n head
    pub inside : head.«end» ≤ F.table

  -- what a body of this kind and count at this place means
  abbrev pub content_of : Kind → ℕ → ℕ → Content
  content_of kinds.Null count body = leaf null
  content_of kinds.False count body = leaf (boolean false)
  content_of kinds.True count body = leaf (boolean true)
  content_of kinds.Int count body = leaf (int (integer (part f body count)))
  content_of kinds.Real count body = leaf (real (part f body count))
  content_of kinds.Date count body = leaf (date (part f body count))
  content_of kinds.Bytes count body = leaf (bytes (part f body count))
  content_of kinds.Ascii count body = leaf (text (part f body count))
  content_of kinds.Wide count body = leaf (text (nums_at f body 2 count))
  content_of kinds.Uid count body = leaf (uid (num_at f body count))
  content_of kinds.Array count body = array (nums_at f body F.ref_size count)
  content_of kinds.Set count body = set (nums_at f body F.ref_size count)
  content_of kinds.Dict count body =
      dict (nums_at f body F.ref_size count) (nums_at f (body + count * F.ref_size) F.ref_size count)

  -- what the body of this head means
  abbrev pub content_at : Head → Content
  content_at head = content_of head.kind head.count head.body

  -- object n's body means this content; Ascii is below 128, a UID at most 4294967295, references are objects
  pub record Spells (n : ℕ) (content : Content) : Type 0 where
    pub shape : Head
    pub has : HasShape n shape
    pub means : content ≡ content_at shape
    pub ascii : shape.kind ≡ kinds.Ascii → All (λ b. b < 128) (part f shape.body shape.count)
    pub uid : (x : ℕ) → content ≡ leaf (uid x) → x ≤ 4294967295
    pub refs : All (λ m. m < F.objects) (refs content)

  -- object n has this head and spells what its body means
  abbrev pub IsHeadOf : ℕ → Head → Type 0
  IsHeadOf n head = HasShape n head × Spells n (content_at head)
