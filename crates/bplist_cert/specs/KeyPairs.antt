-- Key lists by the markers and counts of the keys: pairs of texts in order. Source: profile.
use Rattle.std.specs.Prelude.{◌≡◌, ℕ, ◌+◌, ◌*◌, ◌<◌, ◌≤◌, List, length, slice_index, Option, Some, None, IfSome}
use Rattle.std.specs.declared.cmp.Ordering.TheVariants.{Less}
use Rattle.bplist_octets.specs.Meaning.{Meaning}
use Rattle.bplist_objects.specs.declared.frame.Frame.{Frame}
use Rattle.bplist_objects.specs.Framed.{frame_in}
use Rattle.bplist_objects.specs.declared.head.Head.{Head}
use Rattle.bplist_objects.specs.Heads.{HasShape}
use Rattle.bplist_objects.specs.Units.{IsTextKind, compare_units}
use Rattle.bplist_keys.specs.Runs.{AreRuns}
use Rattle.bplist_cert.specs.declared.key_order.ReadKey.{ReadKey}
use Rattle.bplist_cert.specs.declared.key_order.TextKey.{TextKey}
use Rattle.bplist_cert.specs.declared.caches.OrderedPairsCache.{OrderedPairsCache}
use Rattle.bplist_keys.specs.Texts.{HasTextShape, text_units}
use Rattle.bplist_keys.specs.LongRanks.{AreRanked}
use Rattle.bplist_objects.specs.Safe.{IsSafeText}
use Rattle.bplist_objects.specs.Scan.{ref}

-- the key is an object of the file; its head, if it was read, is that of a text inside the file
abbrev pub IsSafeKey : Meaning → ReadKey → Type 0
IsSafeKey m key = (key.object < (frame_in m).objects) × IfSome key.head (IsSafeText (length m.octets))

module _ (f : List ℕ) (F : Frame) where
  -- the head of the key, if it was read, is that of its text
  abbrev pub IsReadKey : ReadKey → Type 0
  IsReadKey key = IfSome key.head (λ head. HasShape f F key.object head × IsTextKind head.kind)

  -- the head of the key is that of its text
  abbrev pub IsTextKey : TextKey → Type 0
  IsTextKey key = HasShape f F key.object key.head × IsTextKind key.head.kind

  -- objects a and b are texts by marker and count, and the units of a come before those of b
  abbrev pub Ascends : ℕ → ℕ → Type 0
  Ascends a b = HasTextShape f F a × HasTextShape f F b × (compare_units (text_units f F a) (text_units f F b) ≡ Less)

  -- each of these numbers that is not 0 stores two such objects
  abbrev pub ArePairs : List ℕ → Type 0
  ArePairs slots =
      (i a b : ℕ) → b < 4294967296 → 0 < slice_index slots i → slice_index slots i ≡ a * 4294967296 + b → Ascends a b

  -- the stored pairs are in order, the runs are those of the file, and the long keys are in the order of their ranks
  abbrev pub AreKnown : OrderedPairsCache → Type 0
  AreKnown pairs = ArePairs pairs.slots × AreRuns f pairs.runs.slots × AreRanked f F pairs.long

  -- key m is a text by marker and count, and comes after the one before it, if there is one
  abbrev pub Follows : Option ReadKey → ℕ → Type 0
  Follows None m = HasTextShape f F m
  Follows (Some last) m = Ascends last.object m

  -- the keys of a dictionary with this head are texts by marker and count
  abbrev pub HaveTextShapes : Head → Type 0
  HaveTextShapes head = (k : ℕ) → k < head.count → HasTextShape f F (ref f F head k)

  -- if the dictionary has at most 32 keys, these numbers begin with the references to them
  abbrev pub AreFewKeys : Head → List ℕ → Type 0
  AreFewKeys head numbers = head.count ≤ 32 → (k : ℕ) → k < head.count → slice_index numbers k ≡ ref f F head k
