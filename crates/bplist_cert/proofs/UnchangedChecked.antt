-- A call that only reads a checked file keeps frame and certificate.
use Rattle.std.proofs.Common.{◌≡◌, ℕ, List, [], ◌∷◌, ◌++◌, slice_index, slice_index_or, drop, Option, Some, None, refl, ap, ap₂, arith}
use Rattle.std.specs.Option.{option_map_or}
use Rattle.bplist_octets.specs.declared.source.ReadFault.{ReadFault}
use Rattle.bplist_octets.specs.Meaning.{Meaning, OnlyReads}
use Rattle.bplist_objects.specs.declared.frame.Frame.{Frame}
use Rattle.bplist_objects.specs.Framed.{with_frame}
use Rattle.bplist_cert.specs.Lists.{Keyed}
use Rattle.bplist_cert.specs.CheckedFile.{CheckedFile, meaning_of}

frame_same : (a b : Frame) (m : Meaning) → slice_index_or (with_frame a m).extra 0 [] ≡ slice_index_or (with_frame b m).extra 0 [] → a ≡ b
frame_same a b m e =
    let s = ap (λ xs. slice_index xs 0) e in
    let r = ap (λ xs. slice_index xs 1) e in
    let n = ap (λ xs. slice_index xs 2) e in
    let t = ap (λ xs. slice_index xs 3) e in
    let o = ap (λ xs. slice_index xs 4) e in
    λ i. record { offset_size = s i; ref_size = r i; objects = n i; top = record { 0 = t i }; table = o i }

-- key lists as lists of numbers, after the version as a list of one
abbrev key_numbers : Option Keyed → List (List ℕ)
key_numbers keys = option_map_or (λ (keyed : Keyed). (2 ∷ []) ∷ keyed.starts ∷ keyed.positions ∷ []) keys ((1 ∷ []) ∷ [])

keys_same : (j k : Option Keyed) (xs ys : List (List ℕ)) → key_numbers j ++ xs ≡ key_numbers k ++ ys → (j ≡ k) × (xs ≡ ys)
keys_same None None xs ys e = (refl, ap (λ zs. drop 1 zs) e)
keys_same (Some j) (Some k) xs ys e = (
  ap₂ (λ x y. Some (record { starts = x; positions = y })) (ap (λ zs. slice_index_or zs 1 []) e) (ap (λ zs. slice_index_or zs 2 []) e),
  ap (λ zs. drop 3 zs) e,
)
keys_same _ _ xs ys e = absurd (omega (arith, ap (λ zs. slice_index (slice_index_or zs 0 []) 0) e))

extra_same : (old new : CheckedFile) → (meaning_of new).extra ≡ (meaning_of old).extra → (new.source.extra ≡ old.source.extra) × (new.frame ≡ old.frame) × (new.certificate ≡ old.certificate)
extra_same old new e =
    let frame = frame_same new.frame old.frame old.source (ap (λ xs. slice_index_or xs 0 []) e) in
    let heights : new.certificate.heights ≡ old.certificate.heights = ap (λ xs. slice_index_or xs 1 []) e in
    let rest = keys_same new.certificate.keys old.certificate.keys new.source.extra old.source.extra (ap (λ xs. drop 2 xs) e) in
    let keys = rest.0 in
    (rest.1, frame, λ i. record { heights = heights i; keys = keys i })

pub stays : (failed : Option ReadFault) (old new : CheckedFile) → OnlyReads failed (meaning_of old) (meaning_of new)
    → OnlyReads failed old.source new.source × (new.frame ≡ old.frame) × (new.certificate ≡ old.certificate)
stays None old new e =
    let b = extra_same old new (ap (λ (m : Meaning). m.extra) e) in
    let octets : new.source.octets ≡ old.source.octets = ap (λ (m : Meaning). m.octets) e in
    let honest : new.source.honest ≡ old.source.honest = ap (λ (m : Meaning). m.honest) e in
    let failures : new.source.failures ≡ old.source.failures = ap (λ (m : Meaning). m.failures) e in
    let last : new.source.last ≡ old.source.last = ap (λ (m : Meaning). m.last) e in
    let extra = b.0 in
    (λ i. record { octets = octets i; honest = honest i; failures = failures i; last = last i; extra = extra i }, b.1, b.2)
stays (Some fault) old new e =
    let b = extra_same old new e.same.2 in
    (record { same = (e.same.0, e.same.1, b.0); rises = e.rises; stays_only_at_last = e.stays_only_at_last; last = e.last }, b.1, b.2)
