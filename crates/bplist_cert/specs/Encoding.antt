-- The bytes of a certificate. Source: profile.
use Rattle.std.specs.Prelude.{◌≡◌, ◌≢◌, ◌⊎◌, ℕ, ◌+◌, ◌*◌, ◌%◌, ◌≤◌, Bool, true, false, List, [], ◌++◌, length, take, codes, Option, None, is_some, ⊤}
use Rattle.std.specs.List.{flat_map}
use Rattle.std.specs.Int.{bytes_high_first}
use Rattle.std.specs.Option.{option_map_or}
use Rattle.bplist_octets.specs.Octets.{part, num}
use Rattle.bplist_objects.specs.declared.fault.Fault.{Fault}
use Rattle.bplist_objects.specs.declared.rule.Rule.TheVariants as rules
use Rattle.bplist_cert.specs.declared.certificate.CertRefusal.{CertRefusal}
use Rattle.bplist_cert.specs.declared.certificate.CertRefusal.TheVariants as refusals
use Rattle.bplist_cert.specs.Lists.{Keyed, Lists}

-- the magic of a certificate, with or without key lists
abbrev pub magic : Bool → List ℕ
magic keyed = elim keyed [ false ↦ codes "bplcert1" | true ↦ codes "bplcert2" ]

-- numbers as 4 bytes each
abbrev pub words : List ℕ → List ℕ
words xs = flat_map (bytes_high_first 4) xs

-- the bytes of the key lists, if there are some: starts and positions
abbrev pub key_words : Option Keyed → List ℕ
key_words keys = option_map_or (λ (keyed : Keyed). words keyed.starts ++ words keyed.positions) keys []

-- the bytes of a certificate: magic, number of heights, heights, and in version 2 starts and positions
abbrev pub octets_of : Lists → List ℕ
octets_of lists =
    magic (is_some lists.keys) ++ (bytes_high_first 8 (length lists.heights) ++ (words lists.heights ++ key_words lists.keys))

-- a certificate with `count` heights, with or without key lists, can take `len` bytes
abbrev pub Fits : Bool → ℕ → ℕ → Type 0
Fits false count len = len ≡ 16 + 4 * count
Fits true count len = (16 + 8 * count ≤ len) × (len % 4 ≡ 0)

-- the first broken rule of 24 and 25: no magic, at place 0; or a number of bytes that does not fit the number of
-- heights after the magic, at that number as the place
abbrev pub IsOctetsFault : List ℕ → Fault → Type 0
IsOctetsFault octets fault =
    (((keyed : Bool) → take 8 octets ≢ magic keyed) × (fault ≡ record { rule = rules.CertMagic; object = None; place = 0 }))
    ⊎ ((keyed : Bool) × (take 8 octets ≡ magic keyed) × (Fits keyed (num (part octets 8 8)) (length octets) → ⊥)
    × (fault ≡ record { rule = rules.CertLength; object = None; place = length octets }))

-- the bytes are refused because of the first broken rule of 24 and 25, or because memory was refused
abbrev pub IsCertRefusal : List ℕ → CertRefusal → Type 0
IsCertRefusal octets refusal = elim refusal [ refusals.Fault fault ↦ IsOctetsFault octets fault | refusals.Memory ↦ ⊤ ]
