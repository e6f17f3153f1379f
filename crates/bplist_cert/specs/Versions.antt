-- The two versions of a certificate's bytes, and its header. Source: profile.
use Rattle.std.specs.Prelude.{ℕ, List, ◌++◌, Bool, true, false}
use Rattle.std.specs.Int.{bytes_high_first}
use Rattle.bplist_cert.specs.Encoding.{magic}
use Rattle.bplist_cert.specs.declared.decoding.Header.{Header}
use Rattle.bplist_cert.specs.declared.decoding.Version.{Version}
use Rattle.bplist_cert.specs.declared.decoding.Version.TheVariants.{Plain, Keyed}

-- the version has key lists
abbrev pub is_keyed : Version → Bool
is_keyed Plain = false
is_keyed Keyed = true

-- the first 16 bytes of a certificate: the magic of its version and the number of heights
abbrev pub header_octets : Header → List ℕ
header_octets header = magic (is_keyed header.version) ++ bytes_high_first 8 header.count
