-- A file with the bytes of a certificate. Source: profile.
use Rattle.std.specs.Prelude.{◌≡◌, ◌⊎◌, ℕ, List}
use Rattle.bplist_objects.specs.declared.fault.Fault.{Fault}
use Rattle.bplist_objects.specs.declared.frame.Frame.{Frame}
use Rattle.bplist_cert.specs.Lists.{Lists, IsCertificate}
use Rattle.bplist_cert.specs.Encoding.{octets_of, IsOctetsFault}
use Rattle.bplist_cert.specs.Sorted.{IsAccepted}
use Rattle.bplist_cert.specs.PairFault.{IsPairFault}

-- these bytes are a certificate of the file with this frame
abbrev pub IsVouchedFor : List ℕ → List ℕ → Frame → Lists → Type 0
IsVouchedFor f cert F lists = IsCertificate lists × (cert ≡ octets_of lists) × ∥ IsAccepted f F lists ∥₁

-- the first fault of certificate bytes and file: rules 24 and 25, then the faults of the pair
abbrev pub IsVouchingFault : List ℕ → List ℕ → Fault → Type 0
IsVouchingFault f cert fault =
    IsOctetsFault cert fault ⊎ ((lists : Lists) × IsCertificate lists × (cert ≡ octets_of lists) × IsPairFault f lists fault)
