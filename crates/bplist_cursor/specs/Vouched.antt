-- What the certificate of a checked file vouches for, and what holds of it. Source: profile.
use Rattle.std.specs.Prelude.{ℕ, List}
use Rattle.bplist_objects.specs.declared.frame.Frame.{Frame}
use Rattle.bplist_cert.specs.CheckedFile.{CheckedFile, HonestlyChecked}
use Rattle.bplist_cert.specs.Valid.{IsVouchedBy}

-- the certificate vouches for object n
abbrev pub VouchesFor : CheckedFile → ℕ → Type 0
VouchesFor checked n = IsVouchedBy checked.certificate.heights n

-- P holds of the bytes, the frame and object n, if the source is honest and the certificate vouches for n
abbrev pub HonestlyAt : CheckedFile → ℕ → (List ℕ → Frame → ℕ → Type 0) → Type 0
HonestlyAt checked n P = HonestlyChecked checked (λ f F. VouchesFor checked n → P f F n)
