-- What `lint --json` finds out about a file, and its exit status. Source: profile.
use Rattle.std.specs.Prelude.{◌≤◌, ℕ, List, map}
use Rattle.bplist_cert.specs.Sound.{IsSound}
use Rattle.bplist_lint.specs.FileFault.{IsFileFault, IsFileCircle}
use Rattle.bplist_lint.specs.Trail.{number}
use Rattle.bplint_lines.specs.FaultLines.{report_of}
use Rattle.bplint_engine.specs.declared.finding.Finding.{Finding}
use Rattle.bplint_engine.specs.declared.finding.Finding.TheVariants.{Sound, Broken, Circle, Unread}

-- the finding is right: the file is sound, or this is its first fault, or its circle, or it could not be read
abbrev pub IsFindingOf : List ℕ → Finding → Type 0
IsFindingOf f (Sound reached height top) = ∥ IsSound f ∥₁
IsFindingOf f (Broken fault way looks_like) = IsFileFault f fault
IsFindingOf f (Circle objects way) = IsFileCircle f (map number objects)
IsFindingOf f (Unread fault cause) = 3 ≤ (report_of fault).1

-- the exit status: 0 for a sound file, 1 for one that breaks a rule, otherwise that of the fault
abbrev pub status_of : Finding → ℕ
status_of (Sound reached height top) = 0
status_of (Broken fault way looks_like) = 1
status_of (Circle objects way) = 1
status_of (Unread fault cause) = (report_of fault).1
