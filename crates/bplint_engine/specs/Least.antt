-- The certificate of the least heights, with which `show` and `ls` read a file. Source: profile.
use Rattle.std.specs.Prelude.{◌≡◌, ℕ, List}
use Rattle.bplist_objects.specs.declared.frame.Frame.{Frame}
use Rattle.bplist_objects.specs.Frame.{IsFrame}
use Rattle.bplist_cert.specs.Lists.{Lists}
use Rattle.bplist_lint.specs.declared.answer.Lint.{Lint}
use Rattle.bplist_lint.specs.Linted.{IsLintedBy}

-- F is the frame of the file, and these are the lists of its certificate of least heights
pub record IsLeastFor (f : List ℕ) (F : Frame) (lists : Lists) : Type 0 where
  pub lint : Lint
  pub frame : IsFrame f F
  pub linted : IsLintedBy f F lint
  pub same : lists ≡ lint.certificate
