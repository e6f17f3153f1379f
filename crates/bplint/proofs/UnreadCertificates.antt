-- What a run leaves whose certificate could not be read.
use Rattle.std.proofs.Common.{ℕ, List, ◌∷◌, [], Bool, Option, None, Some, Err, refl}
use Rattle.bplist_octets.specs.declared.source.ReadFault.{ReadFault}
use Rattle.bplint_lines.specs.declared.fault.RunFault.TheVariants as faults
use Rattle.bplint_lines.specs.declared.raw_fault.RawFault.TheVariants.{Run}
use Rattle.bplint_lines.specs.Answers.{Answer, LeavesWithin}
use Rattle.bplint_engine.specs.Lint.{LintSays}
use Rattle.bplint_engine.specs.Print.{PrintSays}
use Rattle.bplint_engine.specs.Raw.{ShowsRaw}
use Rattle.bplint_engine.proofs.LeftBytes.{begins_within, kept_self}
use Rattle.bplint.specs.declared.args.Ask.{Ask}
use Rattle.bplint.specs.declared.args.Ask.TheVariants as asks
use Rattle.bplint.specs.Questions.{LeavesAsked, SaysAsked, most_asked}

module _ (hex : Bool) (f cert : List ℕ) (old : Option (List ℕ)) (fault : ReadFault) where
  nothing : (Says : Answer → Type 0) (bound : Option ℕ) → LeavesWithin Says bound old old (Err (faults.Read fault))
  nothing Says bound = begins_within Says bound old old (kept_self old)

  -- nothing was written, and the run ends with the failed read
  pub unread_left : (ask : Ask) → LeavesAsked ask hex f cert old old (Err (Run (faults.Read fault)))
  unread_left (asks.Text path limit) = (Err (faults.Read fault), nothing (PrintSays limit (LintSays f) f (path.now ∷ [])) (Some limit), refl)
  unread_left (asks.Raw path) = (Err (Run (faults.Read fault)), nothing (ShowsRaw (LintSays f) f path.now) None, refl)
  unread_left (asks.Readable paths) = tt
  unread_left (asks.Rows listed) = tt
  unread_left (asks.Map paths) = tt
  unread_left asks.Textconv = tt
  unread_left ask = (Err (faults.Read fault), nothing (SaysAsked ask hex f cert) (most_asked ask), refl)
