-- Laws of what sources mean.
use Rattle.std.proofs.Common.{◌≡◌, Option, None, Some, refl, sym, ◌∙◌}
use Rattle.bplist_octets.specs.Meaning.{Meaning, OnlyReads, last_count}
use Rattle.bplist_octets.specs.declared.source.ReadFault.{ReadFault}
use Rattle.bplist_octets.specs.declared.source.SliceSource.{SliceSource}
use Rattle.bplist_octets.specs.contracts.source.SliceSourceSource.TheImpl.{ghosts}

-- if the count of failures is 0 before and after, no read has failed
pub never_fails : (fault : Option ReadFault) (old new : Meaning) → old.failures ≡ 0 → new.failures ≡ 0 → OnlyReads fault old new → fault ≡ None
never_fails None old new before after reads = refl
never_fails (Some fault) old new before after reads =
    let last : 0 ≡ last_count = sym before ∙ reads.stays_only_at_last (after ∙ sym before) in cc

-- over a slice no read fails in a call that only reads
pub slice_never_fails : (fault : Option ReadFault) (old new : SliceSource) → OnlyReads fault (ghosts.means old) (ghosts.means new) → fault ≡ None
slice_never_fails fault old new reads = never_fails fault (ghosts.means old) (ghosts.means new) refl refl reads
