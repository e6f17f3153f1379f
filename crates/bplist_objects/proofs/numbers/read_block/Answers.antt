use Rattle.std.proofs.Common.{◌≡◌, ℕ, ◌*◌, ◌∙◌, List, length, ap, refl, sym, subst}
use Rattle.bplist_octets.specs.Octets.{part}
use Rattle.bplist_objects.specs.Scan.{MeanNumbers}
use Rattle.bplist_objects.proofs.ScanLaws.{nth_number-part}
use Rattle.bplist_objects.proofs.numbers.read_block.Goals as goal

-- the numbers of a block that was read are those of the source
numbers_read : {T : Type 0} (means : T → ℕ) (cut : ℕ → ℕ) (f block : List ℕ) (place bytes size : ℕ) (into : List T) → bytes ≡ size
    → block ≡ part f place (length into * bytes) → MeanNumbers means cut block 0 size into → MeanNumbers means cut f place bytes into
numbers_read means cut f block place bytes size into same filled here k d l =
    let spelled = subst (λ s. MeanNumbers means cut block 0 s into) (sym same) here in
    spelled k d l ∙ ap cut (nth_number-part f block place bytes (length into) filled k l)

pub returns-in-1-clause-numbers : goal.returns-in-1-clause-numbers
returns-in-1-clause-numbers g c = λ honest.
    let f = (g.S.Source.means c.args.src.now).octets in
    let filled = rw (c.requires.room, sym c.spell_block.auto.into) at (c.in_ok-read_at.ensures.filled honest) in
    numbers_read g.T.Spelled.means g.T.Spelled.cut f c.read_at.new.into c.args.place c.args.width.bytes 1 c.spell_block.new.into c.in-1.is filled c.spell_block.ensures

pub returns-in-2-clause-numbers : goal.returns-in-2-clause-numbers
returns-in-2-clause-numbers g c = λ honest.
    let f = (g.S.Source.means c.args.src.now).octets in
    let filled = rw (c.requires.room, sym c.spell_block-in-2.auto.into) at (c.in_ok-read_at.ensures.filled honest) in
    numbers_read g.T.Spelled.means g.T.Spelled.cut f c.read_at.new.into c.args.place c.args.width.bytes 2 c.spell_block-in-2.new.into c.in-2.is filled c.spell_block-in-2.ensures

pub returns-in-4-clause-numbers : goal.returns-in-4-clause-numbers
returns-in-4-clause-numbers g c = λ honest.
    let f = (g.S.Source.means c.args.src.now).octets in
    let filled = rw (c.requires.room, sym c.spell_block-in-4.auto.into) at (c.in_ok-read_at.ensures.filled honest) in
    numbers_read g.T.Spelled.means g.T.Spelled.cut f c.read_at.new.into c.args.place c.args.width.bytes 4 c.spell_block-in-4.new.into c.in-4.is filled c.spell_block-in-4.ensures

pub returns-in_default-clause-numbers : goal.returns-in_default-clause-numbers
returns-in_default-clause-numbers g c = λ honest.
    let f = (g.S.Source.means c.args.src.now).octets in
    let filled = rw (c.requires.room, sym c.spell_block-in_default.auto.into) at (c.in_ok-read_at.ensures.filled honest) in
    numbers_read g.T.Spelled.means g.T.Spelled.cut f c.read_at.new.into c.args.place c.args.width.bytes c.args.width.bytes c.spell_block-in_default.new.into refl filled c.spell_block-in_default.ensures
