use Rattle.std.proofs.Common.{◌≡◌, ◌+◌, ◌*◌, ◌≤◌, ℕ, length, take}
use Rattle.bplist_objects.specs.Framed.{HonestlyIn}
use Rattle.bplist_keys.specs.Groups.{item_at, HaveShapes, units_in}
use Rattle.bplist_keys.specs.Texts.{text_units}
use Rattle.bplist_keys.proofs.HeldTexts.{AreRead}
use Rattle.bplist_keys.proofs.key_texts.KeyTexts.read.Given as goal

-- the texts of the first k items are in memory
abbrev pub invariant-loop-k : goal.invariant-loop-k
invariant-loop-k g l =
    let means = g.P.Source.means in
    record {
      same : means l.src ≡ means l.fn.src;
      within : length l.texts.units.items ≤ length (means l.fn.src).octets;
      asked : g.P.Source.asked l.src ≤ g.P.Source.asked l.fn.src + (2 * length l.texts.units.items + 36 * l.k);
      counted : HonestlyIn (means l.fn.src) (λ f F. HaveShapes f F l.fn.items → length l.texts.units.items ≡ units_in f F (take l.k l.fn.items));
      all : length l.items ≡ length l.fn.items;
      objects : (j : ℕ) → (item_at l.items j).object ≡ (item_at l.fn.items j).object;
      held : HonestlyIn (means l.fn.src) (λ f F. HaveShapes f F l.fn.items → AreRead (text_units f F) l.texts l.items l.k);
    }
