-- Values that a listing in UTF-8 shows in full. Source: profile.
use Rattle.std.specs.Prelude.{◌≡◌, ℕ, ◌||◌, List, false, ⊤}
use Rattle.std.specs.Char.Utf16.{has_unpaired_surrogate}
use Rattle.std.specs.List.{list_any}
use Rattle.bplist_objects.specs.Value.{Value, leaf, array, set, dict, Values, no_values, value, Pairs, no_pairs, pair}
use Rattle.bplint_lines.specs.Texts.{is_unshown}

-- a path can show the key: it is UTF-16, and has no unit that a line cannot show
abbrev pub IsShownKey : List ℕ → Type 0
IsShownKey key = (list_any is_unshown key || has_unpaired_surrogate key) ≡ false

abbrev mutual
  -- all keys in the value can be shown
  pub HasShownKeys : Value → Type 0
  HasShownKeys (leaf l) = ⊤
  HasShownKeys (array vs) = HaveShownKeys vs
  HasShownKeys (set vs) = HaveShownKeys vs
  HasShownKeys (dict ps) = AreShownPairs ps

  -- all keys in these values can be shown
  pub HaveShownKeys : Values → Type 0
  HaveShownKeys no_values = ⊤
  HaveShownKeys (value v vs) = HasShownKeys v × HaveShownKeys vs

  -- these keys and all keys in their values can be shown
  pub AreShownPairs : Pairs → Type 0
  AreShownPairs no_pairs = ⊤
  AreShownPairs (pair key v ps) = IsShownKey key × HasShownKeys v × AreShownPairs ps
