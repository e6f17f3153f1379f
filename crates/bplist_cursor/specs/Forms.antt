-- Whether a value has a text and how long it is, and a table of that by the number of the object. Source: profile.
use Rattle.std.specs.Prelude.{◌≡◌, ℕ, ◌+◌, List, [], ◌∷◌, length, Option, option_map, slice_get, unwrap_or}
use Rattle.bplist_objects.specs.declared.frame.Frame.{Frame}
use Rattle.bplist_objects.specs.Value.{Value}
use Rattle.bplist_objects.specs.Heads.{Content, leaf, array, set, dict, Spells}
use Rattle.bplist_cursor.specs.declared.sizes.Form.{Form}
use Rattle.bplist_cursor.specs.declared.sizes.Form.TheVariants.{NoForm, Length}
use Rattle.bplist_cursor.specs.Nodes.{cap}
use Rattle.bplist_cursor.specs.OldStyle.{leaf_text, value_text}

-- the form of a value: the capped length of its text, or that it has none
abbrev pub form_of : Value → Form
form_of v = unwrap_or (option_map (λ t. Length (cap (length t))) (value_text v)) NoForm

-- the form that goes with this text, or with none
abbrev pub form_of_text : Option (List ℕ) → Form
form_of_text text = unwrap_or (option_map (λ t. Length (cap (length t))) text) NoForm

-- the form of two texts one after the other: none if one of them has none
abbrev pub joined : Form → Form → Form
joined NoForm b = NoForm
joined (Length m) NoForm = NoForm
joined (Length m) (Length n) = Length (cap (m + n))

-- the form of object n in a table
abbrev pub form_at : List Form → ℕ → Form
form_at T n = unwrap_or (slice_get T n) NoForm

-- the length of the comma before these members: 0 if there are none
abbrev pub comma_length : List ℕ → ℕ
comma_length [] = 0
comma_length (m ∷ ms) = 1

-- the form of members with commas between them
abbrev pub members_form : List Form → List ℕ → Form
members_form T [] = Length 0
members_form T (m ∷ ms) = joined (form_at T m) (joined (Length (comma_length ms)) (members_form T ms))

-- the form of pairs with `=` and `;`
abbrev pub pairs_form : List Form → List ℕ → List ℕ → Form
pairs_form T (k ∷ ks) (m ∷ ms) = joined (form_at T k) (joined (form_at T m) (joined (Length 2) (pairs_form T ks ms)))
pairs_form T _ _ = Length 0

-- the form of a content, made from the forms of its references
abbrev pub content_form : List Form → Content → Form
content_form T (leaf l) = form_of_text (leaf_text l)
content_form T (array ms) = joined (Length 2) (members_form T ms)
content_form T (set ms) = NoForm
content_form T (dict ks ms) = joined (Length 2) (pairs_form T ks ms)

-- in table T, object n has the form of its content
abbrev pub Formed : List ℕ → Frame → List Form → ℕ → Type 0
Formed f F T n = (c : Content) × Spells f F n c × (form_at T n ≡ content_form T c)
