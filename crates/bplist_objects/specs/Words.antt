-- The words and numbers of the rules, and the words of the kinds. Source: profile.
use Prim.Native.String.{String}
use Rattle.std.specs.Prelude.{ℕ, suc, List, [], ◌∷◌, codes, get_or}
use denote.Enum.Declared.{tag_of}
use Rattle.bplist_objects.specs.contracts.head.Kind.{the_type as kinds}
use Rattle.bplist_objects.specs.contracts.rule.Rule.{the_type}
use Rattle.bplist_objects.specs.declared.head.Kind.{Kind}
use Rattle.bplist_objects.specs.declared.rule.Rule.{Rule}

-- the words of the rules, in the order of their numbers
abbrev pub rule_words : List String
rule_words =
    "TooLarge" ∷ "TooShort" ∷ "Magic" ∷ "NoObjects" ∷ "Top" ∷ "TableEarly" ∷ "TableLate" ∷ "OffsetSize" ∷ "RefSize" ∷ "Length"
    ∷ "RefNarrow" ∷ "OffsetNarrow" ∷ "OffsetHigh" ∷ "OffsetLow" ∷ "Marker" ∷ "Count" ∷ "Extent" ∷ "NotAscii" ∷ "UidLarge"
    ∷ "RefHigh" ∷ "KeyKind" ∷ "KeyTwice" ∷ "Circle" ∷ "CertMagic" ∷ "CertLength" ∷ "CertCount" ∷ "TopNotVouched"
    ∷ "ChildNotVouched" ∷ "HeightNotLess" ∷ "PathText" ∷ "Overfull" ∷ "KeyOrder" ∷ []

-- the word of a rule
abbrev pub word_of : Rule → List ℕ
word_of rule = codes (get_or rule_words (tag_of the_type rule) "")

-- the number of a rule: its index among the declared rules, from 1
abbrev pub number_of : Rule → ℕ
number_of rule = suc (tag_of the_type rule)

-- the words for the kinds, in the order of their declaration
abbrev pub kind_word : Kind → List ℕ
kind_word kind = codes (get_or ("null" ∷ "false" ∷ "true" ∷ "int" ∷ "real" ∷ "date" ∷ "data" ∷ "text" ∷ "text"
    ∷ "uid" ∷ "array" ∷ "set" ∷ "dict" ∷ []) (tag_of kinds kind) "")
