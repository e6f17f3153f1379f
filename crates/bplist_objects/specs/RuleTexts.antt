-- What the rules require, in plain words. Source: profile.
use Rattle.std.specs.Prelude.{ℕ, ◌-◌, List, [], get_or, map}
use Rattle.bplist_objects.specs.declared.rule.Rule.{Rule}
use Rattle.bplist_objects.specs.declared.rule_texts.TheConstants.{TEXTS}
use Rattle.bplist_objects.specs.Words.{number_of}

-- what the rule requires, and an example that breaks it: the row of its number in the table of texts
abbrev pub text_of : Rule → List ℕ × List ℕ
text_of rule = get_or (map (λ row. (row.0.now, row.1.now)) TEXTS) (number_of rule - 1) ([], [])
