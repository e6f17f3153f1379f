-- What the explanation of a fault says of the rule. Source: profile.
use Rattle.std.specs.Prelude.{ℕ, Bool, true, false, if◌then◌else◌, List, ◌++◌, codes, Option, None, Some}
use Rattle.std.specs.Fmt.{decimal}
use Rattle.bplist_objects.specs.declared.rule.Rule.{Rule}
use Rattle.bplist_objects.specs.declared.rule.Rule.TheVariants as rules
use Rattle.bplist_objects.specs.RuleTexts.{text_of}
use Rattle.bplist_objects.specs.Words.{number_of}
use Rattle.bplint_lines.specs.declared.fault.RunFault.{RunFault}
use Rattle.bplint_lines.specs.declared.fault.RunFault.TheVariants.{Circle, Fault, Path}

-- the line of the rule under a fault
abbrev pub rule_line : Rule → List ℕ
rule_line rule = codes "  rule " ++ decimal (number_of rule) ++ codes ": " ++ (text_of rule).0 ++ codes "\n"

-- the rule that a fault is about, if it is about one
abbrev pub rule_of_fault : RunFault → Option Rule
rule_of_fault fault = elim fault [ Fault x ↦ Some x.rule | Circle _ ↦ Some rules.Circle | Path _ ↦ Some rules.PathText | _ ↦ None ]

-- true if the rule is about a certificate, which then has the place of the fault
abbrev pub is_about_certificates : Rule → Bool
is_about_certificates rule = elim rule [
  | rules.CertMagic ↦ true
  | rules.CertLength ↦ true
  | rules.CertCount ↦ true
  | rules.TopNotVouched ↦ true
  | rules.KeyOrder ↦ true
  | _ ↦ false
]

-- true if this project asks for what the rule requires, and the published format does not
abbrev pub is_profile : Rule → Bool
is_profile rule = elim rule [
  | rules.TooLarge ↦ true
  | rules.NotAscii ↦ true
  | rules.KeyKind ↦ true
  | rules.KeyTwice ↦ true
  | rules.Overfull ↦ true
  | rules.PathText ↦ true
  | rules.ChildNotVouched ↦ true
  | rules.HeightNotLess ↦ true
  | other ↦ is_about_certificates other
]

-- the basis of a rule in words
abbrev pub basis_words : Rule → List ℕ
basis_words rule = if is_profile rule then codes "profile. This project asks for it, and the format does not."
    else codes "format. The published format asks for it."
