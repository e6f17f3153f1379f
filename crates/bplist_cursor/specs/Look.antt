-- What steps lead to in a value. Source: RFC 6901, section 4; that keys are units, and the reasons: profile.
use Rattle.std.specs.Prelude.{ℕ, ◌+◌, List, [], ◌∷◌, Result, Ok, Err, ok_or, option_map}
use Rattle.std.specs.List.{find, enumerate_from}
use Rattle.std.specs.Str.{bytes_eq}
use Rattle.std.specs.Fmt.{decimal}
use Rattle.bplist_objects.specs.Value.{Value, array, dict}
use Rattle.bplist_cursor.specs.Members.{members, entries}
use Rattle.bplist_cursor.specs.declared.node.Why.{Why}
use Rattle.bplist_cursor.specs.declared.node.Why.TheVariants.{NoKey, NoIndex, NotSteppable}

-- one step leads to the value of the first key with these units, or to the member whose index they spell; else this is
-- why it can't be taken
abbrev pub stepped : Value → List ℕ → Result Value Why
stepped (dict ps) s = ok_or (option_map (λ e. e.1) (find (λ e. bytes_eq e.0 s) (entries ps))) NoKey
stepped (array vs) s =
    let with_index = enumerate_from 0 (members vs) in
    ok_or (option_map (λ e. e.1) (find (λ e. bytes_eq (decimal e.0) s) with_index)) NoIndex
stepped _ s = Err NotSteppable

-- what the steps lead to, or the number of the first step that can't be taken and why; steps are numbered from k on
abbrev pub look : ℕ → Value → List (List ℕ) → Result Value (ℕ × Why)
look k v [] = Ok v
look k v (s ∷ steps) = elim (stepped v s) [ Ok w ↦ look (k + 1) w steps | Err why ↦ Err (k, why) ]
