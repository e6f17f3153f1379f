-- The lines of a walk that were put into a sink, row by row.
use Rattle.std.proofs.Common.{◌≡◌, ◌++◌, ◌∷◌, [], ◌∙◌, ℕ, List, Ok, ap, append_assoc, append-nil, refl, subst, sym}
use Rattle.std.specs.Prelude.{false, Option}
use Rattle.std.specs.List.{flat_map}
use Rattle.std.proofs.lemmas.Grind.{flat_map-append}
use Rattle.bplist_octets.specs.Sending.{Sending, Takes}
use Rattle.bplist_octets.proofs.SinkSteps.{takes_more, takes_nothing}
use Rattle.bplist_objects.specs.Value.{Value, leaf, array, set, dict}
use Rattle.bplist_cert.specs.CheckedFile.{CheckedFile}
use Rattle.bplint_lines.specs.declared.fault.RunFault.{RunFault}
use Rattle.bplint_lines.specs.declared.texts.Style.{Style}
use Rattle.bplint_lines.specs.Faults.{IsExcused}
use Rattle.bplint_engine.specs.declared.walk.Walk.{Walk}
use Rattle.bplint_engine.specs.Ls.{listed, named_line}
use Rattle.bplint_engine.specs.Streams.{Fails}
use Rattle.bplint_engine.specs.Tree.{joined_lines, named_members}
use Rattle.bplint_engine.specs.Walks.{RowsLeftIn, lines_of_all, walked_lines}
use Rattle.bplint_engine.proofs.Puts.{fails_behind, stopped_behind}
use Rattle.bplint_engine.proofs.TreeLines.{listed_by_members}

-- lines, and then more lines
joined_more : (xs ys : List (List ℕ)) → joined_lines (xs ++ ys) ≡ joined_lines xs ++ joined_lines ys
joined_more xs ys = flat_map-append (λ line. line) xs ys

-- one line
joined_one : (line : List ℕ) → joined_lines (line ∷ []) ≡ line
joined_one line = append-nil line

module _ (style : Style) where
  -- the lines of members, one each
  joined_each : (ms : List (List ℕ × Value)) → joined_lines (lines_of_all style false ms) ≡ flat_map (λ m. named_line style m.0 m.1) ms
  joined_each [] = refl
  joined_each (m ∷ ms) = ap (λ l. named_line style m.0 m.1 ++ l) (joined_each ms)

  -- the lines of a walk that is not deep are those of `ls`
  pub walked_listed : (name : List ℕ) (w : Value) → joined_lines (walked_lines style false name w) ≡ listed style name (Ok w)
  walked_listed name (leaf l) = joined_one (named_line style name (leaf l))
  walked_listed name (array vs) = joined_each (named_members style name (array vs)) ∙ sym (listed_by_members style name (array vs) (λ is. is))
  walked_listed name (set vs) = joined_each (named_members style name (set vs)) ∙ sym (listed_by_members style name (set vs) (λ is. is))
  walked_listed name (dict ps) = joined_each (named_members style name (dict ps)) ∙ sym (listed_by_members style name (dict ps) (λ is. is))

  module _ (checked : CheckedFile) where
    -- a first part of these lines was put into the sink, and the walk still gives the rest
    pub record PutsOn (old new : Option (List ℕ)) (before after : Sending) (walk : Walk) (lines : List (List ℕ)) : Type 0 where
      pub put : List (List ℕ)
      pub rest : List (List ℕ)
      pub takes : Takes old new before after (joined_lines put)
      pub stands : RowsLeftIn style checked walk rest
      pub is : lines ≡ put ++ rest

    -- nothing was put in yet
    pub puts_none : (now : Option (List ℕ)) (s : Sending) (walk : Walk) (lines : List (List ℕ)) → RowsLeftIn style checked walk lines → PutsOn now now s s walk lines
    puts_none now s walk lines stands = record { put = []; rest = lines; takes = takes_nothing now s; stands = stands; is = refl }

    module _ {old mid : Option (List ℕ)} {before after : Sending} {walk : Walk} {lines : List (List ℕ)} (p : PutsOn old mid before after walk lines) where
      -- the next line was put in
      pub puts_next : (new : Option (List ℕ)) (later : Sending) (next : Walk) (line : List ℕ) → (rest : List (List ℕ)) × RowsLeftIn style checked next rest × (p.rest ≡ line ∷ rest)
          → Takes mid new after later line → PutsOn old new before later next lines
      puts_next new later next line (rest, stands, first) takes = record {
        put = p.put ++ line ∷ [];
        rest = rest;
        takes = subst (Takes old new before later) (sym (joined_more p.put (line ∷ []) ∙ ap (λ l. joined_lines p.put ++ l) (joined_one line))) (takes_more p.takes takes);
        stands = stands;
        is = p.is ∙ ap (λ l. p.put ++ l) first ∙ sym (append_assoc p.put (line ∷ []) rest);
      }

      -- the next line was not put in
      pub puts_fail : (new : Option (List ℕ)) (line : List ℕ) (rest : List (List ℕ)) (fault : RunFault) → p.rest ≡ line ∷ rest → Fails mid new after line fault
          → Fails old new before (joined_lines lines) fault
      puts_fail new line rest fault first fails =
          fails_behind old mid new line (joined_lines rest) (joined_lines lines) fault p.takes fails
          (ap joined_lines p.is ∙ joined_more p.put p.rest ∙ ap (λ l. joined_lines p.put ++ joined_lines l) first)

      -- a read failed or memory was refused
      pub puts_stop : (fault : RunFault) → IsExcused fault → Fails old mid before (joined_lines lines) fault
      puts_stop fault excused = stopped_behind old mid (joined_lines p.rest) (joined_lines lines) fault p.takes excused (ap joined_lines p.is ∙ joined_more p.put p.rest)

      -- there are no more lines
      pub puts_all : p.rest ≡ [] → Takes old mid before after (joined_lines lines)
      puts_all none = subst (λ l. Takes old mid before after (joined_lines l)) (sym (p.is ∙ ap (λ l. p.put ++ l) none ∙ append-nil p.put)) p.takes
