use Rattle.std.proofs.Common.{◌≡◌, ℕ, ◌+◌, ◌-◌, ◌≤◌, ◌++◌, ◌∷◌, [], List, length, take, drop, replicate, sym, ap, ap₂, ◌∙◌, IsTrue, arith}
use Rattle.std.proofs.lemmas.Grind.{common_steps}
use Rattle.std.proofs.lemmas.List.{length-take, length-drop, length-append, length-replicate, take_all, with_items_is}
use borrow.Rule.Slice.PartMut.{post_of}
use Rattle.bplist_objects.specs.Units.{units_of}
use Rattle.bplist_objects.proofs.Units.{length-units_at}
use Rattle.bplist_keys.proofs.HeldTexts.{filled}
use Rattle.bplist_keys.proofs.key_texts.KeyTexts.push.Given.{Over}
use Rattle.bplist_keys.proofs.key_texts.KeyTexts.push.Goals as goal

module _ (g : Over) (c : goal.In_ok-push g) (honest : IsTrue (g.S.Source.means c.args.src.now).honest) where
  abbrev us : List ℕ
  us = units_of (g.S.Source.means c.args.src.now).octets c.args.head.now

  abbrev old : List ℕ
  old = c.args.self.now.units.items

  abbrev now : List ℕ
  now = take c.len-start.result c.deref_mut.result.now ++ (c.read_units.new.into ++ post_of c.len-start.result (length c.deref_mut.result.now - c.len-start.result) c.deref_mut.result.now)

  begin : length old ≡ c.len-start.result
  begin = grind (arith, common_steps)

  many : length us ≡ c.args.head.now.count
  many = length-units_at (g.S.Source.means c.args.src.now).octets c.args.head.now.kind c.args.head.now.count c.args.head.now.body c.requires.text.kind (omega (arith, c.requires.text.body))

  whole : length (old ++ us) ≡ c.len-start.result + c.args.head.now.count
  whole = omega (arith, length-append old us, many, begin)

  -- the head's units stand behind the others
  written : now ≡ old ++ us
  written =
      let count = c.args.head.now.count in
      let start = c.len-start.result in
      let end : List ℕ = replicate {A = ℕ} count 0 in
      let xs : List ℕ = c.deref_mut.result.now in
      let cut : take (start + count) old ≡ old = take_all (start + count) old (omega (arith, begin)) in
      let left : start + count - c.args.self.now.units.len ≡ count = omega (arith, c.len-start.ensures) in
      let grown : take (start + count) old ++ replicate {A = ℕ} (start + count - c.args.self.now.units.len) 0 ≡ old ++ end = ap₂ (λ (a : List ℕ) (n : ℕ). a ++ replicate {A = ℕ} n 0) cut left in
      let is : xs ≡ old ++ end = c.deref_mut.ensures.value ∙ c.in_ok-resize.ensures.items ∙ grown in
      let size : length xs ≡ start + count = omega (arith, ap length is, length-append old end, begin, length-replicate {A = ℕ} count 0) in
      let room : length us ≤ length (take (length xs - start) (drop start xs)) = omega (arith, many, size, length-take (length xs - start) (drop start xs), length-drop start xs) in
      let into : c.read_units.new.into ≡ us = c.in_ok-read_units.ensures.units honest ∙ take_all (length (take (length xs - start) (drop start xs))) us room in
      filled old end c.read_units.new.into us xs start is begin into

pub returns-clause-text : goal.returns-clause-text
returns-clause-text g c = λ honest.
    let units = with_items_is c.resize.new.self (now g c honest) (ap length (written g c honest) ∙ whole g c honest ∙ sym c.in_ok-resize.ensures.len) ∙ written g c honest in
    record {
      units = units;
      starts = c.in_ok-push.ensures.items ∙ ap (λ n. c.args.self.now.starts.items ++ n ∷ []) (sym (ap length units ∙ whole g c honest));
    }
