use Rattle.std.proofs.Common.{◌≡◌, ◌∷◌, ◌++◌, ◌∙◌, ℕ, List, [], ap, sym}
use Rattle.std.proofs.lemmas.Iterator.{YieldsList-from_chars}
use Rattle.std.proofs.lemmas.Iterator.Consumers.{YieldsList-end}
use Rattle.std.proofs.lemmas.List.Folds.{flat_map-map}
use Rattle.std.proofs.lemmas.List.{flat_map_more}
use Rattle.std.specs.Char.Escape.{encode_utf16}
use Rattle.std.specs.List.{flat_map}
use Rattle.bplist_c.proofs.utf8.units_of_key.Goals as goal

more : (before after added : List ℕ) (xs : List ℕ) (c : ℕ) → before ≡ flat_map encode_utf16 xs → added ≡ encode_utf16 c → after ≡ before ++ added
    → after ≡ flat_map encode_utf16 (xs ++ c ∷ [])
more before after added xs c b a e = rw (e, b, a) (flat_map_more encode_utf16 [] xs c)

pub loop-c-preserved : goal.loop-c-preserved
loop-c-preserved c =
    more _ _ _ c.loop-c.yielded c.in-Some.c c.loop-c.invariant c.encode_utf16.ensures.value c.in_ok-extend_from_slice.ensures.items

pub returns : goal.returns
returns c =
    let all = YieldsList-end (YieldsList-from_chars c.args.key.now c.utf8.key cc) c.loop-c.yielded _ c.loop-c.yielded_by _ _ c.in-None.is c.next.ensures.steps in
    let same = sym (flat_map-map encode_utf16 (λ c. c) c.loop-c.yielded) ∙ ap (flat_map encode_utf16) all.0 in
    c.loop-c.invariant ∙ same
