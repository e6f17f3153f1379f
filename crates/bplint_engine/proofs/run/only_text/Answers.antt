use Rattle.std.proofs.Common.{◌≡◌, ◌∷◌, [], ℕ, List, subst, sym}
use Rattle.bplint_engine.proofs.PathQueries.{bytes_of, only_text}
use Rattle.bplint_engine.proofs.run.only_text.Goals as goal

pub returns : goal.returns
returns c =
    let only = only_text c.args.texts.now c.index-texts-0.result c.requires c.index-texts-0.is in
    subst (λ (x : List ℕ). bytes_of c.args.texts.now ≡ x ∷ []) (sym c.as_str.ensures.value) (sym only)
