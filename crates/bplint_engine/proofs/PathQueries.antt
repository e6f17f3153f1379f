-- Queries that are made of path texts.
use Rattle.std.proofs.Common.{◌≡◌, ◌∙◌, ℕ, zero, suc, ◌<◌, List, [], ◌∷◌, ◌++◌, length, take, map, get_or, inl, inr, ap, subst, sym, arith, String, Global, string_bytes}
use Rattle.std.specs.List.{AllZip}
use Rattle.std.proofs.lemmas.List.{map-append}
use Rattle.bplist_cursor.specs.declared.replies.Query.{Query}
use Rattle.bplist_cursor.specs.declared.replies.Query.TheVariants.{Get}
use Rattle.bplist_cursor.specs.declared.path.PathFault.{PathFault}
use Rattle.bplist_cursor.specs.declared.path.PathFault.TheVariants.{Text, Memory}
use Rattle.bplist_cursor.specs.Path.{IsNoPath, IsPathOf}
use Rattle.bplist_cursor.specs.PathFaults.{OnText}
use Rattle.bplint_engine.specs.PathTexts.{IsWrongAmong, OnPath}
use Rattle.bplint_engine.proofs.LowerFaults.{path_fault}

-- the bytes of each text
abbrev pub bytes_of : List (String Global) → List (List ℕ)
bytes_of texts = map (λ text. string_bytes text) texts

-- the queries ask for the paths of these texts
abbrev pub AreAsked : List (List ℕ) → List Query → Type 0
AreAsked texts queries = (paths : List (List (List ℕ))) × AllZip IsPathOf texts paths × (queries ≡ map (λ path. Get path) paths)

more_paths : (texts : List (String Global)) (i : ℕ) (paths : List (List (List ℕ))) (text : String Global) (path : List (List ℕ)) → i < length texts
    → text ≡ get_or texts i text → AllZip IsPathOf (bytes_of (take i texts)) paths → IsPathOf (string_bytes text) path
    → AllZip IsPathOf (bytes_of (take (suc i) texts)) (paths ++ path ∷ [])
more_paths [] i paths text path within is are spells = absurd (omega arith)
more_paths (t ∷ ts) zero [] text path within is are spells = (subst (λ x. IsPathOf (string_bytes x) path) is spells, tt)
more_paths (t ∷ ts) zero (q ∷ qs) text path within is are spells = absurd are
more_paths (t ∷ ts) (suc i) [] text path within is are spells = absurd are
more_paths (t ∷ ts) (suc i) (q ∷ qs) text path within is are spells =
    (are.0, more_paths ts i qs text path (omega arith) is are.1 spells)

-- one more text, and its query
pub one_more : (texts : List (String Global)) (i : ℕ) (queries : List Query) (text : String Global) (path : List (List ℕ)) → i < length texts
    → text ≡ get_or texts i text → AreAsked (bytes_of (take i texts)) queries → IsPathOf (string_bytes text) path
    → AreAsked (bytes_of (take (suc i) texts)) (queries ++ Get path ∷ [])
one_more texts i queries text path within is (paths, are, same) spells = (
  paths ++ path ∷ [],
  more_paths texts i paths text path within is are spells,
  ap (λ l. l ++ Get path ∷ []) same ∙ sym (map-append Get paths (path ∷ [])),
)

-- the texts before this one are path texts, and this one is wrong
first_wrong : (texts : List (String Global)) (i : ℕ) (paths : List (List (List ℕ))) (text : String Global) (place : ℕ) → i < length texts
    → text ≡ get_or texts i text → AllZip IsPathOf (bytes_of (take i texts)) paths → IsNoPath (string_bytes text) place
    → IsWrongAmong (bytes_of texts) place
first_wrong [] i paths text place within is are wrong = absurd (omega arith)
first_wrong (t ∷ ts) zero paths text place within is are wrong = inl (subst (λ x. IsNoPath (string_bytes x) place) is wrong)
first_wrong (t ∷ ts) (suc i) [] text place within is are wrong = absurd are
first_wrong (t ∷ ts) (suc i) (q ∷ qs) text place within is are wrong =
    inr (q, are.0, first_wrong ts i qs text place (omega arith) is are.1 wrong)

-- a text is no path text
pub text_refused : (texts : List (String Global)) (i : ℕ) (queries : List Query) (text : String Global) (fault : PathFault) → i < length texts
    → text ≡ get_or texts i text → AreAsked (bytes_of (take i texts)) queries → OnText (IsNoPath (string_bytes text)) fault
    → OnPath (IsWrongAmong (bytes_of texts)) (path_fault fault)
text_refused texts i queries text (Text place) within is asked wrong = first_wrong texts i asked.0 text place within is asked.1 wrong
text_refused texts i queries text Memory within is asked wrong = tt

-- of one text, the list is that text
pub only_text : (texts : List (String Global)) (text : String Global) → length texts ≡ 1 → text ≡ get_or texts 0 text → string_bytes text ∷ [] ≡ bytes_of texts
only_text [] text one is = absurd (omega (arith, one))
only_text (t ∷ []) text one is = ap (λ x. string_bytes x ∷ []) is
only_text (t ∷ u ∷ ts) text one is = absurd (omega (arith, one))
