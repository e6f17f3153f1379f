-- What `ls --recursive` says: the line of a value, then one for each value inside it. Source: profile.
use Rattle.std.specs.Prelude.{◌≡◌, ◌∷◌, ◌++◌, ℕ, ◌+◌, ◌<◌, ◌≤◌, List, [], map, Err, MatchResult}
use Rattle.std.specs.List.{enumerate_from, flat_map}
use Rattle.bplist_objects.specs.Value.{Value, leaf, array, set, dict, Values, no_values, value, Pairs, no_pairs, pair}
use Rattle.bplist_cursor.specs.Look.{look}
use Rattle.bplist_cursor.specs.Members.{entries, members}
use Rattle.bplist_cursor.specs.Nodes.{nodes}
use Rattle.bplint_lines.specs.declared.fault.RunFault.{RunFault}
use Rattle.bplint_lines.specs.declared.fault.RunFault.TheVariants.{TooLong}
use Rattle.bplint_lines.specs.declared.fault.Said.TheVariants.{All, SomeMissing}
use Rattle.bplint_lines.specs.Answers.{Answer, gives, refuses}
use Rattle.bplint_lines.specs.Faults.{IsExcused}
use Rattle.bplint_lines.specs.MemberNames.{bracketed, index_name, key_name}
use Rattle.bplint_lines.specs.declared.texts.Style.{Style}
use Rattle.bplint_engine.specs.Get.{found_line}
use Rattle.bplint_engine.specs.Ls.{named_line}
use Rattle.bplint_engine.specs.PathTexts.{ForPaths}

-- the members of a value, each with the name that `ls` gives it; a leaf has none
abbrev pub named_members : Style → List ℕ → Value → List (List ℕ × Value)
named_members style name (leaf l) = []
named_members style name (array vs) = map (λ e. (index_name name e.0, e.1)) (enumerate_from 0 (members vs))
named_members style name (set vs) = map (λ e. (bracketed e.0, e.1)) (enumerate_from 0 (members vs))
named_members style name (dict ps) = map (λ e. (key_name style name e.0 e.1.0, e.1.1)) (enumerate_from 0 (entries ps))

abbrev mutual
  -- the lines of a value with this name: its own, and then those of its members in order
  pub tree_lines : Style → List ℕ → Value → List (List ℕ)
  tree_lines style name (leaf l) = named_line style name (leaf l) ∷ []
  tree_lines style name (array vs) = named_line style name (array vs) ∷ array_lines style name 0 vs
  tree_lines style name (set vs) = named_line style name (set vs) ∷ set_lines style 0 vs
  tree_lines style name (dict ps) = named_line style name (dict ps) ∷ dict_lines style name 0 ps

  -- the lines of an array's members, numbered from i on
  pub array_lines : Style → List ℕ → ℕ → Values → List (List ℕ)
  array_lines style name i no_values = []
  array_lines style name i (value v vs) = tree_lines style (index_name name i) v ++ array_lines style name (i + 1) vs

  -- the lines of a set's members
  pub set_lines : Style → ℕ → Values → List (List ℕ)
  set_lines style i no_values = []
  set_lines style i (value v vs) = tree_lines style (bracketed i) v ++ set_lines style (i + 1) vs

  -- the lines of the values of a dictionary's keys
  pub dict_lines : Style → List ℕ → ℕ → Pairs → List (List ℕ)
  dict_lines style name i no_pairs = []
  dict_lines style name i (pair units v ps) = tree_lines style (key_name style name i units) v ++ dict_lines style name (i + 1) ps

-- the lines, one after the other
abbrev pub joined_lines : List (List ℕ) → List ℕ
joined_lines lines = flat_map (λ line. line) lines

-- the value has at most `limit` nodes, and fewer than 18446744073709551615
abbrev pub HasNodes : Value → ℕ → Type 0
HasNodes w limit = (nodes w ≤ limit) × (nodes w < 18446744073709551615)

-- why its nodes were not counted: there are too many, or a read failed, or memory was refused
abbrev pub RefusesNodes : Value → ℕ → RunFault → Type 0
RefusesNodes w limit TooLong = ¬ HasNodes w limit
RefusesNodes w limit fault = IsExcused fault

-- the answer is the lines of the value, or that it has too many nodes
abbrev pub NodeLists : Style → ℕ → List ℕ → Value → Answer → Type 0
NodeLists style limit name w (gives said bytes) = HasNodes w limit × (said ≡ All) × (bytes ≡ joined_lines (tree_lines style name w))
NodeLists style limit name w (refuses TooLong) = ¬ HasNodes w limit
NodeLists style limit name w (refuses _) = ⊥

-- the answer is the lines of the value under the path with this text, or that the path leads nowhere
abbrev pub PathLists : Style → ℕ → List ℕ → List (List ℕ) → Value → Answer → Type 0
PathLists style limit text steps v answer = MatchResult (look 0 v steps) (λ w. NodeLists style limit text w answer)
    (λ missing. answer ≡ gives SomeMissing (found_line style (Err missing)))

-- the answer of `ls --recursive` for one path text, if Says accepts the file
abbrev pub ListsAll : Style → ℕ → (Answer → Type 0) → List ℕ → List ℕ → Answer → Type 0
ListsAll style limit Says f text = ForPaths Says f (text ∷ [])
    (λ paths v answer. (steps : List (List ℕ)) × (paths ≡ steps ∷ []) × PathLists style limit text steps v answer)
