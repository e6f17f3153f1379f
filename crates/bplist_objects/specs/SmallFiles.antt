-- The small files on which the definitions are tried. Source: the format comment of CFBinaryPList.c.
use Rattle.std.specs.Prelude.{ℕ, ◌+◌, List, [], ◌∷◌, ◌++◌, length, replicate}
use Rattle.bplist_objects.specs.Frame.{header}

-- a file of these objects, with entries and references of one byte, and top 0
abbrev pub small_file : List ℕ → List ℕ → List ℕ
small_file objects entries =
    header ++ objects ++ entries ++ replicate 6 0 ++ (1 ∷ 1 ∷ []) ++ replicate 7 0 ++ (length entries ∷ [])
    ++ replicate 15 0 ++ ((8 + length objects) ∷ [])
