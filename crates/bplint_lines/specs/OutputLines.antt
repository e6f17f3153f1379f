-- The lines of answers, without line feeds. Source: profile.
use Rattle.std.specs.Prelude.{ℕ, List, ◌++◌, codes, if◌then◌else◌}
use Rattle.std.specs.Fmt.{decimal, signed_decimal}
use Rattle.hex.specs.Hex.{encode_lower}
use Rattle.bplist_objects.specs.Words.{kind_word}
use Rattle.bplist_objects.specs.declared.head.Kind.{Kind}
use Rattle.bplist_cursor.specs.declared.replies.Face.{Face}
use Rattle.bplist_cursor.specs.declared.replies.Face.TheVariants as faces
use Rattle.bplist_cursor.specs.declared.node.Why.{Why}
use Rattle.bplist_cursor.specs.declared.node.Why.TheVariants.{NoKey, NoIndex, NotSteppable}
use Rattle.bplist_cursor.specs.Texts.{text_of_bytes}
use Rattle.bplint_lines.specs.declared.texts.Style.{Style}
use Rattle.bplint_lines.specs.Texts.{text_in}

-- the line of `lint`
abbrev pub lint_line : ℕ → ℕ → Kind → List ℕ
lint_line n h kind = codes "ok reached " ++ decimal n ++ codes " height " ++ decimal h ++ codes " top " ++ kind_word kind

-- the line of `check`
abbrev pub check_line : ℕ → ℕ → List ℕ
check_line n h = codes "ok objects " ++ decimal n ++ codes " height " ++ decimal h

-- the line of `get`: a kind, and a leaf's value or a container's count
abbrev pub face_line : Style → Face → List ℕ
face_line style faces.Null = codes "null"
face_line style (faces.Bool b) = if b then codes "true" else codes "false"
face_line style (faces.Int i) = codes "int " ++ signed_decimal i
face_line style (faces.Real l) = codes "real " ++ encode_lower l
face_line style (faces.Date l) = codes "date " ++ encode_lower l
face_line style (faces.Bytes l) = codes "data " ++ text_of_bytes l
face_line style (faces.Text units) = codes "text " ++ text_in style units
face_line style (faces.Uid x) = codes "uid " ++ decimal x
face_line style (faces.Array count) = codes "array " ++ decimal count
face_line style (faces.Set count) = codes "set " ++ decimal count
face_line style (faces.Dict count) = codes "dict " ++ decimal count

-- the line for a path that leads nowhere: the step that fails, and why
abbrev pub missing_line : ℕ → Why → List ℕ
missing_line step why = codes "missing " ++ decimal step ++ codes " "
    ++ codes (elim why [ NoKey ↦ "NoKey" | NoIndex ↦ "NoIndex" | NotSteppable ↦ "NotSteppable" ])
