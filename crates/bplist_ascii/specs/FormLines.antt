-- The printed lines for a value that has no old-style text within the limit, without line feeds. Source: profile.
use Rattle.std.specs.Prelude.{List, ℕ, ◌++◌, codes}
use Rattle.std.specs.Fmt.{decimal}
use Rattle.bplist_objects.specs.declared.frame.ObjectNo.{ObjectNo}

-- the kind of this object has no text
abbrev pub no_form_line : ObjectNo → List ℕ
no_form_line n = codes "form NoAsciiForm object " ++ decimal n.0

-- the text is longer than the limit
abbrev pub too_long_line : List ℕ
too_long_line = codes "form TooLong"
