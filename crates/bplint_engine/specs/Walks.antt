-- The state of a walk: a stack of containers, and the lines of the rows that it still has to give. Source: profile.
use Rattle.std.specs.Prelude.{◌≡◌, ◌⊎◌, ◌∷◌, ◌++◌, ℕ, ◌+◌, ◌*◌, ◌^◌, ◌<◌, ◌≤◌, Bool, false, if◌then◌else◌, IfSome, List, [], Option, None, Some, codes, drop, length, reverse, slice_get, take, ⊤}
use Rattle.std.specs.List.{flat_map}
use Rattle.bplist_objects.specs.declared.frame.Frame.{Frame}
use Rattle.bplist_objects.specs.Safe.{IsSafeHead}
use Rattle.bplist_objects.specs.Value.{Value, leaf}
use Rattle.bplist_cert.specs.CheckedFile.{CheckedFile}
use Rattle.bplist_cursor.specs.Found.{IsHeld}
use Rattle.bplint_lines.specs.declared.texts.Style.{Style}
use Rattle.bplint_lines.specs.OutputLines.{face_line}
use Rattle.bplint_engine.specs.declared.members.Members.TheVariants.{Dict}
use Rattle.bplint_engine.specs.declared.walk.Keys.TheVariants.{Shown}
use Rattle.bplint_engine.specs.declared.walk.Manner.{Manner}
use Rattle.bplint_engine.specs.declared.walk.Named.{Named}
use Rattle.bplint_engine.specs.declared.walk.Opened.{Opened}
use Rattle.bplint_engine.specs.declared.walk.Row.{Row}
use Rattle.bplint_engine.specs.declared.walk.Walk.{Walk}
use Rattle.bplint_engine.specs.Ls.{HasMembers, IsHeadIn, named_line}
use Rattle.bplint_engine.specs.Names.{IsNameIn, name_in}
use Rattle.bplint_engine.specs.Tree.{named_members, tree_lines}

-- the container can be read under the frame and has more members, and its name is in these bytes
pub record IsOpen (F : Frame) (names : List ℕ) (o : Opened) : Type 0 where
  pub head : IsSafeHead F o.head
  pub few : o.members ≡ Dict → 2 * o.count < 2 ^ 64
  pub within : o.next < o.count
  pub name : IsNameIn names o.at.name

-- so can all containers of a stack, the innermost first: each outer name ends no later than the one inside it
abbrev pub AreOpen : Frame → List ℕ → List Opened → Type 0
AreOpen F names [] = ⊤
AreOpen F names (o ∷ os) = IsOpen F names o × AreOpen F (take o.at.name.«end» names) os

-- the call changed the names alone
pub record IsKept (old new : Walk) : Type 0 where
  pub stack : new.stack.items ≡ old.stack.items
  pub manner : new.manner ≡ old.manner
  pub first : new.first ≡ old.first
  pub room : new.room ≡ old.room

-- the containers of the walk can be read, and the name of the row that it begins with is in its bytes
pub record IsReady (F : Frame) (walk : Walk) : Type 0 where
  pub stack : AreOpen F walk.names (reverse walk.stack.items)
  pub name : IfSome walk.first (λ row. IsNameIn walk.names row.name)

-- how many rows the walk may still give
abbrev pub first_rows : Option Row → ℕ
first_rows None = 0
first_rows (Some row) = 1

abbrev pub most_rows : Walk → ℕ
most_rows walk = walk.room + first_rows walk.first

-- rows come in the order of the file, with names that have keys as lines in this style show them
abbrev pub IsInOrder : Style → Manner → Type 0
IsInOrder style manner = (manner.keys ≡ Shown style) × (manner.sorted ≡ false)

-- the container behind its next member
abbrev pub behind_next : Opened → Opened
behind_next o = record { head = o.head; members = o.members; count = o.count; next = o.next + 1; at = o.at }

-- the container is on the stack again, unless that was its last member
abbrev pub IsPutBack : Opened → List Opened → List Opened → Type 0
IsPutBack o old new = ((o.next + 1 ≡ o.count) × (new ≡ old)) ⊎ ((o.next + 1 < o.count) × (new ≡ old ++ behind_next o ∷ []))

module _ (style : Style) where
  -- the line of a row whose name is in these bytes
  abbrev pub row_line : List ℕ → Row → List ℕ
  row_line names row = name_in names row.name ++ codes "\t" ++ face_line style row.shown ++ codes "\n"

  -- the lines of at most one row
  abbrev pub row_lines : List ℕ → Option Row → List (List ℕ)
  row_lines names None = []
  row_lines names (Some row) = row_line names row ∷ []

  module _ (deep : Bool) where
    -- the lines of a value, and of everything inside it if the walk is deep
    abbrev pub lines_of : List ℕ → Value → List (List ℕ)
    lines_of name w = if deep then tree_lines style name w else named_line style name w ∷ []

    -- the lines of these members
    abbrev pub lines_of_all : List (List ℕ × Value) → List (List ℕ)
    lines_of_all ms = flat_map (λ m. lines_of m.0 m.1) ms

    -- the lines of all members of a value
    abbrev pub lines_inside : List ℕ → Value → List (List ℕ)
    lines_inside name w = lines_of_all (named_members style name w)

    -- the lines of a walk: if it is not deep, a container has none
    abbrev pub walked_lines : List ℕ → Value → List (List ℕ)
    walked_lines name (leaf l) = named_line style name (leaf l) ∷ []
    walked_lines name w = if deep then tree_lines style name w else lines_inside name w

    module _ (f : List ℕ) (F : Frame) (heights : List ℕ) where
      -- `left` are the lines of the members that a container with this name still has
      abbrev pub OwnLinesLeft : List ℕ → Opened → List (List ℕ) → Type 0
      OwnLinesLeft name o left = (w : Value) × IsHeadIn f F heights o.head w × HasMembers o.members o.count w
          × (left ≡ lines_of_all (drop o.next (named_members style name w)))

      -- `left` are the lines of the members that all containers of the stack still have, the innermost first
      abbrev pub LinesLeft : List ℕ → List Opened → List (List ℕ) → Type 0
      LinesLeft names [] left = left ≡ []
      LinesLeft names (o ∷ os) left = (own outer : List (List ℕ)) × OwnLinesLeft (name_in names o.at.name) o own
          × LinesLeft (take o.at.name.«end» names) os outer × (left ≡ own ++ outer)

    module _ (checked : CheckedFile) where
      -- the same in a checked file
      abbrev pub OwnLinesLeftIn : List ℕ → Opened → List (List ℕ) → Type 0
      OwnLinesLeftIn = OwnLinesLeft checked.source.octets checked.frame checked.certificate.heights

      abbrev pub LinesLeftIn : List ℕ → List Opened → List (List ℕ) → Type 0
      LinesLeftIn = LinesLeft checked.source.octets checked.frame checked.certificate.heights

  module _ (f : List ℕ) (F : Frame) (heights : List ℕ) where
    -- `left` are the lines of all rows that the walk still has to give
    pub record RowsLeft (walk : Walk) (left : List (List ℕ)) : Type 0 where
      pub order : IsInOrder style walk.manner
      pub rest : List (List ℕ)
      pub stands : LinesLeft walk.manner.deep f F heights walk.names (reverse walk.stack.items) rest
      pub few : length rest ≤ walk.room
      pub is : left ≡ row_lines walk.names walk.first ++ rest

  -- the same in a checked file
  abbrev pub RowsLeftIn : CheckedFile → Walk → List (List ℕ) → Type 0
  RowsLeftIn checked = RowsLeft checked.source.octets checked.frame checked.certificate.heights

  -- the node holds member i of the value with this name, and has the name of that member
  abbrev pub IsMemberAt : CheckedFile → Value → List ℕ → ℕ → List ℕ → Named → Type 0
  IsMemberAt checked w name i names at = (m : Value) × (slice_get (named_members style name w) i ≡ Some (name_in names at.name, m))
      × IsHeld checked at.node.object.0 m
