-- What a walk still has to give, step by step.
use Rattle.std.proofs.Common.{◌≡◌, ◌≤◌, ◌<◌, ◌+◌, ◌++◌, ◌∷◌, [], ◌∙◌, ℕ, zero, suc, List, drop, length, take, Some, Result, Ok, Err, Bool, true, false, inl, inr, ap, append_assoc, append-nil, arith, codes, None, refl, subst, sym}
use Rattle.std.specs.Prelude.{IfOk, IfSome, MatchOption, OnOk, Option, reverse, slice_get}
use Rattle.std.proofs.lemmas.List.{drop_all, length-append, length-take, reverse-append, take_all, take-take}
use Rattle.bplist_objects.specs.declared.frame.Frame.{Frame}
use Rattle.bplist_objects.specs.Value.{Value, leaf, array, set, dict}
use Rattle.bplist_cert.specs.CheckedFile.{CheckedFile}
use Rattle.bplist_cursor.specs.declared.faults.CursorFault.{CursorFault}
use Rattle.bplist_cursor.specs.Causes.{GivesCursor}
use Rattle.bplist_cursor.specs.Replies.{face}
use Rattle.bplint_lines.specs.declared.texts.Style.{Style}
use Rattle.bplint_lines.specs.OutputLines.{face_line}
use Rattle.bplint_engine.specs.declared.walk.Opened.{Opened}
use Rattle.bplint_engine.specs.declared.walk.Manner.{Manner}
use Rattle.bplint_engine.specs.declared.walk.Row.{Row}
use Rattle.bplint_engine.specs.declared.walk.Walk.{Walk}
use Rattle.bplint_engine.specs.Ls.{HasCount, HasMembers, IsHeadFor, IsLeaf, named_line}
use Rattle.bplint_engine.specs.Names.{IsNameIn, name_in}
use Rattle.bplint_engine.specs.Tree.{named_members, tree_lines}
use Rattle.bplint_engine.specs.Walks.{AreOpen, IsInOrder, IsPutBack, IsReady, LinesLeftIn, OwnLinesLeftIn, RowsLeftIn, behind_next, first_rows, lines_inside, lines_of, lines_of_all, most_rows, row_line, row_lines, walked_lines}
use Rattle.bplint_engine.proofs.TreeLines.{drop_at, length-counted, length-named, tree_by_members}

-- a first part of a first part
front : (m n : ℕ) (xs : List ℕ) → m ≤ length (take n xs) → take m (take n xs) ≡ take m xs
front m n xs within = let long = length-take n xs in take-take m n xs (omega (arith, within, long))

-- ---- containers that can be read
-- containers whose names are in a first part of these bytes
pub open_in_all : (F : Frame) (n : ℕ) (names : List ℕ) (os : List Opened) → AreOpen F (take n names) os → AreOpen F names os
open_in_all F n names [] are = tt
open_in_all F n names (o ∷ os) (first, rest) =
    let within = first.name.1 in
    let long = length-take n names in (
      record { head = first.head; few = first.few; within = first.within; name = (first.name.0, omega (arith, within, long)) },
      subst (λ t. AreOpen F t os) (front o.at.name.«end» n names within) rest,
    )

-- the next member of a container has its name behind that of the container
pub open_behind : (F : Frame) (names names' : List ℕ) (o : Opened) (old new : List Opened) → take o.at.name.«end» names' ≡ take o.at.name.«end» names
    → o.at.name.«end» ≤ length names' → AreOpen F names (o ∷ reverse old) → IsPutBack o old new → AreOpen F names' (reverse new)
open_behind F names names' o old new same within (first, rest) (inl (last, is)) =
    subst (AreOpen F names') (sym (ap reverse is)) (open_in_all F o.at.name.«end» names' (reverse old) (subst (λ t. AreOpen F t (reverse old)) (sym same) rest))
open_behind F names names' o old new same within (first, rest) (inr (more, is)) =
    subst (AreOpen F names') (sym (ap reverse is ∙ reverse-append old (behind_next o ∷ []))) (
      record { head = first.head; few = first.few; within = more; name = (first.name.0, within) },
      subst (λ t. AreOpen F t (reverse old)) (sym same) rest,
    )

-- ---- after the first row
-- the walk can go on
pub ready_behind : (F : Frame) (new : Walk) (r : Result (Option Row) CursorFault) → new.first ≡ None → OnOk r (AreOpen F new.names (reverse new.stack.items))
    → OnOk r (IsReady F new)
ready_behind F new (Ok found) gone are = record { stack = are; name = subst (λ f. IfSome f (λ row. IsNameIn new.names row.name)) (sym gone) tt }
ready_behind F new (Err fault) gone are = are

-- each row lowers the bound
pub falls_behind : (old new : Walk) (r : Result (Option Row) CursorFault) → new.first ≡ None → IfOk r (λ found. IfSome found (λ _. new.room + 1 ≡ old.room))
    → IfOk r (λ found. IfSome found (λ _. most_rows new < most_rows old))
falls_behind old new (Ok None) gone falls = falls
falls_behind old new (Ok (Some row)) gone falls = let none = ap first_rows gone in omega (arith, none, falls)
falls_behind old new (Err fault) gone falls = falls

module _ (style : Style) where
  -- ---- all lines of a walk
  -- a walk that is deep gives the tree
  pub walked_tree : (name : List ℕ) (w : Value) → walked_lines style true name w ≡ tree_lines style name w
  walked_tree name (leaf l) = refl
  walked_tree name (array vs) = refl
  walked_tree name (set vs) = refl
  walked_tree name (dict ps) = refl

  -- the line of the value comes first, if the walk is deep
  pub walked_deep : (name : List ℕ) (w : Value) → walked_lines style true name w ≡ named_line style name w ∷ lines_inside style true name w
  walked_deep name w = walked_tree name w ∙ tree_by_members style name w

  -- it is the only line of a leaf
  pub walked_leaf : (deep : Bool) (name : List ℕ) (w : Value) → IsLeaf w → walked_lines style deep name w ≡ named_line style name w ∷ lines_inside style deep name w
  walked_leaf deep name (leaf l) is = refl
  walked_leaf deep name _ is = absurd is

  -- otherwise a container has no line
  pub walked_members : (n : ℕ) (name : List ℕ) (w : Value) → HasCount n w → walked_lines style false name w ≡ lines_inside style false name w
  walked_members n name (leaf l) has = absurd has
  walked_members n name (array vs) has = refl
  walked_members n name (set vs) has = refl
  walked_members n name (dict ps) has = refl

  -- and its members have one each
  each_one : (ms : List (List ℕ × Value)) → length (lines_of_all style false ms) ≡ length ms
  each_one [] = refl
  each_one (m ∷ ms) = let rest = each_one ms in omega (arith, rest)

  pub walked_few : (n : ℕ) (name : List ℕ) (w : Value) → HasCount n w → length (lines_inside style false name w) ≡ n
  walked_few n name w has = each_one (named_members style name w) ∙ length-counted style n name w has

  -- the line of a row is that of the value that it shows
  pub row_named : (names name : List ℕ) (row : Row) (w : Value) → name_in names row.name ≡ name → row.shown ≡ face w
      → row_line style names row ≡ named_line style name w
  row_named names name row w same shown = ap (λ n. n ++ codes "\t" ++ face_line style row.shown ++ codes "\n") same
      ∙ ap (λ f. name ++ codes "\t" ++ face_line style f ++ codes "\n") shown ∙ simp append_assoc

  -- a value has at least one line
  line_some : (deep : Bool) (name : List ℕ) (w : Value) → 0 < length (lines_of style deep name w)
  line_some true name w = let long = ap length (tree_by_members style name w) in omega (arith, long)
  line_some false name w = omega arith

  -- the line of the row comes first, and then all lines inside the value
  pub next_deep : (deep : Bool) (name : List ℕ) (w : Value) (line : List ℕ) (rest left : List (List ℕ)) → deep ≡ true → line ≡ named_line style name w
      → left ≡ lines_of style deep name w ++ rest → left ≡ line ∷ (lines_inside style deep name w ++ rest)
  next_deep true name w line rest left is_deep same is =
      is ∙ ap (λ ls. ls ++ rest) (tree_by_members style name w) ∙ ap (λ l. l ∷ (lines_inside style true name w ++ rest)) (sym same)
  next_deep false name w line rest left is_deep same is = cc is_deep

  -- the line of the row is all
  pub next_flat : (deep : Bool) (name : List ℕ) (w : Value) (line : List ℕ) (rest left : List (List ℕ)) → deep ≡ false → line ≡ named_line style name w
      → left ≡ lines_of style deep name w ++ rest → left ≡ line ∷ rest
  next_flat true name w line rest left is_flat same is = cc is_flat
  next_flat false name w line rest left is_flat same is = is ∙ ap (λ l. l ∷ rest) (sym same)

  module _ (deep : Bool) where
    -- the next member's lines, and those of the members after it
    lines_next : (ms : List (List ℕ × Value)) (i : ℕ) (name : List ℕ) (m : Value) → slice_get ms i ≡ Some (name, m)
        → lines_of_all style deep (drop i ms) ≡ lines_of style deep name m ++ lines_of_all style deep (drop (i + 1) ms)
    lines_next ms i name m e = ap (lines_of_all style deep) (drop_at style ms i (name, m) e)

    -- there are no lines after the last member
    lines_end : (ms : List (List ℕ × Value)) (i : ℕ) → length ms ≤ i → lines_of_all style deep (drop i ms) ≡ []
    lines_end ms i past = ap (lines_of_all style deep) (drop_all i ms past)

    -- there are lines before
    lines_some : (ms : List (List ℕ × Value)) (i : ℕ) → i < length ms → 0 < length (lines_of_all style deep (drop i ms))
    lines_some [] i within = absurd (omega (arith, within))
    lines_some (m ∷ ms) zero within =
        let some = line_some deep m.0 m.1 in
        omega (arith, some, length-append (lines_of style deep m.0 m.1) (lines_of_all style deep ms))
    lines_some (m ∷ ms) (suc i) within = lines_some ms i (omega (arith, within))

    -- a leaf has no lines inside
    pub none_in_leaf : (name : List ℕ) (w : Value) → IsLeaf w → lines_inside style deep name w ≡ []
    none_in_leaf name (leaf l) is = refl
    none_in_leaf name _ is = absurd is

    module _ (checked : CheckedFile) where
      left_same : (names names' : List ℕ) (o : Opened) (os : List Opened) (left : List (List ℕ)) → take o.at.name.«end» names' ≡ take o.at.name.«end» names
          → LinesLeftIn style deep checked names (o ∷ os) left → LinesLeftIn style deep checked names' (o ∷ os) left
      left_same names names' o os left same (own, outer, opened, stack, is) = (
        own,
        outer,
        subst (λ t. OwnLinesLeftIn style deep checked (drop o.at.name.start t) o own) (sym same) opened,
        subst (λ t. LinesLeftIn style deep checked t os outer) (sym same) stack,
        is,
      )

      left_in_all : (F : Frame) (n : ℕ) (names : List ℕ) (os : List Opened) (left : List (List ℕ)) → AreOpen F (take n names) os
          → LinesLeftIn style deep checked (take n names) os left → LinesLeftIn style deep checked names os left
      left_in_all F n names [] left are is = is
      left_in_all F n names (o ∷ os) left (first, rest) is = left_same (take n names) names o os left (sym (front o.at.name.«end» n names first.name.1)) is

      -- a container on the stack has more lines
      pub left_some : (F : Frame) (names : List ℕ) (o : Opened) (os : List Opened) (left : List (List ℕ)) → AreOpen F names (o ∷ os)
          → LinesLeftIn style deep checked names (o ∷ os) left → 0 < length left
      left_some F names o os left (first, rest) (own, outer, (w, head, has, own_is), stack, all) =
          let count = length-named style o.members o.count (name_in names o.at.name) w has in
          let within = first.within in
          let some = lines_some (named_members style (name_in names o.at.name) w) o.next (omega (arith, count, within)) in
          let long = ap length all in
          let short = ap length own_is in
          omega (arith, some, long, short, length-append own outer)

      -- a container none of whose members had its row was pushed on the others
      pub left_pushed : (names : List ℕ) (o : Opened) (old new : List Opened) (w : Value) (left : List (List ℕ)) → new ≡ old ++ o ∷ [] → o.at.name.«end» ≡ length names
          → o.next ≡ 0 → IsHeadFor checked o.head w → HasMembers o.members o.count w → LinesLeftIn style deep checked names (reverse old) left
          → LinesLeftIn style deep checked names (reverse new) (lines_inside style deep (name_in names o.at.name) w ++ left)
      left_pushed names o old new w left is last none head has stands =
          let ms = named_members style (name_in names o.at.name) w in
          let own = lines_of_all style deep ms in
          subst (λ os. LinesLeftIn style deep checked names os (own ++ left)) (sym (ap reverse is ∙ reverse-append old (o ∷ []))) (
            own,
            left,
            (w, head, has, ap (λ i. lines_of_all style deep (drop i ms)) (sym none)),
            subst (λ t. LinesLeftIn style deep checked t (reverse old) left) (sym (take_all o.at.name.«end» names (omega (arith, last)))) stands,
            refl,
          )

      -- the next member's lines come first, and then everything after it
      pub left_behind : (F : Frame) (names names' : List ℕ) (o : Opened) (old new : List Opened) (own outer left : List (List ℕ)) (w : Value) (name : List ℕ) (m : Value)
          → AreOpen F names (o ∷ reverse old) → IsHeadFor checked o.head w → HasMembers o.members o.count w
          → own ≡ lines_of_all style deep (drop o.next (named_members style (name_in names o.at.name) w))
          → LinesLeftIn style deep checked (take o.at.name.«end» names) (reverse old) outer → left ≡ own ++ outer
          → slice_get (named_members style (name_in names o.at.name) w) o.next ≡ Some (name, m) → take o.at.name.«end» names' ≡ take o.at.name.«end» names
          → IsPutBack o old new → (rest : List (List ℕ)) × LinesLeftIn style deep checked names' (reverse new) rest × (left ≡ lines_of style deep name m ++ rest)
      left_behind F names names' o old new own outer left w name m are head has own_is stack all there same (inl (last, is)) =
          let ms = named_members style (name_in names o.at.name) w in
          let count = length-named style o.members o.count (name_in names o.at.name) w has in
          let only = lines_next ms o.next name m there ∙ ap (λ l. lines_of style deep name m ++ l) (lines_end ms (o.next + 1) (omega (arith, count, last))) ∙ append-nil (lines_of style deep name m) in (
            outer,
            subst (λ os. LinesLeftIn style deep checked names' os outer) (sym (ap reverse is)) (left_in_all F o.at.name.«end» names' (reverse old) outer
                (subst (λ t. AreOpen F t (reverse old)) (sym same) are.1) (subst (λ t. LinesLeftIn style deep checked t (reverse old) outer) (sym same) stack)),
            all ∙ ap (λ l. l ++ outer) (own_is ∙ only),
          )
      left_behind F names names' o old new own outer left w name m are head has own_is stack all there same (inr (more, is)) =
          let ms = named_members style (name_in names o.at.name) w in
          let behind = lines_of_all style deep (drop (o.next + 1) ms) in (
            behind ++ outer,
            subst (λ os. LinesLeftIn style deep checked names' os (behind ++ outer)) (sym (ap reverse is ∙ reverse-append old (behind_next o ∷ [])))
                (left_same names names' (behind_next o) (reverse old) (behind ++ outer) same (behind, outer, (w, head, has, refl), stack, refl)),
            all ∙ ap (λ l. l ++ outer) (own_is ∙ lines_next ms o.next name m there) ∙ append_assoc (lines_of style deep name m) behind outer,
          )

  -- ---- the rows of a walk
  module _ (checked : CheckedFile) where
    -- a walk that gives the row of the value first
    begins_first : (walk : Walk) (row : Row) (manner : Manner) (path : List ℕ) (w : Value) → IsInOrder style manner → walk.manner ≡ manner → walk.first ≡ Some row
        → row_line style walk.names row ≡ named_line style path w
        → LinesLeftIn style manner.deep checked walk.names (reverse walk.stack.items) (lines_inside style manner.deep path w ++ [])
        → walked_lines style manner.deep path w ≡ named_line style path w ∷ lines_inside style manner.deep path w → length (lines_inside style manner.deep path w) ≤ walk.room
        → RowsLeftIn style checked walk (walked_lines style manner.deep path w)
    begins_first walk row manner path w order same first line stands all few =
        let inside = lines_inside style manner.deep path w in
        record {
          order = subst (IsInOrder style) (sym same) order;
          rest = inside ++ [];
          stands = subst (λ m. LinesLeftIn style m.deep checked walk.names (reverse walk.stack.items) (inside ++ [])) (sym same) stands;
          few = omega (arith, few, length-append inside []);
          is = all ∙ ap (λ l. l ∷ inside) (sym line) ∙ ap (λ ls. row_line style walk.names row ∷ ls) (sym (append-nil inside)) ∙ ap (λ f. row_lines style walk.names f ++ (inside ++ [])) (sym first);
        }

    -- it has one if the walk is deep
    pub begins_deep : (walk : Walk) (row : Row) (manner : Manner) (path : List ℕ) (w : Value) → IsInOrder style manner → walk.manner ≡ manner → walk.first ≡ Some row
        → row_line style walk.names row ≡ named_line style path w
        → LinesLeftIn style manner.deep checked walk.names (reverse walk.stack.items) (lines_inside style manner.deep path w ++ [])
        → manner.deep ≡ true → (manner.deep ≡ true → length (walked_lines style true path w) ≤ walk.room + 1)
        → RowsLeftIn style checked walk (walked_lines style manner.deep path w)
    begins_deep walk row manner path w order same first line stands deep few =
        let all = ap (λ d. walked_lines style d path w) deep ∙ walked_deep path w ∙ ap (λ d. named_line style path w ∷ lines_inside style d path w) (sym deep) in
        let long = ap length all in
        let whole = ap (λ d. length (walked_lines style d path w)) deep in
        let small = few deep in
        begins_first walk row manner path w order same first line stands all (omega (arith, long, whole, small))

    -- so has a leaf
    pub begins_leaf : (walk : Walk) (row : Row) (manner : Manner) (path : List ℕ) (w : Value) → IsInOrder style manner → walk.manner ≡ manner → walk.first ≡ Some row
        → row_line style walk.names row ≡ named_line style path w
        → LinesLeftIn style manner.deep checked walk.names (reverse walk.stack.items) (lines_inside style manner.deep path w ++ [])
        → IsLeaf w → RowsLeftIn style checked walk (walked_lines style manner.deep path w)
    begins_leaf walk row manner path w order same first line stands is_leaf =
        let none = ap length (none_in_leaf manner.deep path w is_leaf) in
        begins_first walk row manner path w order same first line stands (walked_leaf manner.deep path w is_leaf) (omega (arith, none))

    -- otherwise a container has none
    pub begins_members : (walk : Walk) (manner : Manner) (path : List ℕ) (w : Value) → IsInOrder style manner → walk.manner ≡ manner → walk.first ≡ None
        → LinesLeftIn style manner.deep checked walk.names (reverse walk.stack.items) (lines_inside style manner.deep path w ++ [])
        → manner.deep ≡ false → HasCount walk.room w → RowsLeftIn style checked walk (walked_lines style manner.deep path w)
    begins_members walk manner path w order same first stands flat has =
        let inside = lines_inside style manner.deep path w in
        let all = ap (λ d. walked_lines style d path w) flat ∙ walked_members walk.room path w has ∙ ap (λ d. lines_inside style d path w) (sym flat) in
        let count = ap (λ d. length (lines_inside style d path w)) flat ∙ walked_few walk.room path w has in
        record {
          order = subst (IsInOrder style) (sym same) order;
          rest = inside ++ [];
          stands = subst (λ m. LinesLeftIn style m.deep checked walk.names (reverse walk.stack.items) (inside ++ [])) (sym same) stands;
          few = omega (arith, count, length-append inside []);
          is = all ∙ sym (append-nil inside) ∙ ap (λ f. row_lines style walk.names f ++ (inside ++ [])) (sym first);
        }

    -- after its first row a walk gives the rows of members
    pub next_gives : (old new : Walk) (left : List (List ℕ)) (r : Result (Option Row) CursorFault) → old.first ≡ None → new.first ≡ None → new.manner ≡ old.manner
        → IfOk r (λ found. IfSome found (λ _. new.room + 1 ≡ old.room)) → (p : RowsLeftIn style checked old left)
        → GivesCursor (λ found. MatchOption found (p.rest ≡ []) (λ row. (rest : List (List ℕ))
        × LinesLeftIn style old.manner.deep checked new.names (reverse new.stack.items) rest × (p.rest ≡ row_line style new.names row ∷ rest))) r
        → GivesCursor (λ found. MatchOption found (left ≡ []) (λ row. (rest : List (List ℕ)) × RowsLeftIn style checked new rest × (left ≡ row_line style new.names row ∷ rest))) r
    next_gives old new left (Ok None) none gone same falls p gives = p.is ∙ ap (λ f. row_lines style old.names f ++ p.rest) none ∙ gives
    next_gives old new left (Ok (Some row)) none gone same falls p (rest, stands, is) =
        let long = ap length is in
        let few = p.few in (
          rest,
          record {
            order = subst (IsInOrder style) (sym same) p.order;
            rest = rest;
            stands = subst (λ m. LinesLeftIn style m.deep checked new.names (reverse new.stack.items) rest) (sym same) stands;
            few = omega (arith, long, few, falls);
            is = ap (λ f. row_lines style new.names f ++ rest) (sym gone);
          },
          p.is ∙ ap (λ f. row_lines style old.names f ++ p.rest) none ∙ is,
        )
    next_gives old new left (Err fault) none gone same falls p gives = gives
