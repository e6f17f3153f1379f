-- Names that follow one another in a buffer. Source: profile.
use Rattle.std.specs.Prelude.{◌≡◌, ℕ, ◌≤◌, List, length, take, drop}
use Rattle.bplint_engine.specs.declared.names.Name.{Name}

-- the range of the name is in these bytes
abbrev pub IsNameIn : List ℕ → Name → Type 0
IsNameIn text name = (name.start ≤ name.«end») × (name.«end» ≤ length text)

-- the bytes of the name
abbrev pub name_in : List ℕ → Name → List ℕ
name_in text name = drop name.start (take name.«end» text)

-- the new bytes end with a further name, and agree with the old ones up to the end of the name before it
pub record Extends (old new : List ℕ) (behind name : Name) : Type 0 where
  pub same : take behind.«end» new ≡ take behind.«end» old
  pub order : name.start ≤ name.«end»
  pub last : name.«end» ≡ length new
  pub further : behind.«end» ≤ name.«end»
