-- What the options of a command line ask for. Source: profile.
use Rattle.std.specs.Prelude.{◌≡◌, ◌⊎◌, ℕ, List, codes, Bool, true, false, Some, ⊤}
use Rattle.std.specs.Str.{bytes_eq}
use Rattle.clap.specs.Matches.{found_of, one_text}
use Rattle.clap.specs.declared.parser.matches.ArgMatches.{ArgMatches}
use Rattle.bplint_engine.specs.declared.listing.Depth.{Depth}
use Rattle.bplint_engine.specs.declared.listing.Depth.TheVariants as depths
use Rattle.bplint_lines.specs.declared.texts.Style.{Style}
use Rattle.bplint_lines.specs.declared.texts.Style.TheVariants.{OldStyle, Utf8}
use Rattle.bplint.specs.declared.args.Ask.{Ask}
use Rattle.bplint.specs.declared.args.Ask.TheVariants as asks

module _ (m : ArgMatches) where
  -- true if the flag with this name was given, and false if it was not; `clap` keeps one of two texts for it
  abbrev pub IsFlag : List ℕ → Bool → Type 0
  IsFlag name given = (one_text (found_of m) name ≡ Some (codes "true") → given ≡ true)
      × (one_text (found_of m) name ≡ Some (codes "false") → given ≡ false)

  -- how texts are written
  abbrev pub IsStyle : Style → Type 0
  IsStyle Utf8 = IsFlag (codes "utf8") true
  IsStyle OldStyle = IsFlag (codes "utf8") false

  -- what `show` asks
  abbrev pub IsShown : Ask → Type 0
  IsShown (asks.Raw path) = IsFlag (codes "raw") true
  IsShown (asks.Text path limit) = IsFlag (codes "text") true × IsFlag (codes "raw") false
  IsShown (asks.Show paths style) = IsStyle style × IsFlag (codes "text") false × IsFlag (codes "raw") false
  IsShown (asks.Readable paths) = IsFlag (codes "text") false × IsFlag (codes "raw") false
  IsShown _ = ⊥

  -- whether `ls` lists everything inside the value
  abbrev pub IsDepth : Depth → Type 0
  IsDepth (depths.All limit) = IsFlag (codes "recursive") true ⊎ IsFlag (codes "tree") true
  IsDepth depths.Members = IsFlag (codes "recursive") false

  -- what `ls` asks; its other forms are tested
  abbrev pub IsListed : Ask → Type 0
  IsListed (asks.List path style) = IsDepth depths.Members
  IsListed (asks.Tree branch) = IsDepth (depths.All branch.limit)
  IsListed (asks.Rows listed) = ⊤
  IsListed _ = ⊥

  -- what the subcommand with this name asks, as far as its flags decide it; which PATH and LIMIT it has is tested
  abbrev pub IsAskOf : List ℕ → Ask → Type 0
  IsAskOf name asks.Lint = ⊥
  IsAskOf name (asks.Certify sorted) = (bytes_eq name (codes "certify") ≡ true) × IsFlag (codes "sorted") sorted
  IsAskOf name asks.Check = bytes_eq name (codes "check") ≡ true
  IsAskOf name (asks.Get paths) = bytes_eq name (codes "get") ≡ true
  IsAskOf name (asks.Print path limit) = bytes_eq name (codes "print") ≡ true
  IsAskOf name (asks.Map paths) = (bytes_eq name (codes "map") ≡ true) × IsFlag (codes "paths") paths
  IsAskOf name asks.Textconv = (bytes_eq name (codes "certify") ≡ false) × (bytes_eq name (codes "check") ≡ false)
      × (bytes_eq name (codes "get") ≡ false) × (bytes_eq name (codes "print") ≡ false)
      × (bytes_eq name (codes "show") ≡ false) × (bytes_eq name (codes "ls") ≡ false)
      × (bytes_eq name (codes "map") ≡ false)
  IsAskOf name ask = ((bytes_eq name (codes "show") ≡ true) × IsShown ask)
      ⊎ ((bytes_eq name (codes "ls") ≡ true) × IsListed ask)
