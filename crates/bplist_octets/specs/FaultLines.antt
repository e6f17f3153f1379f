-- The printed lines of failed reads and writes, without line feeds. Source: profile.
use Rattle.std.specs.Prelude.{ℕ, List, ◌++◌, codes}
use Rattle.std.specs.Fmt.{decimal}
use Rattle.bplist_octets.specs.declared.source.ReadFault.{ReadFault}
use Rattle.bplist_octets.specs.declared.source.ReadFault.TheVariants.{Device, Ended, TooManyTurns}

-- the line of a failed read
abbrev pub read_line : ReadFault → List ℕ
read_line Device = codes "read Device"
read_line Ended = codes "read Ended"
read_line TooManyTurns = codes "read TooManyTurns"

-- the line of a failed write, with the number of bytes that were written
abbrev pub write_line : ℕ → List ℕ
write_line sent = codes "write " ++ decimal sent
