-- How many references of an object are to keys. Source: the format comment of CFBinaryPList.c.
use Rattle.std.specs.Prelude.{ℕ}
use Rattle.bplist_objects.specs.declared.head.Kind.{Kind}
use Rattle.bplist_objects.specs.declared.head.Kind.TheVariants as kinds

-- the number of keys of an object with this kind and count
abbrev pub key_count : Kind → ℕ → ℕ
key_count kinds.Dict count = count
key_count _ count = 0
