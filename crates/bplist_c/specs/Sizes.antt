-- What C is given of the size of a value. Source: profile.
use Rattle.std.specs.Prelude.{ℕ}
use Rattle.bplist_cursor.specs.declared.sizes.Form.{Form}
use Rattle.bplist_cursor.specs.declared.sizes.Form.TheVariants.{NoForm, Length}
use Rattle.bplist_c.specs.declared.sizes.BplistSizes.{BplistSizes}

-- this number of nodes and this form, as C is given them
abbrev pub sizes_by : ℕ → Form → BplistSizes
sizes_by nodes NoForm = record { nodes = nodes; text = 0; has_text = 0 }
sizes_by nodes (Length length) = record { nodes = nodes; text = length; has_text = 1 }
