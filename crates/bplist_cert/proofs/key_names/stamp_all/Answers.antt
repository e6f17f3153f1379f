use Rattle.std.proofs.Common.{◌&&◌, Bool, true, false, IsTrue, refl}
use Rattle.std.proofs.lemmas.Bool.{false≢true}

both : (a b : Bool) → IsTrue (a && b) → IsTrue a × IsTrue b
both true b e = (refl, e)
both false b e = absurd (false≢true e)
