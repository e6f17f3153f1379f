use Rattle.std.proofs.Common.{refl, inl, inr}
use Rattle.bplist_objects.proofs.head.kind_name.Goals as goal

pub returns-in-Null : goal.returns-in-Null
returns-in-Null c = rw c.in-Null.is refl

pub returns-in-False : goal.returns-in-False
returns-in-False c = rw c.in-False.is refl

pub returns-in-True : goal.returns-in-True
returns-in-True c = rw c.in-True.is refl

pub returns-in-Int : goal.returns-in-Int
returns-in-Int c = rw c.in-Int.is refl

pub returns-in-Real : goal.returns-in-Real
returns-in-Real c = rw c.in-Real.is refl

pub returns-in-Date : goal.returns-in-Date
returns-in-Date c = rw c.in-Date.is refl

pub returns-in-Bytes : goal.returns-in-Bytes
returns-in-Bytes c = rw c.in-Bytes.is refl

pub returns-in-Ascii : goal.returns-in-Ascii
returns-in-Ascii c = elim c.in-Ascii.is [ inl is ↦ rw is refl | inr is ↦ rw is refl ]

pub returns-in-Uid : goal.returns-in-Uid
returns-in-Uid c = rw c.in-Uid.is refl

pub returns-in-Array : goal.returns-in-Array
returns-in-Array c = rw c.in-Array.is refl

pub returns-in-Set : goal.returns-in-Set
returns-in-Set c = rw c.in-Set.is refl

pub returns-in-Dict : goal.returns-in-Dict
returns-in-Dict c = rw c.in-Dict.is refl
