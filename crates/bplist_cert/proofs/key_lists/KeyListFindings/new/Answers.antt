use Rattle.bplist_cert.proofs.key_lists.KeyListFindings.new.Goals as goal

pub returns : goal.returns
returns c = λ f F. (c.new.ensures f F, c.new-2.ensures f)
