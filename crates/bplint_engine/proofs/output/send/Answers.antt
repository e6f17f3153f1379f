use Rattle.bplint_engine.proofs.SentTexts.{all_sent}
use Rattle.bplint_engine.proofs.output.send.Goals as goal

pub returns : goal.returns
returns g c =
    all_sent _ _ _ _ _ _ _ _ c.new-sink.ensures c.in_ok-put.ensures.taken c.flush.ensures.empty c.flush.ensures.taken c.flush.ensures.part
