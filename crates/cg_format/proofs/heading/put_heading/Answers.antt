use Rattle.cg_format.proofs.heading.put_heading.Goals as goal

pub returns : goal.returns
returns c m before wrote =
    c.put_events.ensures m _ (c.in_ok-put_description.ensures m _ (c.in_ok-put_identity.ensures m before wrote))
