use Rattle.cg_format.proofs.heading.put_events.Goals as goal

pub returns : goal.returns
returns c m before wrote = c.put_summary.ensures m _ (c.in_ok-put_line.ensures m before wrote)
