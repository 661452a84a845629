use Rattle.cg_format.proofs.heading.put_summary.Goals as goal

pub returns : goal.returns
returns c m before wrote =
    let events = c.in_ok-put_names.ensures m before wrote in
    simp (c.event_names_shown.ensures, c.shown_sums.ensures) at (c.put_sums.ensures m _ events)
