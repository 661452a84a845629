use Rattle.addr_rows.proofs.writing.put_heading.Goals as goal

pub returns : goal.returns
returns c m before wrote =
    let identity = c.in_ok-put_identity.ensures m before wrote in
    let description = c.in_ok-put_description.ensures m _ identity in
    c.put_summary.ensures m _ (c.in_ok-put_line.ensures m _ description)
