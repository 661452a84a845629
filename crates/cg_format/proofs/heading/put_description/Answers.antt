use Rattle.cg_format.proofs.heading.put_description.Goals as goal

pub returns : goal.returns
returns c m before wrote =
    let i1 = c.in_ok-put_line.ensures m before wrote in
    let d1 = c.in_ok-put_line-2.ensures m _ i1 in
    let ll = c.in_ok-put_line-3.ensures m _ d1 in
    simp (
      c.as_bytes.ensures,
      c.as_bytes-2.ensures,
      c.as_bytes-3.ensures,
      c.as_bytes-4.ensures,
      c.in_ok-i1.ensures,
      c.in_ok-d1.ensures,
      c.in_ok-ll.ensures,
      c.in_ok-trigger.ensures,
    ) at (c.put_line-4.ensures m _ ll)
