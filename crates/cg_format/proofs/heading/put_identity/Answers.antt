use Rattle.cg_format.proofs.heading.put_identity.Goals as goal

pub returns : goal.returns
returns c m before wrote =
    let format = c.in_ok-put_line.ensures m before wrote in
    let version = c.in_ok-put_line-2.ensures m _ format in
    let creator = c.in_ok-put_line-3.ensures m _ version in
    let pid = c.in_ok-put_line-4.ensures m _ creator in
    let thread = c.in_ok-put_number.ensures m _ pid in
    let part = c.in_ok-put_number-2.ensures m _ thread in
    simp (c.as_bytes-2.ensures, c.in_ok-command.ensures, c.as_bytes.ensures) at (c.put_line-5.ensures m _ part)
