use Rattle.cg_read.proofs.reader.Reader.finish.Goals as goal

pub with_rows-requires : goal.with_rows-requires
with_rows-requires c =
    rw (c.take_all-self_rows.ensures, c.take_all-call_rows.ensures)
    (c.in_ok-texts.ensures.says c.requires.0 c.requires.1).profile

pub returns : goal.returns
returns c = λ before k is_last. (
  rw (c.with_rows.ensures, c.take_all-self_rows.ensures, c.take_all-call_rows.ensures)
      (c.in_ok-texts.ensures.says before k),
  c.in_ok-texts.ensures.end before k is_last,
)
