use Rattle.std.proofs.Common.{Some, ap, unwrap_or, refl}
use Rattle.cg_read.proofs.TextLemmas.{closed_opens}
use Rattle.cg_read.proofs.reader.Reader.command_line.Goals as goal

pub returns : goal.returns
returns c = λ before k. record {
  rows = k.rows;
  command = rw (c.unwrap_or.ensures, c.take.ensures.value, c.again.ensures) (ap (λ o. Some (unwrap_or o c.args.text.now)) k.command);
  ids = k.ids;
  current = k.current;
  position = refl;
  callee = k.callee;
  open_call = closed_opens c.args.self.now.texts c.args.self.now.open_call c.requires;
}
