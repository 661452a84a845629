use Rattle.std.proofs.Common.{◌∙◌, ap, sym, length}
use Rattle.cg_read.specs.Addresses.{without_addresses}
use Rattle.cg_read.proofs.AddressLemmas.{self_addressed, call_addressed, self_count, call_count}
use Rattle.cg_read.proofs.addr_reader.AddrReader.finish.Goals as goal

pub new-requires-clause-self_rows : goal.new-requires-clause-self_rows
new-requires-clause-self_rows c =
    let before = c.requires.0 in
    let lines = c.in_ok-lines.ensures (without_addresses before) c.requires.1.lines c.requires.2 in
    rw c.take_all-self_rows.ensures
    (ap length c.requires.1.self_rows ∙ self_addressed before
    ∙ sym (self_count (without_addresses before) c.in_ok-lines.lines lines.0))

pub new-requires-clause-call_rows : goal.new-requires-clause-call_rows
new-requires-clause-call_rows c =
    let before = c.requires.0 in
    let lines = c.in_ok-lines.ensures (without_addresses before) c.requires.1.lines c.requires.2 in
    rw c.take_all-call_rows.ensures
    (ap length c.requires.1.call_rows ∙ call_addressed before
    ∙ sym (call_count (without_addresses before) c.in_ok-lines.lines lines.0))
