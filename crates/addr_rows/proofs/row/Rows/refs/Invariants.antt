use Rattle.std.proofs.Common.{◌≡◌, map}
use Rattle.std.specs.List.{range_with_len}
use Rattle.addr_rows.specs.Texts.{all_rows}
use Rattle.addr_rows.specs.inner.Refs.{listed, ref_to}
use Rattle.addr_rows.proofs.row.Rows.refs.Given as goal

abbrev pub invariant-rows : goal.invariant-rows
invariant-rows l = l.refs.items ≡ map (ref_to (all_rows (listed l.syms l.self))) (range_with_len 0 l.index)
