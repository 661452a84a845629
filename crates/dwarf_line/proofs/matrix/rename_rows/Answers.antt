use Rattle.std.proofs.Common.{◌<◌, length, arith}
use Rattle.dwarf_line.proofs.Naming.{rows_next}
use Rattle.dwarf_line.proofs.matrix.rename_rows.Goals as goal

pub rows-preserved : goal.rows-preserved
rows-preserved c =
    let within : c.rows.i < length c.args.rows.now = omega (arith, c.rows-test.true) in
    rows_next c.args.numbers.now c.args.rows.now c.rows.rows c.rows.i (record { addr = 0; file = 0; line = 0 }) within
    c.rows.invariant
