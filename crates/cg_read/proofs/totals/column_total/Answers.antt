use Rattle.std.proofs.Common.{arith}
use Rattle.cg_read.proofs.TotalLemmas.{too_much, all_added_up}
use Rattle.cg_read.proofs.totals.column_total.Goals as goal

pub returns-in_default : goal.returns-in_default
returns-in_default c =
    too_much c.args.rows.now c.rows.row-index c.args.place c.row-item.result c.rows-test.true c.row-item.is
    (omega (arith, c.in_default.ensures, c.rows.invariant.sum, c.at.ensures))

pub returns : goal.returns
returns c =
    all_added_up c.args.rows.now c.rows.row-index c.args.place c.rows.total c.rows-test.false c.rows.invariant.sum
    c.rows.invariant.fits
