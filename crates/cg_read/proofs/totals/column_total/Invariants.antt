use Rattle.std.proofs.Common.{◌≡◌, ◌<◌, ◌^◌, take}
use Rattle.cg_read.specs.Totals.{column_sum}
use Rattle.cg_read.proofs.totals.column_total.Given as goal

abbrev pub invariant-rows : goal.invariant-rows
invariant-rows l = record { sum : l.total ≡ column_sum (take l.row-index l.rows) l.place; fits : l.total < 2 ^ 64 }
