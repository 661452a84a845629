use Rattle.std.proofs.Common.{◌≡◌, ℕ, get_or, sum_by, take}
use Rattle.event_costs.specs.Costs.{IsWhole}
use Rattle.wait_report.specs.Texts.{sum_of_rows}
use Rattle.wait_report.proofs.writing.sum_of_rows.Given as goal

abbrev pub invariant-rows : goal.invariant-rows
invariant-rows l = record {
  sum : l.sum ≡ sum_of_rows (take l.row-index l.rows);
  whole : IsWhole l.sum;
  numbers : (kind : ℕ) → get_or l.sum kind 0 ≡ sum_by (λ row. get_or row.cost kind 0) (take l.row-index l.rows);
}
