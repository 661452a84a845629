use Rattle.std.proofs.Common.{◌≡◌, ◌≤◌, ◌*◌, ◌^◌, All, take, length}
use Rattle.event_costs.specs.Costs.{event_kinds}
use Rattle.cg_format.specs.Sums.{sum_of_lines}
use Rattle.cg_format.proofs.sums.sum_of_lines.Given as goal

abbrev pub invariant-lines : goal.invariant-lines
invariant-lines g l = record {
  sum : l.sum ≡ sum_of_lines (take l.row-index l.lines);
  bound : All (λ n. n ≤ l.row-index * 2 ^ 64) l.sum;
  whole : length l.sum ≡ event_kinds;
}
