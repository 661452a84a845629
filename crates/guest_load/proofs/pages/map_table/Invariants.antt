use Rattle.std.proofs.Common.{◌≡◌, ◌-◌, ◌≤◌, length, take}
use Rattle.guest_mem.specs.Memory.{memory_of}
use Rattle.guest_load.specs.inner.Stages.{table_cell}
use Rattle.guest_load.proofs.pages.map_table.Given as goal

abbrev pub invariant-runs : goal.invariant-runs
invariant-runs l = record {
  within : l.page ≤ length l.table;
  memory : l.mem ≡ memory_of (table_cell (take l.page l.table));
}

abbrev pub decreases-runs : goal.decreases-runs
decreases-runs l = length l.table - l.page
