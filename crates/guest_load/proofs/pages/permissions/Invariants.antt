use Rattle.std.proofs.Common.{◌≡◌, length, take}
use Rattle.guest_load.specs.inner.Stages.{page_plan, IsTable}
use Rattle.guest_load.proofs.pages.permissions.Given as goal

abbrev pub invariant-segments : goal.invariant-segments
invariant-segments l = record {
  table : IsTable l.table.items (page_plan (take l.segment-index l.segments));
  length : length l.table.items ≡ l.fn.pages;
}
