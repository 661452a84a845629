use Rattle.std.specs.Option.{option_map}
use Rattle.guest_mem.specs.inner.Page.{protected_page}
use Rattle.guest_mem.specs.inner.Table.{AltersRange}
use Rattle.guest_mem.specs.inner.Directory.{page_at}
use Rattle.guest_mem.proofs.directory.Directory.protect_range.Given as goal

abbrev pub invariant-loop-step : goal.invariant-loop-step
invariant-loop-step l =
    AltersRange (page_at l.initial.self) (page_at l.self) l.first l.step (option_map (protected_page l.permission))
