use Rattle.std.proofs.Common.{◌≡◌, ap, ◌∙◌, arith}
use Rattle.guest_mem.specs.Memory.{memory_of, page_count}
use Rattle.guest_load.specs.inner.Stages.{table_cell, blank_cell}
use Rattle.guest_load.proofs.SegmentLemmas.{table-blank, blank_pages}
use Rattle.guest_load.proofs.segments.map_segments.Goals as goal

-- the memory of the table is that of the segments' pages
same : (c : goal.After-drop-table)
    → memory_of (table_cell c.deref.result.now) ≡ memory_of (blank_cell c.args.segments.now)
same c = ap (λ table. memory_of (table_cell table)) c.deref.ensures.value
    ∙ table-blank c.in_ok-table.table.items c.args.segments.now c.in_ok-table.ensures.table

pub returns-clause-memory : goal.returns-clause-memory
returns-clause-memory c = rw (← same c) c.map_table.ensures.memory

pub returns-clause-full : goal.returns-clause-full
returns-clause-full c refused =
    omega (arith, c.map_table.ensures.full refused, ap page_count (same c), blank_pages c.args.segments.now)
