-- The rows that a watch has of a thread, and what may be told of it and asked of it.
use Rattle.std.specs.Prelude.{ℕ, List, None, Option, Some, if◌then◌else◌}
use Rattle.event_costs.specs.declared.event.Event.{Event}
use Rattle.event_costs.specs.declared.numbers.ThreadNo.{ThreadNo}
use Rattle.sym_map.specs.SymbolMap.{IsSound, SymbolMap}
use Rattle.ctx_rows.specs.Folding.{plain}
use Rattle.ctx_rows.specs.States as contexts
use Rattle.ctx_rows.specs.Telling as told
use Rattle.addr_rows.specs.EventRows.{located_rows}
use Rattle.addr_rows.specs.Known.{AreKnown}
use Rattle.addr_rows.specs.Rows.{AddrListed}
use Rattle.addr_rows.specs.States.{AddrState}

-- The rows of a thread since its last cut, with the places of their addresses.
unfoldable pub rows_in : SymbolMap → contexts.CtxState → ThreadNo → AddrListed
rows_in m s thread = located_rows m (plain (told.rows_in s thread))

-- the rows of a thread that was made ready once
abbrev pub rows_if : Option SymbolMap → contexts.CtxState → ThreadNo → Option AddrListed
rows_if None s thread = None
rows_if (Some over) s thread = if contexts.knows s thread then Some (rows_in over s thread) else None

abbrev pub thread_rows : AddrState → ThreadNo → Option AddrListed
thread_rows w thread = rows_if w.first_syms w.watched thread

-- the thread was made ready once
abbrev pub IsThere : Option AddrListed → Type 0
IsThere None = ⊥
IsThere (Some rows) = Unit {0}

-- there is room for a step of the thread
abbrev pub HasRoom : AddrState → ThreadNo → Type 0
HasRoom w thread = told.HasRoom w.watched thread

-- A step may be told: the thread was made ready and hasn't ended, and the step can be counted.
abbrev pub CanSeeWith : Option SymbolMap → contexts.CtxState → Event → List ℕ → Type 0
CanSeeWith None s e cost = ⊥
CanSeeWith (Some over) s e cost = told.CanSee s e cost

abbrev pub CanSee : AddrState → Event → List ℕ → Type 0
CanSee w e cost = CanSeeWith w.first_syms w.watched e cost

-- A part may be written of a thread that was made ready once, with a map that has all functions and files of its rows.
-- Numbers past those of a map come from maps alone that aren't sound.
abbrev pub CanWrite : SymbolMap → Option AddrListed → Type 0
CanWrite m None = ⊥
CanWrite m (Some rows) = IsSound m → AreKnown m rows
