-- What a watch keeps that counts by address, and what each call makes of it: it is a watch by context over the map that
-- tells code by its addresses, by contexts of no callers, so that a context is a function.
use Rattle.std.specs.Prelude.{ℕ, List, None, Option, Some}
use Rattle.event_costs.specs.declared.event.Event.{Event}
use Rattle.event_costs.specs.declared.numbers.ThreadNo.{ThreadNo}
use Rattle.sym_map.specs.AddressMap.{address_map}
use Rattle.sym_map.specs.SymbolMap.{SymbolMap}
use Rattle.ctx_rows.specs.States as contexts

-- The map that the first thread was made ready with, and the watch by context.
pub record AddrState : Type 0 where
  pub first_syms : Option SymbolMap
  pub watched : contexts.CtxState

-- the map once a thread is made ready
abbrev pub first_map : SymbolMap → Option SymbolMap → SymbolMap
first_map m None = m
first_map m (Some over) = over

abbrev pub after_ready : AddrState → ThreadNo → ℕ → SymbolMap → AddrState
after_ready w thread pc m = record {
  first_syms = Some (first_map m w.first_syms);
  watched = contexts.after_ready w.watched thread pc (address_map (first_map m w.first_syms));
}

abbrev pub context_state_after : Option SymbolMap → contexts.CtxState → Event → List ℕ → contexts.CtxState
context_state_after None s e cost = s
context_state_after (Some over) s e cost = contexts.after_seen s e cost (address_map over)

abbrev pub after_seen : AddrState → Event → List ℕ → AddrState
after_seen w e cost = record { first_syms = w.first_syms; watched = context_state_after w.first_syms w.watched e cost }

abbrev pub after_part : AddrState → ThreadNo → AddrState
after_part w thread = record { first_syms = w.first_syms; watched = contexts.after_part w.watched thread }
