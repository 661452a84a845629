-- Events that leave a stack as it is.
use Rattle.std.specs.Prelude.{◌==◌, ◌&&◌, Bool, true, false, not}
use Rattle.event_costs.specs.declared.event.Event.{Event}
use Rattle.event_costs.specs.declared.event.Flow.{Flow}
use Rattle.event_costs.specs.declared.event.Flow.TheVariants.{Call, Jump, Swap, Plain}
use Rattle.event_costs.specs.declared.numbers.FuncId.{FuncId}

abbrev pub is_plain : Flow → Bool
is_plain Plain = true
is_plain Call = false
is_plain Jump = false
is_plain Swap = false

-- the event goes on from this function to the next one, which is the same, by no call and no jump, and its thread
-- doesn't end
abbrev pub goes_on : Event → FuncId → FuncId → Bool
goes_on e func next = not e.ends && is_plain e.done.flow && (func.0 == next.0)
