-- What a frame came from, and what an event says of it.
use Rattle.std.specs.Prelude.{◌+◌, ◌%◌, ◌^◌, ◌==◌, ◌&&◌, nat_lt, Bool, true, false}
use Rattle.event_costs.specs.declared.event.Event.{Event}
use Rattle.shadow_stack.specs.declared.frame.Kind.{Kind}
use Rattle.shadow_stack.specs.declared.frame.Kind.TheVariants.{Root, Call, Jump}

-- a call returns to the instruction after it; addresses are modulo 2^32
abbrev pub call_of : Event → Kind
call_of e = Call ((e.done.pc + 4) % 2 ^ 32) e.done.sp

abbrev pub jump : Kind
jump = Jump

abbrev pub is_root : Kind → Bool
is_root Root = true
is_root kind = false

abbrev pub is_jump : Kind → Bool
is_jump Jump = true
is_jump kind = false

-- a call that returns to the event's next pc with its stack pointer
abbrev pub is_left_by : Event → Kind → Bool
is_left_by e (Call ret sp) = ret == e.done.next && sp == e.done.sp
is_left_by e kind = false

-- a call that returns to the event's next pc
abbrev pub returns_by : Event → Kind → Bool
returns_by e (Call ret sp) = ret == e.done.next
returns_by e kind = false

-- a call whose stack pointer is below that of the event, both as unsigned numbers
abbrev pub is_below : Event → Kind → Bool
is_below e (Call ret sp) = nat_lt sp e.done.sp
is_below e kind = false

-- a call whose stack pointer is that of the event
abbrev pub is_level : Event → Kind → Bool
is_level e (Call ret sp) = sp == e.done.sp
is_level e kind = false
