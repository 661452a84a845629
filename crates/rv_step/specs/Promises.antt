-- What holds of every step, whichever instruction it is.
use Rattle.std.specs.Prelude.{ℕ, ◌+◌, ◌≤◌, ◌^◌}
use Rattle.event_costs.specs.declared.event.Done.{Done}
use Rattle.event_costs.specs.declared.event.Touch.{Touch}
use Rattle.event_costs.specs.declared.event.Touch.TheVariants as touch
use Rattle.rv_step.specs.declared.stepped.Stepped.{Stepped}
use Rattle.rv_step.specs.declared.stepped.Stepped.TheVariants.{Retired, Call, Trap, Unknown}

-- a fact of what the instruction did, where it retired
abbrev pub IfRetired : Stepped → (Done → Type 0) → Type 0
IfRetired (Retired done) P = P done
IfRetired Call P = Unit {0}
IfRetired (Trap signal) P = Unit {0}
IfRetired (Unknown word) P = Unit {0}

-- a fact of every other answer
abbrev pub UnlessRetired : Stepped → Type 0 → Type 0
UnlessRetired (Retired done) P = Unit {0}
UnlessRetired Call P = P
UnlessRetired (Trap signal) P = P
UnlessRetired (Unknown word) P = P

-- 1 to 4 bytes that end at most at the last address
abbrev pub IsSpan : ℕ → ℕ → Type 0
IsSpan address length = (1 ≤ length) × (length ≤ 4) × (address + length ≤ 2 ^ 32)

-- a data reference lies in the address space
abbrev pub IsWithin : Touch → Type 0
IsWithin touch.Nothing = Unit {0}
IsWithin (touch.Read address length) = IsSpan address length
IsWithin (touch.Write address length) = IsSpan address length
