-- What a line means after the lines before it in a file whose positions have two parts, an address and then a line:
-- what it means without its address. The addresses are positions of their own, with a base of their own. A history is a
-- list of lines, the newest first.
use Rattle.std.specs.Prelude.{ℕ, Bool, true, false, not, ◌&&◌, ◌||◌, if◌then◌else◌, List, [], ◌∷◌, ◌++◌, map, Option}
use Rattle.std.specs.Prelude.{None, Some, is_some, unwrap_or}
use Rattle.cg_lines.specs.Positions.{position_at}
use Rattle.cg_lines.specs.Shapes.{is_cost, is_positions}
use Rattle.cg_read.specs.Meaning as meaning
use Rattle.cg_read.specs.Meaning.{events, number_fault, open_call, or_else}
use Rattle.cg_lines.specs.declared.sub_position.SubPosition.{SubPosition}
use Rattle.cg_lines.specs.declared.line.Line.{Line}
use Rattle.cg_lines.specs.declared.addressed.AddressedLine.{AddressedLine}
use Rattle.cg_lines.specs.declared.fault.Fault.{Fault}
use Rattle.cg_lines.specs.declared.fault.Fault.TheVariants.{BadLine}

-- the lines without their addresses
abbrev pub without_addresses : List AddressedLine → List Line
without_addresses before = map (λ a. a.line) before

abbrev pub has_positions : List AddressedLine → Bool
has_positions [] = false
has_positions (a ∷ before) = is_positions a.line || has_positions before

-- the address that is meant, where relative ones count from base
abbrev pub address_at : ℕ → Option SubPosition → ℕ
address_at base None = 0
address_at base (Some place) = unwrap_or (position_at base place) 0

-- the address of the last cost line
abbrev pub base : List AddressedLine → ℕ
base [] = 0
base (a ∷ before) = if is_cost a.line then address_at (base before) a.address else base before

-- a cost line or a call, where events are named and no positions
abbrev pub is_early : List AddressedLine → AddressedLine → Bool
is_early before a = is_some a.address && (is_some (events (without_addresses before)) && not (has_positions before))

abbrev pub order_fault : Bool → Option Fault
order_fault early = if early then Some BadLine else None

abbrev pub address_fault : ℕ → Option SubPosition → Option Fault
address_fault base None = None
address_fault base (Some place) = number_fault (position_at base place)

-- the fault of a line: that of the line without its address, where it doesn't stand too early; then that of the address
abbrev pub fault : List AddressedLine → AddressedLine → Option Fault
fault before a =
    or_else (order_fault (is_early before a))
    (or_else (meaning.fault (without_addresses before) a.line) (address_fault (base before) a.address))

-- The addresses of rows

abbrev pub address_if : Bool → ℕ → List ℕ
address_if true n = n ∷ []
address_if false n = []

-- a cost line alone is a self row
abbrev pub self_addresses : List AddressedLine → List ℕ
self_addresses [] = []
self_addresses (a ∷ before) =
    self_addresses before
    ++ address_if (is_cost a.line && not (is_some (open_call (without_addresses before)))) (address_at (base before) a.address)

-- after a call it is a call row
abbrev pub call_addresses : List AddressedLine → List ℕ
call_addresses [] = []
call_addresses (a ∷ before) =
    call_addresses before
    ++ address_if (is_cost a.line && is_some (open_call (without_addresses before))) (address_at (base before) a.address)
