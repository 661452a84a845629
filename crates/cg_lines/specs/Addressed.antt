-- What a line says by itself in a file whose positions have two parts, an address and then a line. Without its address
-- such a line is a line like any other.
use Rattle.std.specs.Prelude.{ℕ, nat_eq, if◌then◌else◌, List, [], ◌∷◌, drop, codes, Option, None, Some}
use Rattle.std.specs.List.{before_first, after_first, starts_with}
use Rattle.cg_lines.specs.Lines.{is_space, strip, without_front, words}
use Rattle.cg_lines.specs.Names.{same_names}
use Rattle.cg_lines.specs.Positions.{two_parts}
use Rattle.cg_lines.specs.Shapes.{begins_position, calls_line, cost_line, sub_position_of, shape}
use Rattle.cg_lines.specs.declared.sub_position.SubPosition.{SubPosition}
use Rattle.cg_lines.specs.declared.line.Line.{Line}
use Rattle.cg_lines.specs.declared.line.Line.TheVariants.{Bad, BadCalls, BadCost, Blank, Positions}
use Rattle.cg_lines.specs.declared.addressed.AddressedLine.{AddressedLine}

-- a line that has no position
abbrev pub alone : Line → AddressedLine
alone line = record { line = line; address = None }

-- a line with this address in front of its position, or a bad one where there is no address
abbrev pub with_address : Option SubPosition → Line → Line → AddressedLine
with_address None bad line = alone bad
with_address (Some address) bad line = record { line = line; address = Some address }

-- an address, and what is a cost line without it
abbrev pub addressed_cost : List ℕ → AddressedLine
addressed_cost text =
    with_address (sub_position_of (before_first is_space text)) BadCost
    (cost_line (without_front is_space (after_first is_space text)))

-- a number, an address, and a line
abbrev pub addressed_calls : List (List ℕ) → AddressedLine
addressed_calls [] = alone BadCalls
addressed_calls (n ∷ []) = alone BadCalls
addressed_calls (n ∷ address ∷ rest) = with_address (sub_position_of address) BadCalls (calls_line (n ∷ rest))

-- without addresses, positions are lines; these words may be repeated, and no others come
abbrev pub positions_line : List (List ℕ) → Line
positions_line names = if same_names names two_parts then Positions (codes "line") else Bad

-- a line that is neither a cost line nor a call
abbrev pub addressed_other : Line → AddressedLine
addressed_other (Positions text) = alone (positions_line (words text))
addressed_other line = alone line

-- what a line says once its ends are stripped
abbrev pub addressed_shape : List ℕ → AddressedLine
addressed_shape [] = alone Blank
addressed_shape (b ∷ rest) =
    let text = b ∷ rest in
    if begins_position b then addressed_cost text
    else if starts_with nat_eq text (codes "calls=") then addressed_calls (words (drop 6 text))
    else addressed_other (shape text)

abbrev pub addressed_of : List ℕ → AddressedLine
addressed_of line = addressed_shape (strip line)
