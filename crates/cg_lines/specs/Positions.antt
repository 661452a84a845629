-- Positions: where a row stands or a call goes to, and what a line on positions asks for.
use Rattle.std.specs.Prelude.{ℕ, ◌+◌, ◌-◌, nat_lt, if◌then◌else◌, List, [], ◌∷◌, codes, Option, None, Some}
use Rattle.cg_lines.specs.Names.{has_text, same_names}
use Rattle.cg_lines.specs.Numbers.{in_range, value_of}
use Rattle.cg_lines.specs.declared.number.Number.TheVariants.{Fits, TooLarge}
use Rattle.cg_lines.specs.declared.sub_position.SubPosition.{SubPosition}
use Rattle.cg_lines.specs.declared.sub_position.SubPosition.TheVariants.{At, Ahead, Back, Same}
use Rattle.cg_lines.specs.declared.fault.Fault.{Fault}
use Rattle.cg_lines.specs.declared.fault.Fault.TheVariants.{BadLine, Instr}

-- the position that is meant, where relative ones count from base
abbrev pub position_at : ℕ → SubPosition → Option ℕ
position_at base (At n) = value_of n
position_at base (Ahead (Fits n)) = in_range (base + n)
position_at base (Ahead TooLarge) = None
position_at base (Back (Fits n)) = if nat_lt base n then None else Some (base - n)
position_at base (Back TooLarge) = None
position_at base Same = Some base

-- the words that say that positions have two parts
abbrev pub two_parts : List (List ℕ)
two_parts = codes "instr" ∷ codes "line" ∷ []

abbrev pub positions_fault : List (List ℕ) → Option Fault
positions_fault names =
    if same_names names (codes "line" ∷ []) then None
    else if has_text names (codes "instr") then Some Instr
    else Some BadLine
