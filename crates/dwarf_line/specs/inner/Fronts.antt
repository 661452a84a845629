-- What a call gave of the unit in front.
use Rattle.std.specs.Prelude.{ℕ, length}
use Rattle.dwarf_line.specs.declared.unit.Unit.{Unit as Piece}
use Rattle.dwarf_line.specs.declared.unit.Unit.TheVariants.{Body, Passed}
use Rattle.dwarf_line.specs.Unit.{Front, body, wide}

abbrev pub front_of : Piece → Front
front_of (Body bytes) = body bytes.now
front_of Passed = wide

-- how many bytes of it are read further
abbrev pub unit_len : Front → ℕ
unit_len (body bytes) = length bytes
unit_len wide = 0
