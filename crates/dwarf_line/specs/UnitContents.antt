-- What a unit holds.
use Rattle.std.specs.Prelude.{ℕ, List}
use Rattle.dwarf_line.specs.Entry.{TableEntry}
use Rattle.dwarf_line.specs.Header.{LineHeader}

-- a unit's header and program
pub record UnitContents : Type 0 where
  pub constants : LineHeader
  pub program : List ℕ
  pub directories : List TableEntry
  pub files : List TableEntry
