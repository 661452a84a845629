-- Tables of strings as contracts see them.
use Rattle.std.specs.Prelude.{ℕ, List}
use Rattle.elf_read.specs.declared.text.Range.{Range}

-- the bytes of a file, and where in it the table stands
pub record StringTable : Type 0 where
  pub bytes : List ℕ
  pub range : Range
