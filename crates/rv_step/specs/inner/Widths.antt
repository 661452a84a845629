-- How many bytes each load and each store takes, and what a load gives of them.
use Rattle.std.specs.Prelude.{ℕ}
use Rattle.rv_step.specs.Numbers.{extended}
use Rattle.rv_step.specs.declared.width.Load.{Load}
use Rattle.rv_step.specs.declared.width.Load.TheVariants.{SignedByte, SignedHalf, Byte, Half, Word}
use Rattle.rv_step.specs.declared.width.Store.{Store}
use Rattle.rv_step.specs.declared.width.Store.TheVariants as store

abbrev pub bytes_loaded : Load → ℕ
bytes_loaded SignedByte = 1
bytes_loaded SignedHalf = 2
bytes_loaded Byte = 1
bytes_loaded Half = 2
bytes_loaded Word = 4

-- the register's value for the number that was loaded
abbrev pub view_of : Load → ℕ → ℕ
view_of SignedByte n = extended 8 n
view_of SignedHalf n = extended 16 n
view_of Byte n = n
view_of Half n = n
view_of Word n = n

abbrev pub bytes_stored : Store → ℕ
bytes_stored store.Byte = 1
bytes_stored store.Half = 2
bytes_stored store.Word = 4
