-- The files that are to be read.
use Rattle.std.specs.Prelude.{ℕ, List}

-- a file's name, and the most bytes that it may have
pub record WantedFile : Type 0 where
  pub name : List ℕ
  pub limit : ℕ

abbrev pub with_limit : ℕ → List ℕ → WantedFile
with_limit limit name = record { name = name; limit = limit }
