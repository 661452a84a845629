-- What the tables of directories and files hold.
use Rattle.std.specs.Prelude.{ℕ, List}

-- an entry's path, and the number of its directory
pub record TableEntry : Type 0 where
  pub path : List ℕ
  pub directory : ℕ

-- the sections that hold the texts which a unit only points to
pub record StringSections : Type 0 where
  pub line_str : List ℕ
  pub strings : List ℕ
