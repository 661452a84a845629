-- The name of the program, among the words of the command line.
use Rattle.std.specs.Prelude.{ℕ, List, [], ◌∷◌}

-- the name of the program is its first argument
abbrev pub program_of : List (List ℕ) → List ℕ
program_of [] = []
program_of (program ∷ arguments) = program
