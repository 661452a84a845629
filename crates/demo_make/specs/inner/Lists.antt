-- What a listing stands for.
use Rattle.std.specs.Prelude.{◌≡◌, ℕ, List, [], ◌∷◌, map, codes}
use Rattle.std.specs.List.{range_with_len}
use Rattle.demo_make.specs.declared.listing.Listing.{Listing}
use Rattle.demo_make.specs.Functions.{main, child}
use Rattle.demo_make.specs.Program.{Routine, instructions, numbered_routine, parts_behind}

-- it has the instructions of these functions, and their parts
pub record Lists (listing : Listing) (routines : List Routine) : Type 0 where
  pub code : listing.code.items ≡ instructions routines
  pub functions : listing.functions.items ≡ parts_behind [] routines

-- main, child and so many of the functions that are drawn
abbrev pub routines_before : ℕ → ℕ → List Routine
routines_before size n =
    record { name = codes "main"; code = main size }
    ∷ record { name = codes "child"; code = child size }
    ∷ map (numbered_routine size) (range_with_len 0 n)
