-- The files that a run puts, and what a folder holds while it does.
use Rattle.std.specs.Prelude.{◌≡◌, ℕ, ◌++◌, List, [], ◌∷◌, codes, decimal, Option, Some, None}
use Rattle.outside.specs.Files.{Files}
use Rattle.outside.specs.Outside.{Holds, Named}

-- the name of a part's file
abbrev pub part_name : List ℕ → ℕ → ℕ → List ℕ
part_name base part thread = base ++ codes "." ++ decimal part ++ codes "-" ++ decimal thread

-- the first of these files has this name, if one is given
abbrev pub IsNext : Option (List ℕ) → List Named → Type 0
IsNext None files = Unit {0}
IsNext (Some name) [] = ⊥
IsNext (Some name) (file ∷ files) = file.0 ≡ name

-- a front of the files was put; the next one has this name, if one is given
pub record IsFront (done : List Named) (next : Option (List ℕ)) (files : List Named) : Type 0 where
  pub rest : List Named
  pub whole : files ≡ done ++ rest
  pub follows : IsNext next rest

-- what a refusal leaves: a front of the files stands, and only the next one's name, if one is given, may hold anything
pub record RefusalLeaves (files : List Named) (next : Option (List ℕ)) (old new : Option Files) : Type 0 where
  pub done : List Named
  pub front : IsFront done next files
  pub holds : Holds done next old new
