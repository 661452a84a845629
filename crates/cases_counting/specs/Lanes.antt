-- Three chains in one arena.
use Rattle.std.specs.Prelude.{ℕ, List, Option}
use Rattle.shadow_stack.specs.declared.arena.Head.{Head}
use Rattle.shadow_stack.specs.Arenas.{Node}
use Rattle.shadow_stack.specs.Frames.{StartWithin}
use Rattle.shadow_stack.specs.Arenas.{frames, AreApart, LiesIn}

-- the head of a thread that hasn't begun
abbrev pub no_frames : Head
no_frames = record { top = 0; depth = 0 }

-- one chain, none of whose starts passes the total
pub record IsLane (slots : List (Option Node)) (total : List ℕ) (head : Head) : Type 0 where
  pub lies : LiesIn slots head
  pub starts : StartWithin total (frames slots head)

-- three of them, apart from each other
pub record AreLanes (slots : List (Option Node)) (total : List ℕ) (one two three : Head) : Type 0 where
  pub first : IsLane slots total one
  pub second : IsLane slots total two
  pub third : IsLane slots total three
  pub first_second : AreApart slots one two
  pub second_third : AreApart slots two three
  pub third_first : AreApart slots three one
