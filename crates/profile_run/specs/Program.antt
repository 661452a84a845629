-- What a run is of: a program with its symbols, its arguments and its input, and what is asked for.
use Rattle.std.specs.Prelude.{◌≡◌, ℕ, ◌≤◌, ◌^◌, Bool, List, [], codes, slice_get, unwrap_or, Option, None}
use Rattle.std.specs.List.{join_by}
use Rattle.cg_format.specs.declared.trigger.Trigger.TheVariants.{Termination}
use Rattle.elf_read.specs.Image.{Image, image_of}
use Rattle.elf_read.specs.Refusal.{refusal}
use Rattle.sym_map.specs.SymbolMap.{IsSound, SymbolMap}
use Rattle.guest_mem.specs.Memory.{page_limit}
use Rattle.guest_load.specs.Arguments.{arguments_len, arguments_limit}
use Rattle.guest_load.specs.Segments.{pages_of}
use Rattle.cache_lru.specs.Costs.{Shapes}
use Rattle.cg_format.specs.declared.head.PartHead.{PartHead}
use Rattle.part_dump.specs.Cuts.{DumpPoints}

pub record Options : Type 0 where
  -- what the names of parts begin with
  pub base : List ℕ
  -- the most steps of the run
  pub budget : ℕ
  -- the steps of a turn, or with a seed the most; and what turns are drawn from
  pub quantum : ℕ
  pub seed : Option ℕ
  -- the geometries of the caches
  pub shapes : Shapes
  -- where the run is cut
  pub dump_points : DumpPoints
  -- whether branches are counted and shown
  pub branch : Bool

pub record Program : Type 0 where
  pub image : Image
  pub syms : SymbolMap
  -- the first is the program's name
  pub args : List (List ℕ)
  pub input : List ℕ
  pub options : Options

-- The arguments and the pages of a program are within their limits.
pub record Fits (guest : Program) : Type 0 where
  pub arguments : arguments_len guest.args ≤ arguments_limit
  pub pages : pages_of guest.image ≤ page_limit

-- What a guest is to keep: its program is an accepted file, its functions are those of a map, and its budget is within
-- the limit.
pub record CanRun (guest : Program) : Type 0 where
  pub accepted : refusal guest.image.bytes ≡ None
  pub image : guest.image ≡ image_of guest.image.bytes
  pub sound : IsSound guest.syms
  pub budget : guest.options.budget ≤ 10 ^ 12

-- what all parts of a run say before their rows; the thread, the number and the trigger are each part's own
abbrev pub head_of_run : Program → PartHead
head_of_run guest = record {
  thread = record { 0 = 1 };
  part = 1;
  cmd = join_by (λ text. text) (codes " ") guest.args;
  object = unwrap_or (slice_get guest.args 0) [];
  i1 = guest.options.shapes.i1;
  d1 = guest.options.shapes.d1;
  ll = guest.options.shapes.ll;
  trigger = Termination;
  branch = guest.options.branch;
}
