-- The first state of a guest: a program in memory, its stack, and one thread at its entry.
use Rattle.std.specs.Prelude.{◌≡◌, ℕ, ◌+◌, ◌*◌, ◌<◌, ◌≤◌, List, [], ◌∷◌, Option, Some, replicate, slice_index}
use Rattle.std.specs.Prelude.{slice_set, true, false, if◌then◌else◌}
use Rattle.elf_read.specs.Image.{Image}
use Rattle.elf_read.specs.declared.program.Segment.{Segment}
use Rattle.guest_mem.specs.Memory.{Cell, Memory, in_range, memory_of, byte_at}
use Rattle.guest_load.specs.declared.thread.Thread.{Thread}
use Rattle.guest_load.specs.Segments.{permission_bits, segment_cell, break_of}
use Rattle.guest_load.specs.Stack.{stack_start, stack_pages, stack_byte, stack_pointer}
use Rattle.guest_load.specs.Guest.{Guest}

-- what stands at an address: the stack, which may be read and written, or what the segments put there
unfoldable pub first_cell : Image → List (List ℕ) → ℕ → Option Cell
first_cell image args a =
    if in_range stack_start (stack_pages * 4096) a
    then Some (record { byte = stack_byte image args a; permission = permission_bits true true false })
    else segment_cell image a

abbrev pub first_memory : Image → List (List ℕ) → Memory
first_memory image args = memory_of (first_cell image args)

-- thread 1, at this pc; all other registers are 0 but the stack pointer, x2
abbrev pub thread_at : ℕ → ℕ → Thread
thread_at pc pointer =
    record { no = record { 0 = 1 }; regs = record { pc = pc; x = slice_set (replicate 32 0) 2 pointer }; clear = 0 }

-- the state in which a program begins, with its arguments and its input
abbrev pub guest_at_start : Image → List (List ℕ) → List ℕ → Guest
guest_at_start image args input = record {
  mem = first_memory image args;
  threads = thread_at image.entry (stack_pointer image args) ∷ [];
  first_break = break_of image.segments;
  now_break = break_of image.segments;
  input = input;
  place = 0;
  made = 1;
  steps = 0;
}

-- a segment has its bytes from the file in memory, and zeros after them
pub record HasItsBytes (bytes : List ℕ) (mem : Memory) (s : Segment) : Type 0 where
  pub from_file : (k : ℕ) → k < s.file_len → byte_at mem (s.addr + k) ≡ slice_index bytes (s.offset + k)
  pub zeros : (k : ℕ) → s.file_len ≤ k → k < s.mem_len → byte_at mem (s.addr + k) ≡ 0
