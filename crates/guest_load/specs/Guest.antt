-- A guest as contracts see it.
use Rattle.std.specs.Prelude.{ℕ, List}
use Rattle.guest_mem.specs.Memory.{Memory}
use Rattle.guest_load.specs.declared.thread.Thread.{Thread}

pub record Guest : Type 0 where
  pub mem : Memory
  -- the live threads
  pub threads : List Thread
  -- where the break was at first, and where it is
  pub first_break : ℕ
  pub now_break : ℕ
  -- the whole input, and how many bytes of it were read
  pub input : List ℕ
  pub place : ℕ
  -- how many threads were made, and how many steps
  pub made : ℕ
  pub steps : ℕ
