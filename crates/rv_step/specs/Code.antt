-- The instructions that are kept by their addresses, and the memory in which they stand.
use Rattle.std.specs.Prelude.{◌≡◌, ℕ, ◌%◌, ◌^◌, ◌<◌, Option, Some}
use Rattle.std.specs.FinMap as map
use Rattle.std.specs.Option.{option_and_then}
use Rattle.guest_mem.specs.Memory.{Memory, prot_exec, load_at}
use Rattle.rv_decode.specs.Decoded.{decode}
use Rattle.rv_decode.specs.declared.instr.Instr.{Instr}
use Rattle.rv_step.specs.declared.code.Code.{Code}

-- the instruction at an address: the word there has to be executable, and to be one
unfoldable pub instruction_at : Memory → ℕ → Option Instr
instruction_at m pc = option_and_then decode (load_at m prot_exec pc 4)

-- what is kept stands in the memory
abbrev pub IsCodeOf : Code → Memory → Type 0
IsCodeOf code m =
    (pc : ℕ) (i : Instr) → pc < 2 ^ 32 → pc % 4 ≡ 0 → map.get code pc ≡ Some i → instruction_at m pc ≡ Some i
