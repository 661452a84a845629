-- The program of a size.
use Rattle.std.specs.Prelude.{ℕ, ◌+◌, ◌*◌, List, [], ◌∷◌}
use Rattle.std.specs.Prelude.{◌++◌, length, map, codes, decimal}
use Rattle.std.specs.List.{flat_map, range_with_len}
use Rattle.rv_decode.specs.declared.instr.Instr.{Instr}
use Rattle.elf_read.specs.Standard.{pf_r, pf_w, pf_x}
use Rattle.prog_make.specs.declared.function_part.FunctionPart.{FunctionPart}
use Rattle.prog_make.specs.Code.{code_of}
pub use Rattle.prog_make.specs.Contents.{IsFileOf}
use Rattle.prog_make.specs.Parts.{Parts}
use Rattle.demo_make.specs.Draws.{choice}
use Rattle.demo_make.specs.Functions.{main, child, function}
use Rattle.demo_make.specs.Layout.{code_addr, data_addr, data_len}

-- a function by its name and its instructions
pub record Routine : Type 0 where
  pub name : List ℕ
  pub code : List Instr

-- one of f0 to f31
abbrev pub numbered_routine : ℕ → ℕ → Routine
numbered_routine size k = record { name = codes "f" ++ decimal k; code = function k (choice size k) }

-- all functions, in the order in which they stand
unfoldable pub routines : ℕ → List Routine
routines size =
    record { name = codes "main"; code = main size }
    ∷ record { name = codes "child"; code = child size }
    ∷ map (numbered_routine size) (range_with_len 0 32)

-- the instructions of functions, one after another
abbrev pub instructions : List Routine → List Instr
instructions rs = flat_map (λ r. r.code) rs

-- a function behind others: it begins where they end, and the lines of each function begin 100 further on
abbrev pub part_behind : List Routine → Routine → FunctionPart
part_behind before r = record {
  name = r.name;
  addr = code_addr + 4 * length (instructions before);
  size = 4 * length r.code;
  first_line = 100 * length before + 1;
}

-- functions behind others, one after another
abbrev pub parts_behind : List Routine → List Routine → List FunctionPart
parts_behind before [] = []
parts_behind before (r ∷ rs) = part_behind before r ∷ parts_behind (before ++ r ∷ []) rs

-- The parts of the program of these functions: one segment of code, which is entered at its first instruction, and one
-- of zeros.
abbrev pub program_of : List Routine → Parts
program_of rs = record {
  entry = code_addr;
  segments = record {
    addr = code_addr;
    bytes = code_of (instructions rs);
    mem_len = 4 * length (instructions rs);
    flags = pf_r + pf_x;
  } ∷ record { addr = data_addr; bytes = []; mem_len = data_len; flags = pf_r + pf_w } ∷ [];
  functions = parts_behind [] rs;
  file = codes "demo.s";
}

abbrev pub demo : ℕ → Parts
demo size = program_of (routines size)

-- how many bytes its file has, for every size
abbrev pub demo_file_len : ℕ
demo_file_len = 4958
