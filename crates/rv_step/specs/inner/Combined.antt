-- What an AMO puts in place of the old word, by its instruction. The effects of the instructions say the same row by
-- row.
use Rattle.std.specs.Prelude.{ℕ, ◌+◌, ◌%◌, ◌^◌, min, max, bit_and, bit_or, bit_xor}
use Rattle.rv_decode.specs.declared.instr.Op.{Op}
use Rattle.rv_decode.specs.declared.instr.Op.TheVariants.{AMOADD, AMOXOR, AMOAND, AMOOR, AMOMIN, AMOMAX, AMOMINU}
use Rattle.rv_decode.specs.declared.instr.Op.TheVariants.{AMOMAXU}
use Rattle.rv_step.specs.Numbers.{least_signed, greatest_signed}

abbrev pub combined_of : Op → ℕ → ℕ → ℕ
combined_of AMOADD old word = (old + word) % 2 ^ 32
combined_of AMOXOR old word = bit_xor old word
combined_of AMOAND old word = bit_and old word
combined_of AMOOR old word = bit_or old word
combined_of AMOMIN old word = least_signed old word
combined_of AMOMAX old word = greatest_signed old word
combined_of AMOMINU old word = min old word
combined_of AMOMAXU old word = max old word
combined_of _ old word = word
