-- Where the functions stand: main, child and f0 to f31, one after another, of 66, 9 and 17 instructions each.
use Rattle.std.specs.Prelude.{ℕ, ◌+◌, ◌*◌}

-- where the code begins, with main
abbrev pub code_addr : ℕ
code_addr = 0x10000

abbrev pub child_addr : ℕ
child_addr = code_addr + 4 * 66

-- one of f0 to f31
abbrev pub function_addr : ℕ → ℕ
function_addr k = child_addr + 4 * 9 + 4 * 17 * k

-- where the second segment begins, and how many zeros it has: the counters, the words that the threads' ends clear,
-- and the stacks
abbrev pub data_addr : ℕ
data_addr = 0x20000

abbrev pub data_len : ℕ
data_len = 0x10000
