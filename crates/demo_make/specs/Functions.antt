-- The functions of a program, as lists of instructions.
use Rattle.std.specs.Prelude.{ℕ, pos, ◌+◌, ◌*◌, ◌/◌, List, [], ◌∷◌, ◌++◌}
use Rattle.rv_decode.specs.declared.instr.Instr.{Instr}
use Rattle.rv_decode.specs.declared.instr.Op.TheVariants.{BEQ, BLT, BNE}
use Rattle.demo_make.specs.declared.draws.Choice.{Choice}
use Rattle.demo_make.specs.Instructions.{x0, ra, sp, t1, t2, s0, s1, a0, a1, a2, a3, a4, a7}
use Rattle.demo_make.specs.Instructions.{addi, lui, lw, sw, branch, jal, jalr, ecall, less, offset}
use Rattle.demo_make.specs.Layout.{code_addr, child_addr, function_addr}

-- One of f0 to f31: it raises its counter, and where its argument isn't 0, it calls two functions with one less.
abbrev pub function : ℕ → Choice → List Instr
function k c =
    addi sp sp (less 16)
    ∷ sw ra (pos 12) sp
    ∷ sw s0 (pos 8) sp
    ∷ addi s0 a0 (less 1)
    ∷ lui t1 0x20
    ∷ lw t2 (pos c.counter) t1
    ∷ addi t2 t2 (pos 1)
    ∷ sw t2 (pos c.counter) t1
    -- past both calls
    ∷ branch BLT s0 x0 (pos (4 * 5))
    ∷ addi a0 s0 (pos 0)
    ∷ jal ra (offset (function_addr k + 4 * 10) (function_addr c.first))
    ∷ addi a0 s0 (pos 0)
    ∷ jal ra (offset (function_addr k + 4 * 12) (function_addr c.second))
    ∷ lw s0 (pos 8) sp
    ∷ lw ra (pos 12) sp
    ∷ addi sp sp (pos 16)
    ∷ jalr x0 (pos 0) ra
    ∷ []

-- a number of at most 31 bits is 4096 times its upper part and its lower part, from -2048 to 2047
abbrev pub upper : ℕ → ℕ
upper n = (n + 2048) / 4096

-- f0 is called with 5 as often as the size says; the loop's first instruction stands at an address
abbrev pub loop : ℕ → ℕ → List Instr
loop addr size =
    lui s1 (upper size)
    ∷ addi s1 s1 (offset (4096 * upper size) size)
    ∷ addi a0 x0 (pos 5)
    ∷ jal ra (offset (addr + 4 * 3) (function_addr 0))
    ∷ addi s1 s1 (less 1)
    -- back to the argument
    ∷ branch BNE s1 x0 (less (4 * 3))
    ∷ []

-- A thread is made, whose number stands in its word until it ends, and which goes on in child. The first instruction
-- stands at an address.
abbrev pub start : ℕ → ℕ → List Instr
start addr t =
    lui a0 0x7d1
    ∷ addi a0 a0 (less 256)
    ∷ lui a1 (0x24 + 4 * t)
    ∷ lui a2 0x21
    ∷ addi a2 a2 (pos (4 * t))
    ∷ addi a3 x0 (pos 0)
    ∷ addi a4 a2 (pos 0)
    ∷ addi a7 x0 (pos 220)
    ∷ ecall
    ∷ branch BEQ a0 x0 (offset (addr + 4 * 9) child_addr)
    ∷ []

-- waits until the word of a thread is 0
abbrev pub await : ℕ → List Instr
await t =
    lui a0 0x21
    ∷ addi a0 a0 (pos (4 * t))
    ∷ lw a2 (pos 0) a0
    -- past the wait
    ∷ branch BEQ a2 x0 (pos (4 * 6))
    ∷ addi a1 x0 (pos 0)
    ∷ addi a3 x0 (pos 0)
    ∷ addi a7 x0 (pos 422)
    ∷ ecall
    -- back to the first instruction
    ∷ jal x0 (less (4 * 8))
    ∷ []

-- a system call that ends with the code 0
abbrev pub end : ℕ → List Instr
end call = addi a7 x0 (pos call) ∷ addi a0 x0 (pos 0) ∷ ecall ∷ []

-- three threads are made, the loop runs, the threads are waited for, and the process ends
abbrev pub main : ℕ → List Instr
main size =
    start code_addr 1
    ++ (start (code_addr + 4 * 10) 2
    ++ (start (code_addr + 4 * 20) 3
    ++ (loop (code_addr + 4 * 30) size
    ++ (await 1
    ++ (await 2
    ++ (await 3
    ++ end 94))))))

-- the loop runs, and the thread ends
abbrev pub child : ℕ → List Instr
child size = loop child_addr size ++ end 93
