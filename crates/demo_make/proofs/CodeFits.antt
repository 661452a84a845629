-- The code of each program has its fields in their ranges.
use Rattle.std.proofs.Common.{◌≡◌, ℕ, zero, suc, ◌+◌, ◌*◌, ◌%◌, ◌^◌, ◌<◌, ◌≤◌, List, ◌++◌, map, refl, arith, lit<, lit≤}
use Rattle.std.proofs.Common.{pos}
use Rattle.std.specs.List.{All, range_with_len}
use Rattle.std.proofs.lemmas.List.Elements.{All-append, All-from_recursion, All-nil}
use Rattle.rv_decode.specs.declared.instr.Instr.{Instr}
use Rattle.rv_decode.specs.Encoded.{IsInRange}
use Rattle.demo_make.specs.declared.draws.Choice.{Choice}
use Rattle.demo_make.specs.Draws.{choice, random_below}
use Rattle.demo_make.specs.Instructions.{x0, ra, sp, t1, t2, s0, s1, a0, a1, a2, a3, a4, a7, less, offset}
use Rattle.demo_make.specs.Layout.{code_addr, child_addr, function_addr}
use Rattle.demo_make.specs.Functions.{function, upper, loop, start, await, end, main, child}
use Rattle.demo_make.specs.Program.{instructions, numbered_routine, routines}
use Rattle.demo_make.proofs.Fits.{addi-fits, lw-fits, jalr-fits, sw-fits, lui-fits}
use Rattle.demo_make.proofs.Fits.{jal-fits, jal-near, beq-fits, bne-fits, blt-fits, ecall-fits}
use Rattle.demo_make.proofs.Offsets.{within, even}

function-fits : (k : ℕ) (c : Choice) → k < 32 → c.first < 32 → c.second < 32 → c.counter < 2048
    → All IsInRange (function k c)
function-fits k c lt first second counter =
    let from1 : function_addr k + 4 * 10 < 2 ^ 18 = omega arith in
    let from2 : function_addr k + 4 * 12 < 2 ^ 18 = omega arith in
    let to1 : function_addr c.first < 2 ^ 18 = omega arith in
    let to2 : function_addr c.second < 2 ^ 18 = omega arith in
    let ef1 : (function_addr k + 4 * 10) % 2 ≡ 0 = omega arith in
    let ef2 : (function_addr k + 4 * 12) % 2 ≡ 0 = omega arith in
    let et1 : function_addr c.first % 2 ≡ 0 = omega arith in
    let et2 : function_addr c.second % 2 ≡ 0 = omega arith in
    All-from_recursion IsInRange (function k c) (
      addi-fits sp sp (less 16) (lit< tt) (lit< tt) (lit< tt),
      (
        sw-fits ra (pos 12) sp (lit< tt) (lit< tt) (lit< tt),
        (
          sw-fits s0 (pos 8) sp (lit< tt) (lit< tt) (lit< tt),
          (
            addi-fits s0 a0 (less 1) (lit< tt) (lit< tt) (lit< tt),
            (
              lui-fits t1 0x20 (lit< tt) (lit< tt),
              (
                lw-fits t2 (pos c.counter) t1 (lit< tt) (lit< tt) counter,
                (
                  addi-fits t2 t2 (pos 1) (lit< tt) (lit< tt) (lit< tt),
                  (
                    sw-fits t2 (pos c.counter) t1 (lit< tt) (lit< tt) counter,
                    (
                      blt-fits s0 x0 (pos 20) (lit< tt) (lit< tt) (lit< tt) refl,
                      (
                        addi-fits a0 s0 (pos 0) (lit< tt) (lit< tt) (lit< tt),
                        (
                          jal-fits ra (function_addr k + 4 * 10) (function_addr c.first) (lit< tt) from1 to1 ef1 et1,
                          (
                            addi-fits a0 s0 (pos 0) (lit< tt) (lit< tt) (lit< tt),
                            (
                              jal-fits ra (function_addr k + 4 * 12) (function_addr c.second)
                                  (lit< tt) from2 to2 ef2 et2,
                              (
                                lw-fits s0 (pos 8) sp (lit< tt) (lit< tt) (lit< tt),
                                (
                                  lw-fits ra (pos 12) sp (lit< tt) (lit< tt) (lit< tt),
                                  (
                                    addi-fits sp sp (pos 16) (lit< tt) (lit< tt) (lit< tt),
                                    (
                                      jalr-fits x0 (pos 0) ra (lit< tt) (lit< tt) (lit< tt),
                                      tt,
                                    ),
                                  ),
                                ),
                              ),
                            ),
                          ),
                        ),
                      ),
                    ),
                  ),
                ),
              ),
            ),
          ),
        ),
      ),
    )

loop-fits : (addr size : ℕ) → addr < 2 ^ 17 → addr % 2 ≡ 0 → size ≤ 100000 → All IsInRange (loop addr size)
loop-fits addr size low even_addr most =
    let high : upper size < 2 ^ 19 = omega arith in
    let below : 4096 * upper size ≤ size + 2048 = omega arith in
    let above : size < 4096 * upper size + 2048 = omega arith in
    let from : addr + 4 * 3 < 2 ^ 18 = omega arith in
    let even_from : (addr + 4 * 3) % 2 ≡ 0 = omega arith in
    All-from_recursion IsInRange (loop addr size) (
      lui-fits s1 (upper size) (lit< tt) high,
      (
        addi-fits s1 s1 (offset (4096 * upper size) size) (lit< tt) (lit< tt)
            (within 2048 (4096 * upper size) size below above),
        (
          addi-fits a0 x0 (pos 5) (lit< tt) (lit< tt) (lit< tt),
          (
            jal-fits ra (addr + 4 * 3) (function_addr 0) (lit< tt) from (lit< tt) even_from refl,
            (
              addi-fits s1 s1 (less 1) (lit< tt) (lit< tt) (lit< tt),
              (
                bne-fits s1 x0 (less 12) (lit< tt) (lit< tt) (lit< tt) refl,
                tt,
              ),
            ),
          ),
        ),
      ),
    )

start-fits : (addr t : ℕ) → addr + 36 ≤ child_addr + 4096 → child_addr < addr + 36 + 4096 → addr % 2 ≡ 0 → t < 4
    → All IsInRange (start addr t)
start-fits addr t near far even_addr few =
    let stack : 0x24 + 4 * t < 2 ^ 19 = omega arith in
    let word : 4 * t < 2048 = omega arith in
    let even_from : (addr + 4 * 9) % 2 ≡ 0 = omega arith in
    let low : addr + 4 * 9 ≤ child_addr + 4096 = omega arith in
    let high : child_addr < addr + 4 * 9 + 4096 = omega arith in
    All-from_recursion IsInRange (start addr t) (
      lui-fits a0 0x7d1 (lit< tt) (lit< tt),
      (
        addi-fits a0 a0 (less 256) (lit< tt) (lit< tt) (lit< tt),
        (
          lui-fits a1 (0x24 + 4 * t) (lit< tt) stack,
          (
            lui-fits a2 0x21 (lit< tt) (lit< tt),
            (
              addi-fits a2 a2 (pos (4 * t)) (lit< tt) (lit< tt) word,
              (
                addi-fits a3 x0 (pos 0) (lit< tt) (lit< tt) (lit< tt),
                (
                  addi-fits a4 a2 (pos 0) (lit< tt) (lit< tt) (lit< tt),
                  (
                    addi-fits a7 x0 (pos 220) (lit< tt) (lit< tt) (lit< tt),
                    (
                      ecall-fits,
                      (
                        beq-fits a0 x0 (offset (addr + 4 * 9) child_addr) (lit< tt) (lit< tt)
                            (within 4096 (addr + 4 * 9) child_addr low high)
                            (even (addr + 4 * 9) child_addr even_from refl),
                        tt,
                      ),
                    ),
                  ),
                ),
              ),
            ),
          ),
        ),
      ),
    )

await-fits : (t : ℕ) → t < 4 → All IsInRange (await t)
await-fits t few =
    let word : 4 * t < 2048 = omega arith in
    All-from_recursion IsInRange (await t) (
      lui-fits a0 0x21 (lit< tt) (lit< tt),
      (
        addi-fits a0 a0 (pos (4 * t)) (lit< tt) (lit< tt) word,
        (
          lw-fits a2 (pos 0) a0 (lit< tt) (lit< tt) (lit< tt),
          (
            beq-fits a2 x0 (pos 24) (lit< tt) (lit< tt) (lit< tt) refl,
            (
              addi-fits a1 x0 (pos 0) (lit< tt) (lit< tt) (lit< tt),
              (
                addi-fits a3 x0 (pos 0) (lit< tt) (lit< tt) (lit< tt),
                (
                  addi-fits a7 x0 (pos 422) (lit< tt) (lit< tt) (lit< tt),
                  (
                    ecall-fits,
                    (
                      jal-near x0 (less 32) (lit< tt) (lit< tt) refl,
                      tt,
                    ),
                  ),
                ),
              ),
            ),
          ),
        ),
      ),
    )

end-fits : (call : ℕ) → call < 2048 → All IsInRange (end call)
end-fits call lt =
    All-from_recursion IsInRange (end call) (
      addi-fits a7 x0 (pos call) (lit< tt) (lit< tt) lt,
      (
        addi-fits a0 x0 (pos 0) (lit< tt) (lit< tt) (lit< tt),
        (
          ecall-fits,
          tt,
        ),
      ),
    )

both : (xs ys : List Instr) → All IsInRange xs → All IsInRange ys → All IsInRange (xs ++ ys)
both xs ys = All-append IsInRange xs ys

main-fits : (size : ℕ) → size ≤ 100000 → All IsInRange (main size)
main-fits size most =
    let ends : List Instr = end 94 in
    let third : List Instr = await 3 ++ ends in
    let second : List Instr = await 2 ++ third in
    let waits : List Instr = await 1 ++ second in
    let calls : List Instr = loop (code_addr + 4 * 30) size ++ waits in
    let last : List Instr = start (code_addr + 4 * 20) 3 ++ calls in
    let more : List Instr = start (code_addr + 4 * 10) 2 ++ last in
    both (start code_addr 1) more (start-fits code_addr 1 (lit≤ tt) (lit< tt) refl (lit< tt))
    (both (start (code_addr + 4 * 10) 2) last (start-fits (code_addr + 4 * 10) 2 (lit≤ tt) (lit< tt) refl (lit< tt))
    (both (start (code_addr + 4 * 20) 3) calls (start-fits (code_addr + 4 * 20) 3 (lit≤ tt) (lit< tt) refl (lit< tt))
    (both (loop (code_addr + 4 * 30) size) waits (loop-fits (code_addr + 4 * 30) size (lit< tt) refl most)
    (both (await 1) second (await-fits 1 (lit< tt))
    (both (await 2) third (await-fits 2 (lit< tt))
    (both (await 3) ends (await-fits 3 (lit< tt)) (end-fits 94 (lit< tt))))))))

child-fits : (size : ℕ) → size ≤ 100000 → All IsInRange (child size)
child-fits size most =
    both (loop child_addr size) (end 93) (loop-fits child_addr size (lit< tt) refl most) (end-fits 93 (lit< tt))

random_below-below : (limit size i : ℕ) → 0 < limit → random_below limit size i < limit
unfolding random_below
random_below-below limit size i some = omega arith

numbered_routine-fits : (size k : ℕ) → k < 32 → All IsInRange (function k (choice size k))
numbered_routine-fits size k lt =
    let word = random_below-below 512 size (3 * k + 2) (lit< tt) in
    let counter : 4 * random_below 512 size (3 * k + 2) < 2048 = omega arith in
    function-fits k (choice size k) lt (random_below-below 32 size (3 * k) (lit< tt))
    (random_below-below 32 size (3 * k + 1) (lit< tt))
    counter

random_below-fits : (size a n : ℕ) → a + n ≤ 32 → All IsInRange (instructions (map (numbered_routine size) (range_with_len a n)))
random_below-fits size a zero le = All-nil IsInRange
random_below-fits size a (suc n) le =
    both (function a (choice size a)) (instructions (map (numbered_routine size) (range_with_len (a + 1) n)))
    (numbered_routine-fits size a (omega arith)) (random_below-fits size (a + 1) n (omega arith))

-- all of them
pub code-fits : (size : ℕ) → size ≤ 100000 → All IsInRange (instructions (routines size))
unfolding routines
code-fits size most =
    let others = instructions (map (numbered_routine size) (range_with_len 0 32)) in
    both (main size) (child size ++ others) (main-fits size most)
    (both (child size) others (child-fits size most) (random_below-fits size 0 32 (lit≤ tt)))
