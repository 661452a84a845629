-- A call of one of f0 to f31 amid other threads.
use Rattle.std.proofs.Common.{drop, inl, inr}
use Rattle.std.proofs.Common.{◌≡◌, ℕ, zero, suc, ◌+◌, ◌*◌, ◌-◌, ◌%◌, ◌^◌, ◌<◌, ◌≤◌, Bool, true, false, cond, ltb, List}
use Rattle.std.proofs.Common.{◌∷◌, refl, sym, arith, subst}
use Rattle.std.proofs.Common.{Some, pos, negsuc, ltb-true, ltb-false}
use Rattle.std.specs.Prelude.{int_lt}
use Rattle.guest_mem.specs.Memory.{Memory, load_at, store_at, may, bytes_of, bytes_at, number_of}
use Rattle.demo_run.proofs.Others.{loaded_bytes}
use Rattle.rv_step.specs.Numbers.{wrapped, signed}
use Rattle.demo_make.specs.Draws.{choice, random_below}
use Rattle.rv_step.specs.Code.{instruction_at}
use Rattle.demo_make.specs.Functions.{function}
use Rattle.demo_make.specs.Instructions.{addi, jal, less, offset}
use Rattle.demo_make.specs.Layout.{function_addr}
use Rattle.demo_run.proofs.Going.{Frame, registers}
use Rattle.demo_run.proofs.MemoryLemmas.{may-part, load-back}
use Rattle.demo_run.proofs.Amid.{AreAbove, IsFrame, IsHeld, Slot, Will, call_steps}
use Rattle.demo_run.proofs.WillLemmas.{above-less, held-after, held-more, will-addi, will-branch, will-forget}
use Rattle.demo_run.proofs.WillLemmas.{will-jal}
use Rattle.demo_run.proofs.MoveLemmas.{First, stands}
use Rattle.demo_run.proofs.WillLemmas.{will-lui, will-lw, will-pass, will-return, will-sw}

-- where an offset leads
pub leads : (p from to : ℕ) → p ≡ from → from < 2 ^ 31 → to < 2 ^ 31 → (p + wrapped (offset from to)) % 2 ^ 32 ≡ to
leads p zero to same low high = omega arith
leads p (suc from) to same low high = go (ltb to (suc from)) refl
  where
    go : (b : Bool) → ltb to (suc from) ≡ b
        → (p + wrapped (cond b (negsuc (suc from - suc to)) (pos (to - suc from)))) % 2 ^ 32 ≡ to
    go true e = let lt = ltb-true to (suc from) e in omega arith
    go false e = let ge = ltb-false to (suc from) e in omega arith

drawn-below : (limit size i : ℕ) → 0 < limit → random_below limit size i < limit
unfolding random_below
drawn-below limit size i some = omega arith

-- one that isn't below 0
not_less : (n : ℕ) → n ≤ 4 → int_lt (signed n) (signed 0) ≡ false
not_less zero le = refl
not_less (suc zero) le = refl
not_less (suc (suc zero)) le = refl
not_less (suc (suc (suc zero))) le = refl
not_less (suc (suc (suc (suc zero)))) le = refl
not_less (suc (suc (suc (suc (suc n))))) le = absurd (omega arith)

stack-may : (m : Memory) (want base len b : ℕ) → may m want base len ≡ true → base ≤ b → b + 4 ≤ base + len
    → may m want b 4 ≡ true
stack-may m want base len b ok low high =
    let same : base + (b - base) ≡ b = omega arith in
    subst (λ q. may m want q 4 ≡ true) same (may-part m want base len (b - base) 4 (omega arith) ok)

module _ (size base len n k depth : ℕ) (f : Frame) (slots : List Slot) (lt : k < 32) (few : n < 2 ^ 31)
    (frame : IsFrame base len depth f slots) (Post : ℕ → List ℕ → List Slot → Type 0) where
  abbrev a : ℕ
  a = function_addr k

  -- where its instructions stand, counted from 0
  abbrev at : ℕ → ℕ
  at j = a + 4 * j

  code : (j : ℕ) {stored : List Slot} (m : Memory) → IsHeld size base len stored m
      → First m (at j) (drop j (function k (choice size k)))
  code j m h = stands m a (function k (choice size k)) j (h.code k lt)

  abbrev counter : ℕ
  counter = 0x20000 + (choice size k).counter

  small : (choice size k).counter + 4 ≤ 2048
  small = let below = drawn-below 512 size (3 * k + 2) (omega arith) in omega arith

  abbrev slots1 : List Slot
  slots1 = record { addr = f.low + 12; value = f.ra } ∷ slots

  abbrev slots2 : List Slot
  slots2 = record { addr = f.low + 8; value = f.s0 } ∷ slots1

  abbrev regs : ℕ → ℕ → ℕ → ℕ → ℕ → ℕ → List ℕ
  regs ra sp t1 t2 s0 a0 = 0 ∷ ra ∷ sp ∷ f.x3 ∷ f.x4 ∷ f.x5 ∷ t1 ∷ t2 ∷ s0 ∷ f.s1 ∷ a0 ∷ f.rest

  -- a word is put below what the thread stored before
  put : (from value : ℕ) (stored : List Slot) → from ≤ 12 → value < 2 ^ 32 → AreAbove (f.low + from + 4) stored
      → (m : Memory) → IsHeld size base len stored m
      → (may m 2 (f.low + from) 4 ≡ true)
      × IsHeld size base len (record { addr = f.low + from; value = value } ∷ stored)
      (store_at m (f.low + from) (bytes_of 4 value))
  put from value stored inside short above m h =
      let ok = stack-may m 2 base len (f.low + from) h.writes_stack (omega arith) (omega arith) in
      let readable = stack-may m 1 base len (f.low + from) h.reads_stack (omega arith) (omega arith) in (
        ok,
        held-more size base len stored (store_at m (f.low + from) (bytes_of 4 value))
            (record { addr = f.low + from; value = value })
            (held-after size base len stored m (f.low + from) value h (omega arith) ok above)
            (load-back m (f.low + from) value ok short readable) (omega arith) (omega arith),
      )

  above2 : AreAbove f.low slots2
  above2 = (omega arith, (omega arith, above-less (f.low + 16) f.low slots (omega arith) frame.above))

  put_count : (v : ℕ) (m : Memory) → IsHeld size base len slots2 m
      → (may m 2 counter 4 ≡ true) × IsHeld size base len slots2 (store_at m counter (bytes_of 4 v))
  put_count v m h =
      let below = small in
      let ok = may-part m 2 0x20000 0x10000 (choice size k).counter 4 (omega arith) h.writes_data in (
        ok,
        held-after size base len slots2 m counter v h (omega arith) ok
            (above-less f.low (counter + 4) slots2 (omega arith) above2),
      )

  -- the registers are put back
  module _ (more t1 t2 a0 : ℕ) (rest : Will size base len more f.ra (registers f t1 t2 a0) slots Post) where
    at16 : Will size base len (suc more) (at 16) (regs f.ra (f.low + 16) t1 t2 f.s0 a0) slots2 Post
    at16 = will-forget size base len more Post (at 16) _ (record { addr = f.low + 8; value = f.s0 }) slots1
        (will-forget size base len more Post (at 16) _ (record { addr = f.low + 12; value = f.ra }) slots
        (will-return size base len more Post (at 16) (regs f.ra (f.low + 16) t1 t2 f.s0 a0) slots f.ra frame.ra_aligned
        1
        (code 16) (omega arith) rest))

    at15 : Will size base len (suc (suc more)) (at 15) (regs f.ra f.low t1 t2 f.s0 a0) slots2 Post
    at15 = will-addi size base len (suc more) Post (at 15) _ slots2 (at 16) (omega arith) 2 2 (pos 16) (f.low + 16)
        (code 15)
        (omega arith) at16

    at14 : (ra : ℕ) → Will size base len (suc (suc (suc more))) (at 14) (regs ra f.low t1 t2 f.s0 a0) slots2 Post
    at14 ra = will-lw size base len (suc (suc more)) Post (at 14) _ slots2 (at 15) (omega arith) 1 (pos 12) 2
        (f.low + 12) (code 14)
        (omega arith) (λ m h. (f.ra, h.stored.1.0, at15))

    at13 : (ra s0 : ℕ) → Will size base len (suc (suc (suc (suc more)))) (at 13) (regs ra f.low t1 t2 s0 a0) slots2 Post
    at13 ra s0 = will-lw size base len (suc (suc (suc more))) Post (at 13) _ slots2 (at 14) (omega arith) 8 (pos 8) 2
        (f.low + 8) (code 13)
        (omega arith) (λ m h. (f.s0, h.stored.0, at14 ra))

  -- the counter is raised
  module _ (v rem : ℕ) (is_v : (n + 4294967295) % 2 ^ 32 ≡ v)
      (rest : (t2 : ℕ) → Will size base len rem (at 8) (regs f.ra f.low 0x20000 t2 v n) slots2 Post) where
    at7 : (t2 : ℕ) → Will size base len (suc rem) (at 7) (regs f.ra f.low 0x20000 t2 v n) slots2 Post
    at7 t2 = let below = small in
        will-sw size base len rem Post (at 7) _ slots2 (at 8) (omega arith) 7 (pos (choice size k).counter) 6 counter
        t2 slots2
        (code 7) (omega arith) refl (omega arith) (inr (omega arith)) (put_count t2) (rest t2)

    at6 : (t2 : ℕ) → Will size base len (suc (suc rem)) (at 6) (regs f.ra f.low 0x20000 t2 v n) slots2 Post
    at6 t2 =
        will-addi size base len (suc rem) Post (at 6) _ slots2 (at 7) (omega arith) 7 7 (pos 1) ((t2 + 1) % 2 ^ 32)
        (code 6) refl
        (at7 ((t2 + 1) % 2 ^ 32))

    at5 : Will size base len (suc (suc (suc rem))) (at 5) (regs f.ra f.low 0x20000 f.t2 v n) slots2 Post
    at5 = let below = small in
        will-lw size base len (suc (suc rem)) Post (at 5) _ slots2 (at 6) (omega arith) 7 (pos (choice size k).counter)
        6 counter (code 5)
        (omega arith) (λ m h. (number_of (bytes_at m counter 4), counted m h, at6 (number_of (bytes_at m counter 4))))
      where
        counted : (m : Memory) → IsHeld size base len slots2 m
            → load_at m 1 counter 4 ≡ Some (number_of (bytes_at m counter 4))
        counted m h =
            let below = small in
            sym (loaded_bytes m 1 counter 4 (number_of (bytes_at m counter 4))
            (may-part m 1 0x20000 0x10000 (choice size k).counter 4 (omega arith) h.reads_data) refl)

    at4 : Will size base len (suc (suc (suc (suc rem)))) (at 4) (regs f.ra f.low f.t1 f.t2 v n) slots2 Post
    at4 = will-lui size base len (suc (suc (suc rem))) Post (at 4) _ slots2 (at 5) (omega arith) 6 0x20 0x20000
        (code 4) refl at5

    at3 : Will size base len (suc (suc (suc (suc (suc rem))))) (at 3) (regs f.ra f.low f.t1 f.t2 f.s0 n) slots2 Post
    at3 = will-addi size base len (suc (suc (suc (suc rem)))) Post (at 3) _ slots2 (at 4) (omega arith) 8 10 (less 1) v
        (code 3) is_v at4

    at2 : Will size base len (suc (suc (suc (suc (suc (suc rem)))))) (at 2) (regs f.ra f.low f.t1 f.t2 f.s0 n) slots1
        Post
    at2 = will-sw size base len (suc (suc (suc (suc (suc rem))))) Post (at 2) _ slots1 (at 3) (omega arith) 8 (pos 8) 2
        (f.low + 8) f.s0 slots2 (code 2)
        (omega arith) refl (omega arith) (inl (omega arith, omega arith))
        (put 8 f.s0 slots1 (omega arith) frame.s0
        (omega arith, above-less (f.low + 16) (f.low + 8 + 4) slots (omega arith) frame.above)) at3

    at1 : Will size base len (suc (suc (suc (suc (suc (suc (suc rem))))))) (at 1) (regs f.ra f.low f.t1 f.t2 f.s0 n)
        slots Post
    at1 = will-sw size base len (suc (suc (suc (suc (suc (suc rem)))))) Post (at 1) _ slots (at 2) (omega arith) 1
        (pos 12) 2 (f.low + 12) f.ra slots1 (code 1)
        (omega arith) refl (omega arith) (inl (omega arith, omega arith))
        (put 12 f.ra slots (omega arith) frame.ra
        (above-less (f.low + 16) (f.low + 12 + 4) slots (omega arith) frame.above)) at2

    at0 : Will size base len (suc (suc (suc (suc (suc (suc (suc (suc rem)))))))) a (registers f f.t1 f.t2 n) slots Post
    at0 = will-addi size base len (suc (suc (suc (suc (suc (suc (suc rem))))))) Post a _ slots (at 1) (omega arith) 2 2
        (less 16) f.low (λ m h. (h.code k lt).0)
        (omega arith) at1

  -- a call with 0
  leaf : (more : ℕ) → n ≡ 0 → ((t1 t2 a0 : ℕ) → Will size base len more f.ra (registers f t1 t2 a0) slots Post)
      → Will size base len (call_steps 0 + more) a (registers f f.t1 f.t2 n) slots Post
  leaf more none rest =
      let count : suc (suc (suc (suc (suc (suc (suc (suc (suc (suc (suc (suc (suc more))))))))))))
      ≡ call_steps 0 + more = omega arith in
      subst (λ q. Will size base len q a (registers f f.t1 f.t2 n) slots Post) count
      (at0 4294967295 (suc (suc (suc (suc (suc more))))) (omega arith) (λ t2.
      will-branch size base len (suc (suc (suc (suc more)))) Post (at 8) _ slots2 (at 13) (omega arith) 8 0
      (pos (4 * 5)) (code 8) refl (omega arith)
      (at13 more 0x20000 t2 n (rest 0x20000 t2 n) f.ra 4294967295)))

abbrev pub Calls : (size base len n : ℕ) → Type 1
Calls size base len n = (k : ℕ) → k < 32 → (f : Frame) (slots : List Slot) → IsFrame base len n f slots → (more : ℕ)
    (Post : ℕ → List ℕ → List Slot → Type 0)
    → ((t1 t2 a0 : ℕ) → Will size base len more f.ra (registers f t1 t2 a0) slots Post)
    → Will size base len (call_steps n + more) (function_addr k) (registers f f.t1 f.t2 n) slots Post

-- a call of a function that calls two others
module _ (size base len n k : ℕ) (few : suc n ≤ 5) (calls_n : Calls size base len n) (lt : k < 32) (f : Frame)
    (slots : List Slot)
    (frame : IsFrame base len (suc n) f slots) (more : ℕ) (Post : ℕ → List ℕ → List Slot → Type 0)
    (rest : (t1 t2 a0 : ℕ) → Will size base len more f.ra (registers f t1 t2 a0) slots Post) where
  short : suc n < 2 ^ 31
  short = omega arith

  abbrev stored : List Slot
  stored = slots2 size base len (suc n) k (suc n) f slots lt short frame Post

  abbrev now : ℕ → ℕ → ℕ → ℕ → ℕ → ℕ → List ℕ
  now = regs size base len (suc n) k (suc n) f slots lt short frame Post

  abbrev there : ℕ → ℕ
  there = at size base len (suc n) k (suc n) f slots lt short frame Post

  code_there : (j : ℕ) (m : Memory) → IsHeld size base len stored m
      → First m (there j) (drop j (function k (choice size k)))
  code_there j m h = code size base len (suc n) k (suc n) f slots lt short frame Post j m h

  abbrev inner : ℕ → ℕ → ℕ → Frame
  inner ra t1 t2 = record {
    ra = ra;
    low = f.low - 16;
    x3 = f.x3;
    x4 = f.x4;
    x5 = f.x5;
    t1 = t1;
    t2 = t2;
    s0 = n;
    s1 = f.s1;
    rest = f.rest;
  }

  inner_frame : (ra t1 t2 : ℕ) → ra < 2 ^ 32 → ra % 4 ≡ 0 → IsFrame base len n (inner ra t1 t2) stored
  inner_frame ra t1 t2 word aligned =
      record {
        low = frame.low;
        high = frame.high;
        room = omega arith;
        top = omega arith;
        ra = word;
        ra_aligned = aligned;
        s0 = omega arith;
        above = (omega arith, (omega arith, above-less (f.low + 16) (f.low - 16 + 16) slots (omega arith) frame.above));
      }

  -- a function is called by its number, and goes back
  goes : (callee ra t1 t2 left : ℕ) → callee < 32 → ra < 2 ^ 32 → ra % 4 ≡ 0
      → ((t1' t2' a0 : ℕ) → Will size base len left ra (now ra f.low t1' t2' n a0) stored Post)
      → Will size base len (call_steps n + left) (function_addr callee) (now ra f.low t1 t2 n n) stored Post
  goes callee ra t1 t2 left within word aligned goes_on =
      let low_is : f.low - 16 + 16 ≡ f.low = omega arith in
      subst (λ sp. Will size base len (call_steps n + left) (function_addr callee) (now ra sp t1 t2 n n) stored Post)
      low_is
      (calls_n callee within (inner ra t1 t2) stored (inner_frame ra t1 t2 word aligned) left Post
      (λ t1' t2' a0. subst (λ sp. Will size base len left ra (now ra sp t1' t2' n a0) stored Post) (sym low_is)
      (goes_on t1' t2' a0)))

  -- the same from the instruction that passes n on
  calls_at : (j callee ra t1 t2 a0 left : ℕ) → j < 12 → callee < 32
      → ((m : Memory) → IsHeld size base len stored m → instruction_at m (there j) ≡ Some (addi 10 8 (pos 0)))
      → ((m : Memory) → IsHeld size base len stored m
      → instruction_at m (there (suc j)) ≡ Some (jal 1 (offset (function_addr k + 4 * suc j) (function_addr callee))))
      → ((t1' t2' a0' : ℕ)
      → Will size base len left (there (suc (suc j))) (now (there (suc (suc j))) f.low t1' t2' n a0') stored Post)
      → Will size base len (suc (suc (call_steps n + left))) (there j) (now ra f.low t1 t2 n a0) stored Post
  calls_at j callee ra t1 t2 a0 left inside within passes jumps goes_on =
      will-addi size base len (suc (call_steps n + left)) Post (there j) _ stored (there (suc j)) (omega arith) 10 8
      (pos 0) n passes
      (omega arith)
      (will-jal size base len (call_steps n + left) Post (there (suc j)) (now ra f.low t1 t2 n n) stored
      (function_addr callee)
      (omega arith) 1 (offset (function_addr k + 4 * suc j) (function_addr callee)) (there (suc (suc j))) jumps
      (leads (there (suc j)) (function_addr k + 4 * suc j) (function_addr callee) refl (omega arith) (omega arith))
      (omega arith)
      (goes callee (there (suc (suc j))) t1 t2 left within (omega arith) (omega arith) goes_on))

  second : (t1 t2 a0 : ℕ)
      → Will size base len (suc (suc (call_steps n + suc (suc (suc (suc more)))))) (there 11)
      (now (there 11) f.low t1 t2 n a0) stored Post
  second t1 t2 a0 =
      calls_at 11 (choice size k).second (there 11) t1 t2 a0 (suc (suc (suc (suc more)))) (omega arith)
      (drawn-below 32 size (3 * k + 1) (omega arith))
      (code_there 11) (code_there 12) (λ t1' t2' a0'.
      at13 size base len (suc n) k (suc n) f slots lt short frame Post more t1' t2' a0' (rest t1' t2' a0') (there 13) n)

  first : (t2 : ℕ) → Will size base len
      (suc (suc (suc (call_steps n + suc (suc (call_steps n + suc (suc (suc (suc more))))))))) (there 8)
      (now f.ra f.low 0x20000 t2 n (suc n)) stored Post
  first t2 =
      will-pass size base len (suc (suc (call_steps n + suc (suc (call_steps n + suc (suc (suc (suc more)))))))) Post
      (there 8) _ stored (there 9)
      (omega arith) 8 0 (pos (4 * 5)) (code_there 8) (not_less n (omega arith))
      (calls_at 9 (choice size k).first f.ra 0x20000 t2 (suc n) (suc (suc (call_steps n + suc (suc (suc (suc more))))))
      (omega arith)
      (drawn-below 32 size (3 * k) (omega arith)) (code_there 9) (code_there 10) second)

  deeper : Will size base len (call_steps (suc n) + more) (function_addr k) (registers f f.t1 f.t2 (suc n)) slots Post
  deeper =
      let count : suc (suc (suc
      (suc (suc (suc (suc (suc
      (suc (suc (suc (call_steps n + suc (suc (call_steps n + suc (suc (suc (suc more))))))))))))))))
      ≡ call_steps (suc n) + more = omega arith in
      subst (λ q. Will size base len q (function_addr k) (registers f f.t1 f.t2 (suc n)) slots Post) count
      (at0 size base len (suc n) k (suc n) f slots lt short frame Post n
      (suc (suc (suc (call_steps n + suc (suc (call_steps n + suc (suc (suc (suc more))))))))) (omega arith) first)

-- a call of f0 to f31 with n
pub call : (size base len n : ℕ) → n ≤ 5 → Calls size base len n
call size base len zero few = λ k lt f slots frame more Post rest.
    leaf size base len 0 k 0 f slots lt (omega arith) frame Post more refl rest
call size base len (suc n) few = λ k lt f slots frame more Post rest.
    deeper size base len n k few (call size base len n (omega arith)) lt f slots frame more Post rest
