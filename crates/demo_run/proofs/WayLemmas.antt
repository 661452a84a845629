-- The ways of the demonstration's threads between system calls.
use Rattle.std.proofs.Common.{◌≡◌, ◌≢◌, ℕ, zero, suc, ◌+◌, ◌-◌, ◌*◌, ◌%◌, ◌^◌, ◌<◌, ◌≤◌, true, false, List, [], ◌∷◌}
use Rattle.std.proofs.Common.{take, drop, refl, sym, ◌∙◌, arith, subst}
use Rattle.std.proofs.Common.{pos, inl, inr}
use Rattle.std.specs.Prelude.{◌==◌}
use Rattle.std.proofs.lemmas.Bool.Decides.{nat_tests}
use Rattle.guest_mem.specs.Memory.{Memory}
use Rattle.rv_step.specs.Numbers.{wrapped}
use Rattle.demo_make.specs.Functions.{child, main, upper}
use Rattle.demo_make.specs.Instructions.{less, offset}
use Rattle.demo_make.specs.Layout.{child_addr, code_addr}
use Rattle.demo_run.proofs.Going.{Holds}
use Rattle.demo_run.proofs.Amid.{IsHeld, IsLoop, IsLoopFrame, Slot, Will}
use Rattle.demo_run.proofs.CallLemmas.{leads}
use Rattle.demo_run.proofs.LoopLemmas.{loop_low, loop_there, rounds}
use Rattle.demo_run.proofs.WillLemmas.{will-agree, will-differ, will-jal}
use Rattle.demo_run.proofs.Places.{IsAt, IsBehind, Registers, await_addr, cloning, ending, listed, looking, start_addr}
use Rattle.demo_run.proofs.Places.{waiting}
use Rattle.demo_run.proofs.MoveLemmas.{Move, all_moved, holds_part, will-moves}

-- ---- the moves

abbrev start_moves : ℕ → List Move
start_moves t =
    Move.up 10 0x7d1 ∷ Move.add 10 10 (less 256) ∷ Move.up 11 (0x24 + 4 * t) ∷ Move.up 12 0x21
    ∷ Move.add 12 12 (pos (4 * t)) ∷ Move.add 13 0 (pos 0) ∷ Move.add 14 12 (pos 0) ∷ Move.add 17 0 (pos 220) ∷ []

abbrev look_moves : ℕ → List Move
look_moves t = Move.up 10 0x21 ∷ Move.add 10 10 (pos (4 * t)) ∷ []

abbrev wait_moves : List Move
wait_moves = Move.add 11 0 (pos 0) ∷ Move.add 13 0 (pos 0) ∷ Move.add 17 0 (pos 422) ∷ []

abbrev end_moves : ℕ → List Move
end_moves call = Move.add 17 0 (pos call) ∷ Move.add 10 0 (pos 0) ∷ []

abbrev loop_moves : ℕ → List Move
loop_moves size = Move.up 9 (upper size) ∷ Move.add 9 9 (offset (4096 * upper size) size) ∷ []

-- a thread's number is 0, 1 or 2
pub each : (P : ℕ → Type 0) → P 0 → P 1 → P 2 → (t : ℕ) → t < 3 → P t
each P a b c zero lt = a
each P a b c (suc zero) lt = b
each P a b c (suc (suc zero)) lt = c
each P a b c (suc (suc (suc t))) lt = absurd (omega arith)

differs : (n : ℕ) → n ≢ 0 → (n == 0) ≡ false
differs n some = grind (arith, nat_tests)

agrees : (n : ℕ) → n ≡ 0 → (n == 0) ≡ true
agrees n none = grind (arith, nat_tests)

module _ (size base len : ℕ) (slots : List Slot) where
  -- instructions of main and of child, by their places there
  main_part : (k n : ℕ) (m : Memory) → IsHeld size base len slots m
      → Holds m (code_addr + 4 * k) (take n (drop k (main size)))
  main_part k n m h = holds_part m code_addr (main size) k n h.main

  child_part : (k n : ℕ) (m : Memory) → IsHeld size base len slots m → Holds m (child_addr + 4 * k)
      (take n (drop k (child size)))
  child_part k n m h = holds_part m child_addr (child size) k n h.child

  -- ---- main

  pub first : (r : Registers) → Will size base len 8 (start_addr 0) (listed r) slots
      (IsAt (start_addr 0 + 32) (cloning 0 r) slots)
  first r = will-moves size base len 0 _ slots (start_moves 1) (start_addr 0) (listed r) (omega arith) (main_part 0 8)
      (refl, refl, refl)

  next_0 : (r : Registers) → r.a0 ≢ 0
      → Will size base len 9 (start_addr 0 + 36) (listed r) slots (IsAt (start_addr 1 + 32) (cloning 1 r) slots)
  next_0 r some =
      will-differ size base len 8 _ (start_addr 0 + 36) (listed r) slots (start_addr 1) refl 10 0
      (offset (code_addr + 4 * 9) child_addr) (λ m h. (main_part 9 1 m h).0) (differs r.a0 some)
      (will-moves size base len 0 _ slots (start_moves 2) (start_addr 1) (listed r) (omega arith) (main_part 10 8)
      (refl, refl, refl))

  next_1 : (r : Registers) → r.a0 ≢ 0
      → Will size base len 9 (start_addr 1 + 36) (listed r) slots (IsAt (start_addr 2 + 32) (cloning 2 r) slots)
  next_1 r some =
      will-differ size base len 8 _ (start_addr 1 + 36) (listed r) slots (start_addr 2) refl 10 0
      (offset (code_addr + 4 * 19) child_addr) (λ m h. (main_part 19 1 m h).0) (differs r.a0 some)
      (will-moves size base len 0 _ slots (start_moves 3) (start_addr 2) (listed r) (omega arith) (main_part 20 8)
      (refl, refl, refl))

  pub next : (t : ℕ) (r : Registers) → t < 2 → r.a0 ≢ 0
      → Will size base len 9 (start_addr t + 36) (listed r) slots
      (IsAt (start_addr (t + 1) + 32) (cloning (t + 1) r) slots)
  next zero r lt some = next_0 r some
  next (suc zero) r lt some = next_1 r some
  next (suc (suc t)) r lt some = absurd (omega arith)

  pub looks : (t : ℕ) (r : Registers) → t < 3
      → Will size base len 2 (await_addr t) (listed r) slots (IsAt (await_addr t + 8) (looking t r) slots)
  looks t r lt =
      each (λ t. Will size base len 2 (await_addr t) (listed r) slots (IsAt (await_addr t + 8) (looking t r) slots))
      (will-moves size base len 0 _ slots (look_moves 1) (await_addr 0) (listed r) (omega arith) (main_part 36 2)
      (refl, refl, refl))
      (will-moves size base len 0 _ slots (look_moves 2) (await_addr 1) (listed r) (omega arith) (main_part 45 2)
      (refl, refl, refl))
      (will-moves size base len 0 _ slots (look_moves 3) (await_addr 2) (listed r) (omega arith) (main_part 54 2)
      (refl, refl, refl)) t lt

  pub passes : (t : ℕ) (r : Registers) → t < 3 → r.a2 ≡ 0
      → Will size base len 1 (await_addr t + 12) (listed r) slots (IsAt (await_addr (t + 1)) r slots)
  passes t r lt none =
      each (λ t. Will size base len 1 (await_addr t + 12) (listed r) slots (IsAt (await_addr (t + 1)) r slots))
      (will-agree size base len 0 _ (await_addr 0 + 12) (listed r) slots (await_addr 1) refl 12 0 (pos 24)
      (λ m h. (main_part 39 1 m h).0) (agrees r.a2 none) refl (refl, refl, refl))
      (will-agree size base len 0 _ (await_addr 1 + 12) (listed r) slots (await_addr 2) refl 12 0 (pos 24)
      (λ m h. (main_part 48 1 m h).0) (agrees r.a2 none) refl (refl, refl, refl))
      (will-agree size base len 0 _ (await_addr 2 + 12) (listed r) slots (await_addr 3) refl 12 0 (pos 24)
      (λ m h. (main_part 57 1 m h).0) (agrees r.a2 none) refl (refl, refl, refl)) t lt

  waits_from : (k t : ℕ) (r : Registers) (low : code_addr + 4 * k + 4 + 12 < 2 ^ 32) → code_addr + 4 * k
      ≡ await_addr t + 12 → r.a2 ≢ 0
      → ((m : Memory) → IsHeld size base len slots m → Holds m (code_addr + 4 * k) (take 4 (drop 39 (main size))))
      → Will size base len 4 (code_addr + 4 * k) (listed r) slots (IsAt (code_addr + 4 * k + 16) (waiting r) slots)
  waits_from k t r low is some there =
      will-differ size base len 3 _ (code_addr + 4 * k) (listed r) slots (code_addr + 4 * k + 4) (omega arith) 12 0
      (pos 24)
      (λ m h. (there m h).0) (differs r.a2 some)
      (will-moves size base len 0 _ slots wait_moves (code_addr + 4 * k + 4) (listed r) low (λ m h. (there m h).1)
      (omega arith, refl, refl))

  pub waits : (t : ℕ) (r : Registers) → t < 3 → r.a2 ≢ 0
      → Will size base len 4 (await_addr t + 12) (listed r) slots (IsAt (await_addr t + 28) (waiting r) slots)
  waits t r lt some =
      each (λ t. Will size base len 4 (await_addr t + 12) (listed r) slots (IsAt (await_addr t + 28) (waiting r) slots))
      (waits_from 39 0 r (omega arith) refl some (main_part 39 4))
      (waits_from 48 1 r (omega arith) refl some (main_part 48 4))
      (waits_from 57 2 r (omega arith) refl some (main_part 57 4)) t lt

  pub again : (t : ℕ) (r : Registers) → t < 3
      → Will size base len 1 (await_addr t + 32) (listed r) slots (IsAt (await_addr t) r slots)
  again t r lt =
      each (λ t. Will size base len 1 (await_addr t + 32) (listed r) slots (IsAt (await_addr t) r slots))
      (will-jal size base len 0 _ (await_addr 0 + 32) (listed r) slots (await_addr 0) refl 0 (less 32)
      (await_addr 0 + 36)
      (λ m h. (main_part 44 1 m h).0) refl refl (refl, refl, refl))
      (will-jal size base len 0 _ (await_addr 1 + 32) (listed r) slots (await_addr 1) refl 0 (less 32)
      (await_addr 1 + 36)
      (λ m h. (main_part 53 1 m h).0) refl refl (refl, refl, refl))
      (will-jal size base len 0 _ (await_addr 2 + 32) (listed r) slots (await_addr 2) refl 0 (less 32)
      (await_addr 2 + 36)
      (λ m h. (main_part 62 1 m h).0) refl refl (refl, refl, refl)) t lt

  pub ends : (r : Registers) → Will size base len 2 (await_addr 3) (listed r) slots
      (IsAt (await_addr 3 + 8) (ending 94 r) slots)
  ends r = will-moves size base len 0 _ slots (end_moves 94) (await_addr 3) (listed r) (omega arith) (main_part 63 2)
      (refl, refl, refl)

  -- ---- the loops

  loops_from : (addr sp size' : ℕ) (r : Registers) → size ≡ suc size' → size ≤ 100000 → IsLoop addr
      → r.sp ≡ sp + 16 → IsLoopFrame base len sp r.s0 slots → (more : ℕ) (Post : ℕ → List ℕ → List Slot → Type 0)
      → ((t1 t2 a0 : ℕ) → Will size base len more (addr + 24)
      (listed (record r { ra = addr + 16; t1 = t1; t2 = t2; s1 = 0; a0 = a0 })) slots Post)
      → Will size base len (2 + (947 * size + more)) addr (listed r) slots Post
  loops_from addr sp size' r is most loop pointer frame more Post rest =
      let low = loop_low addr loop in
      will-moves size base len (947 * size + more) Post slots (loop_moves size) addr (listed r) (omega arith)
      (λ m h. let there = loop_there size base len addr slots loop m h in (there.0, (there.1.0, tt)))
      all
    where
      begun : (wrapped (pos (4096 * upper size)) + wrapped (offset (4096 * upper size) size)) % 2 ^ 32 ≡ suc size'
      begun = leads (wrapped (pos (4096 * upper size))) (4096 * upper size) size (omega arith) (omega arith)
          (omega arith) ∙ is

      goes_on : (t1 t2 a0 : ℕ) → Will size base len more (addr + 24)
          (listed (record r { ra = addr + 16; sp = sp + 16; t1 = t1; t2 = t2; s1 = 0; a0 = a0 })) slots Post
      goes_on t1 t2 a0 =
          subst (λ q. Will size base len more (addr + 24)
          (listed (record r { ra = addr + 16; sp = q; t1 = t1; t2 = t2; s1 = 0; a0 = a0 })) slots Post) pointer
          (rest t1 t2 a0)

      all : Will size base len (947 * size + more) (addr + 8) (all_moved (loop_moves size) (listed r)) slots Post
      all =
          subst (λ q. Will size base len (947 * q + more) (addr + 8) (all_moved (loop_moves size) (listed r)) slots
          Post) (sym is)
          (subst (λ v. Will size base len (947 * suc size' + more) (addr + 8) (listed (record r { s1 = v })) slots
          Post) (sym begun)
          (subst (λ q. Will size base len (947 * suc size' + more) (addr + 8)
          (listed (record r { sp = q; s1 = suc size' })) slots Post)
          (sym pointer)
          (rounds size base len addr sp r.gp r.tp r.t0 r.s0
          (r.a1 ∷ r.a2 ∷ r.a3 ∷ r.a4 ∷ r.a5 ∷ r.a6 ∷ r.a7 ∷ r.others) slots loop frame size' (omega arith) r.ra r.t1
          r.t2 r.a0 more
          Post goes_on)))

  pub calls : (sp : ℕ) (r : Registers) → 1 ≤ size → size ≤ 100000 → r.a0 ≢ 0 → r.sp ≡ sp + 16
      → IsLoopFrame base len sp r.s0 slots
      → Will size base len (947 * size + 3) (start_addr 2 + 36) (listed r) slots
      (IsBehind (await_addr 0) (λ after. after) r slots)
  calls sp r some most made pointer frame =
      let count : suc (2 + (947 * size + 0)) ≡ 947 * size + 3 = omega arith in
      subst (λ q. Will size base len q (start_addr 2 + 36) (listed r) slots
      (IsBehind (await_addr 0) (λ after. after) r slots)) count
      (will-differ size base len (2 + (947 * size + 0)) _ (start_addr 2 + 36) (listed r) slots (code_addr + 120) refl
      10 0
      (offset (code_addr + 4 * 29) child_addr) (λ m h. (main_part 29 1 m h).0) (differs r.a0 made)
      (loops_from (code_addr + 120) sp (size - 1) r (omega arith) most (inr refl) pointer frame 0 _
      (λ t1 t2 a0. (code_addr + 136, t1, t2, a0, (refl, refl, refl)))))

  ends_child : (sp : ℕ) (r : Registers) → 1 ≤ size → size ≤ 100000 → r.sp ≡ sp + 16 → IsLoopFrame base len sp r.s0 slots
      → Will size base len (2 + (947 * size + 2)) child_addr (listed r) slots
      (IsBehind (child_addr + 32) (ending 93) r slots)
  ends_child sp r some most pointer frame =
      loops_from child_addr sp (size - 1) r (omega arith) most (inl refl) pointer frame 2 _
      (λ t1 t2 a0. will-moves size base len 0 _ slots (end_moves 93) (child_addr + 24)
      (listed (record r { ra = child_addr + 16; t1 = t1; t2 = t2; s1 = 0; a0 = a0 })) (omega arith) (child_part 6 2)
      (child_addr + 16, t1, t2, a0, (refl, refl, refl)))

  -- a further thread goes to child first
  pub child_ends : (sp t : ℕ) (r : Registers) → 1 ≤ size → size ≤ 100000 → t < 3 → r.sp ≡ sp + 16
      → IsLoopFrame base len sp r.s0 slots → r.a0 ≡ 0
      → Will size base len (947 * size + 5) (start_addr t + 36) (listed r) slots
      (IsBehind (child_addr + 32) (ending 93) r slots)
  child_ends sp t r some most lt pointer frame new =
      let count : suc (2 + (947 * size + 2)) ≡ 947 * size + 5 = omega arith in
      let rest = ends_child sp r some most pointer frame in
      subst (λ q. Will size base len q (start_addr t + 36) (listed r) slots
      (IsBehind (child_addr + 32) (ending 93) r slots)) count
      (each (λ t. Will size base len (suc (2 + (947 * size + 2))) (start_addr t + 36) (listed r) slots
      (IsBehind (child_addr + 32) (ending 93) r slots))
      (will-agree size base len (2 + (947 * size + 2)) _ (start_addr 0 + 36) (listed r) slots child_addr refl 10 0
      (offset (code_addr + 4 * 9) child_addr) (λ m h. (main_part 9 1 m h).0) (agrees r.a0 new) refl rest)
      (will-agree size base len (2 + (947 * size + 2)) _ (start_addr 1 + 36) (listed r) slots child_addr refl 10 0
      (offset (code_addr + 4 * 19) child_addr) (λ m h. (main_part 19 1 m h).0) (agrees r.a0 new) refl rest)
      (will-agree size base len (2 + (947 * size + 2)) _ (start_addr 2 + 36) (listed r) slots child_addr refl 10 0
      (offset (code_addr + 4 * 29) child_addr) (λ m h. (main_part 29 1 m h).0) (agrees r.a0 new) refl rest) t lt)
