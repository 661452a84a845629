-- One step amid others, by the kind of its instruction.
use Rattle.std.proofs.Common.{◌⊎◌, inl, inr}
use Rattle.std.proofs.Common.{◌≡◌, ℕ, suc, ◌+◌, ◌-◌, ◌*◌, ◌%◌, ◌^◌, ◌≤◌, Bool, true, false, not, List, [], ◌∷◌, refl}
use Rattle.std.proofs.Common.{sym, ap, ◌∙◌, arith, subst}
use Rattle.std.proofs.Common.{Option, Some, ℤ, pos, cond, inr}
use Rattle.std.specs.Prelude.{slice_index, slice_set, if◌then◌else◌, int_lt, ◌==◌}
use Rattle.std.specs.Option.{option_map}
use Rattle.event_costs.specs.declared.event.Flow.TheVariants.{Plain}
use Rattle.event_costs.specs.declared.event.Touch.TheVariants as touch
use Rattle.event_costs.specs.declared.event.Branch.TheVariants as branch_kind
use Rattle.guest_mem.specs.Memory.{Memory, load_at, store_at, may, bytes_of}
use Rattle.rv_decode.specs.declared.instr.Instr.{Instr}
use Rattle.rv_decode.specs.declared.instr.Op.TheVariants.{BEQ, BLT, BNE}
use Rattle.rv_step.specs.Code.{instruction_at}
use Rattle.rv_step.specs.Effects.{step_of, effect_of}
use Rattle.rv_step.specs.Promises.{UnlessRetired}
use Rattle.rv_step.specs.Forms.{Outcome, computes, loads, reads, stores, branches, jumps, retires, faults}
use Rattle.rv_step.specs.Forms.{misaligned}
use Rattle.rv_step.specs.Numbers.{wrapped, signed}
use Rattle.demo_run.proofs.Others.{step-found}
use Rattle.demo_make.specs.Draws.{choice}
use Rattle.demo_make.specs.Functions.{function, main, child}
use Rattle.demo_make.specs.Instructions.{addi, lui, lw, sw, branch, jal, jalr}
use Rattle.demo_make.specs.Layout.{code_addr, child_addr, function_addr}
use Rattle.demo_run.proofs.Going.{hart}
use Rattle.demo_run.proofs.MemoryLemmas.{load-apart, code-kept, may-kept}
use Rattle.demo_run.proofs.Amid.{AreAbove, AreIn, AreStored, Keeps, IsHeld, IsNext, Slot, Will}

-- a register written; x0 stays 0
abbrev pub set : List ℕ → ℕ → ℕ → List ℕ
set x k value = if k == 0 then x else slice_set x k value

-- ---- stores

stored-kept : (m : Memory) (a v : ℕ) (slots : List Slot) → AreAbove (a + 4) slots → AreStored m slots
    → AreStored (store_at m a (bytes_of 4 v)) slots
stored-kept m a v [] above stored = tt
stored-kept m a v (s ∷ slots) above stored =
    (load-apart m a v 1 s.addr (inr above.0) ∙ stored.0, stored-kept m a v slots above.1 stored.1)

pub above-less : (low lower : ℕ) (slots : List Slot) → lower ≤ low → AreAbove low slots → AreAbove lower slots
above-less low lower [] le above = tt
above-less low lower (s ∷ slots) le above =
    let here = above.0 in
    (omega arith, above-less low lower slots le above.1)

-- a word is stored below the slots, and becomes one, or doesn't
pub held-after : (size base len : ℕ) (slots : List Slot) (m : Memory) (a v : ℕ) → IsHeld size base len slots m
    → 0x20000 ≤ a → may m 2 a 4 ≡ true → AreAbove (a + 4) slots
    → IsHeld size base len slots (store_at m a (bytes_of 4 v))
held-after size base len slots m a v h low ok above = record {
  code = λ k lt. code-kept m a v (function_addr k) (function k (choice size k)) (omega arith) (h.code k lt);
  main = code-kept m a v code_addr (main size) (omega arith) h.main;
  child = code-kept m a v child_addr (child size) (omega arith) h.child;
  reads_stack = may-kept m a v ok 1 base len ∙ h.reads_stack;
  writes_stack = may-kept m a v ok 2 base len ∙ h.writes_stack;
  reads_data = may-kept m a v ok 1 0x20000 0x10000 ∙ h.reads_data;
  writes_data = may-kept m a v ok 2 0x20000 0x10000 ∙ h.writes_data;
  stored = stored-kept m a v slots above h.stored;
  within = h.within;
}

own_or_counter : (base len a other width : ℕ) → ((base ≤ a) × (a + 4 ≤ base + len)) ⊎ (a + 4 ≤ 0x20800)
    → (base + len ≤ other) ⊎ (other + width ≤ base) → 0x20800 ≤ other → (place : ℕ) → other ≤ place
    → place + 4 ≤ other + width
    → (place + 4 ≤ a) ⊎ (a + 4 ≤ place)
own_or_counter base len a other width (inl own) (inl past) low place from to = let below = own.1 in inr (omega arith)
own_or_counter base len a other width (inl own) (inr before) low place from to = let above = own.0 in inl (omega arith)
own_or_counter base len a other width (inr counter) apart low place from to = inr (omega arith)

others-kept : (m : Memory) (base len a v other width : ℕ) (slots : List Slot)
    → ((base ≤ a) × (a + 4 ≤ base + len)) ⊎ (a + 4 ≤ 0x20800)
    → (base + len ≤ other) ⊎ (other + width ≤ base) → 0x20800 ≤ other → AreIn other width slots → AreStored m slots
    → AreStored (store_at m a (bytes_of 4 v)) slots
others-kept m base len a v other width [] own apart low within stored = tt
others-kept m base len a v other width (s ∷ slots) own apart low within stored = (
  load-apart m a v 1 s.addr (own_or_counter base len a other width own apart low s.addr within.0 within.1) ∙ stored.0,
  others-kept m base len a v other width slots own apart low within.2 stored.1,
)

-- a store in the own stack or to a counter
pub keeps-store : (size base len : ℕ) (m : Memory) (a v : ℕ) → 0x20000 ≤ a
    → ((base ≤ a) × (a + 4 ≤ base + len)) ⊎ (a + 4 ≤ 0x20800) → may m 2 a 4 ≡ true
    → Keeps size base len m (store_at m a (bytes_of 4 v))
keeps-store size base len m a v low own ok other width slots is h = record {
  code = λ k lt. code-kept m a v (function_addr k) (function k (choice size k)) (omega arith) (h.code k lt);
  main = code-kept m a v code_addr (main size) (omega arith) h.main;
  child = code-kept m a v child_addr (child size) (omega arith) h.child;
  reads_stack = may-kept m a v ok 1 other width ∙ h.reads_stack;
  writes_stack = may-kept m a v ok 2 other width ∙ h.writes_stack;
  reads_data = may-kept m a v ok 1 0x20000 0x10000 ∙ h.reads_data;
  writes_data = may-kept m a v ok 2 0x20000 0x10000 ∙ h.writes_data;
  stored = others-kept m base len a v other width slots own is.apart is.low h.within h.stored;
  within = h.within;
}

pub held-more : (size base len : ℕ) (slots : List Slot) (m : Memory) (s : Slot) → IsHeld size base len slots m
    → load_at m 1 s.addr 4 ≡ Some s.value → base ≤ s.addr → s.addr + 4 ≤ base + len → IsHeld size base len (s ∷ slots) m
held-more size base len slots m s h is from to = record {
  code = h.code;
  main = h.main;
  child = h.child;
  reads_stack = h.reads_stack;
  writes_stack = h.writes_stack;
  reads_data = h.reads_data;
  writes_data = h.writes_data;
  stored = (is, h.stored);
  within = (from, to, h.within);
}

pub held-fewer : (size base len : ℕ) (slots : List Slot) (m : Memory) (s : Slot) → IsHeld size base len (s ∷ slots) m
    → IsHeld size base len slots m
held-fewer size base len slots m s h = record {
  code = h.code;
  main = h.main;
  child = h.child;
  reads_stack = h.reads_stack;
  writes_stack = h.writes_stack;
  reads_data = h.reads_data;
  writes_data = h.writes_data;
  stored = h.stored.1;
  within = h.within.2;
}

module _ (size base len n : ℕ) (Post : ℕ → List ℕ → List Slot → Type 0) where
  abbrev Rest : ℕ → List ℕ → List Slot → Type 0
  Rest pc x slots = Will size base len n pc x slots Post

  -- what was stored last is of no use any more
  pub will-forget : (pc : ℕ) (x : List ℕ) (s : Slot) (slots : List Slot) → Will size base len (suc n) pc x slots Post
      → Will size base len (suc n) pc x (s ∷ slots) Post
  will-forget pc x s slots will = λ m held h. will m held (held-fewer size base len slots m s h)

  by : (pc : ℕ) (x : List ℕ) (m : Memory) (held : Option ℕ) (i : Instr) → instruction_at m pc ≡ Some i
      → IsNext size base len m (effect_of i (hart pc x m held)) Rest
      → IsNext size base len m (step_of (hart pc x m held)) Rest
  by pc x m held i is next =
      subst (λ (o : Outcome). IsNext size base len m o Rest) (sym (step-found (hart pc x m held) i is)) next

  -- a step that leaves memory as it was
  same_memory : (m : Memory) (o : Outcome) (pc : ℕ) (x : List ℕ) (slots : List Slot) → o.after.memory ≡ m
      → UnlessRetired o.stepped ⊥ → o.after.regs.pc ≡ pc → o.after.regs.x ≡ x → IsHeld size base len slots m
      → Rest pc x slots → IsNext size base len m o Rest
  same_memory m o pc x slots same retires pc_is x_is held rest = record {
    pc = pc;
    x = x;
    slots = slots;
    retires = retires;
    pc_is = pc_is;
    x_is = x_is;
    held = subst (IsHeld size base len slots) (sym same) held;
    keeps = λ other width others is_other kept. subst (IsHeld size other width others) (sym same) kept;
    rest = rest;
  }

  module _ (pc : ℕ) (x : List ℕ) (slots : List Slot) (pc' : ℕ) (next : (pc + 4) % 2 ^ 32 ≡ pc') where
    will-computes : (i : Instr) (v : ℕ) → ((m : Memory) → IsHeld size base len slots m → instruction_at m pc ≡ Some i)
        → ((m : Memory) (held : Option ℕ) → effect_of i (hart pc x m held) ≡ computes i (hart pc x m held) v)
        → Rest pc' (set x i.rd v) slots → Will size base len (suc n) pc x slots Post
    unfolding computes retires
    will-computes i v is same rest = λ m held h. by pc x m held i (is m h)
        (subst (λ (o : Outcome). IsNext size base len m o Rest) (sym (same m held))
        (same_memory m _ pc' (set x i.rd v) slots refl tt next refl h rest))

    pub will-addi : (rd rs1 : ℕ) (imm : ℤ) (v : ℕ)
        → ((m : Memory) → IsHeld size base len slots m → instruction_at m pc ≡ Some (addi rd rs1 imm))
        → (slice_index x rs1 + wrapped imm) % 2 ^ 32 ≡ v → Rest pc' (set x rd v) slots
        → Will size base len (suc n) pc x slots Post
    unfolding effect_of
    will-addi rd rs1 imm v is value rest =
        will-computes (addi rd rs1 imm) v is (λ m held. ap (computes (addi rd rs1 imm) (hart pc x m held)) value) rest

    pub will-lui : (rd up v : ℕ)
        → ((m : Memory) → IsHeld size base len slots m → instruction_at m pc ≡ Some (lui rd up))
        → wrapped (pos (4096 * up)) ≡ v → Rest pc' (set x rd v) slots
        → Will size base len (suc n) pc x slots Post
    unfolding effect_of
    will-lui rd up v is value rest =
        will-computes (lui rd up) v is (λ m held. ap (computes (lui rd up) (hart pc x m held)) value) rest

    pub next-lw : (rd : ℕ) (imm : ℤ) (rs1 a v : ℕ) (m : Memory) (held : Option ℕ) → IsHeld size base len slots m
        → instruction_at m pc ≡ Some (lw rd imm rs1) → (slice_index x rs1 + wrapped imm) % 2 ^ 32 ≡ a
        → load_at m 1 a 4 ≡ Some v → Rest pc' (set x rd v) slots
        → IsNext size base len m (step_of (hart pc x m held)) Rest
    unfolding effect_of loads retires
    next-lw rd imm rs1 a v m held h is addr loaded rest = by pc x m held (lw rd imm rs1) is
        (subst (λ b. IsNext size base len m (outcome_of b (load_at m 1 b 4)) Rest) (sym addr)
        (subst (λ o. IsNext size base len m (outcome_of a o) Rest) (sym loaded)
        (same_memory m _ pc' (set x rd v) slots refl tt next refl h rest)))
      where
        outcome_of : ℕ → Option ℕ → Outcome
        outcome_of b o = reads (lw rd imm rs1) (hart pc x m held) held b 4 (option_map (λ n. n) o)

    pub will-lw : (rd : ℕ) (imm : ℤ) (rs1 a : ℕ)
        → ((m : Memory) → IsHeld size base len slots m → instruction_at m pc ≡ Some (lw rd imm rs1))
        → (slice_index x rs1 + wrapped imm) % 2 ^ 32 ≡ a
        → ((m : Memory) → IsHeld size base len slots m
        → (v : ℕ) × (load_at m 1 a 4 ≡ Some v) × Rest pc' (set x rd v) slots)
        → Will size base len (suc n) pc x slots Post
    will-lw rd imm rs1 a is addr loaded = λ m held h.
        next-lw rd imm rs1 a (loaded m h).0 m held h (is m h) addr (loaded m h).1 (loaded m h).2

    pub will-sw : (rs2 : ℕ) (imm : ℤ) (rs1 a v : ℕ) (after : List Slot)
        → ((m : Memory) → IsHeld size base len slots m → instruction_at m pc ≡ Some (sw rs2 imm rs1))
        → (slice_index x rs1 + wrapped imm) % 2 ^ 32 ≡ a → slice_index x rs2 ≡ v
        → 0x20000 ≤ a → ((base ≤ a) × (a + 4 ≤ base + len)) ⊎ (a + 4 ≤ 0x20800)
        → ((m : Memory) → IsHeld size base len slots m
        → (may m 2 a 4 ≡ true) × IsHeld size base len after (store_at m a (bytes_of 4 v)))
        → Rest pc' x after → Will size base len (suc n) pc x slots Post
    unfolding effect_of stores retires
    will-sw rs2 imm rs1 a v after is addr value low own stored rest = λ m held h. by pc x m held (sw rs2 imm rs1)
        (is m h)
        (subst (λ b. IsNext size base len m (outcome_of m held b (slice_index x rs2) (may m 2 b 4)) Rest) (sym addr)
        (subst (λ w. IsNext size base len m (outcome_of m held a w (may m 2 a 4)) Rest) (sym value)
        (subst (λ o. IsNext size base len m (outcome_of m held a v o) Rest) (sym (stored m h).0) (record {
          pc = pc';
          x = x;
          slots = after;
          retires = tt;
          pc_is = next;
          x_is = refl;
          held = (stored m h).1;
          keeps = keeps-store size base len m a v low own (stored m h).0;
          rest = rest;
        }))))
      where
        outcome_of : Memory → Option ℕ → ℕ → ℕ → Bool → Outcome
        outcome_of m held b w o =
            cond o
            (retires (hart pc x m held) Plain (touch.Write b 4) branch_kind.Nothing
            (hart ((pc + 4) % 2 ^ 32) x (store_at m b (bytes_of 4 w)) held))
            (faults (hart pc x m held))

    will-pass-by : (i : Instr) → ((m : Memory) → IsHeld size base len slots m → instruction_at m pc ≡ Some i)
        → ((m : Memory) (held : Option ℕ) → effect_of i (hart pc x m held) ≡ branches i (hart pc x m held) false)
        → Rest pc' x slots → Will size base len (suc n) pc x slots Post
    unfolding branches retires
    will-pass-by i is same rest = λ m held h. by pc x m held i (is m h)
        (subst (λ (o : Outcome). IsNext size base len m o Rest) (sym (same m held))
        (same_memory m _ pc' x slots refl tt next refl h rest))

    pub will-pass : (rs1 rs2 : ℕ) (imm : ℤ)
        → ((m : Memory) → IsHeld size base len slots m → instruction_at m pc ≡ Some (branch BLT rs1 rs2 imm))
        → int_lt (signed (slice_index x rs1)) (signed (slice_index x rs2)) ≡ false → Rest pc' x slots
        → Will size base len (suc n) pc x slots Post
    unfolding effect_of
    will-pass rs1 rs2 imm is test rest =
        will-pass-by (branch BLT rs1 rs2 imm) is
        (λ m held. ap (branches (branch BLT rs1 rs2 imm) (hart pc x m held)) test) rest

    pub will-leave : (rs1 rs2 : ℕ) (imm : ℤ)
        → ((m : Memory) → IsHeld size base len slots m → instruction_at m pc ≡ Some (branch BNE rs1 rs2 imm))
        → not (slice_index x rs1 == slice_index x rs2) ≡ false → Rest pc' x slots
        → Will size base len (suc n) pc x slots Post
    unfolding effect_of
    will-leave rs1 rs2 imm is test rest =
        will-pass-by (branch BNE rs1 rs2 imm) is
        (λ m held. ap (branches (branch BNE rs1 rs2 imm) (hart pc x m held)) test) rest

    pub will-differ : (rs1 rs2 : ℕ) (imm : ℤ)
        → ((m : Memory) → IsHeld size base len slots m → instruction_at m pc ≡ Some (branch BEQ rs1 rs2 imm))
        → (slice_index x rs1 == slice_index x rs2) ≡ false → Rest pc' x slots
        → Will size base len (suc n) pc x slots Post
    unfolding effect_of
    will-differ rs1 rs2 imm is test rest =
        will-pass-by (branch BEQ rs1 rs2 imm) is
        (λ m held. ap (branches (branch BEQ rs1 rs2 imm) (hart pc x m held)) test) rest

  module _ (pc : ℕ) (x : List ℕ) (slots : List Slot) (to : ℕ) (aligned : to % 4 ≡ 0) where
    will-branch-by : (i : Instr) → ((m : Memory) → IsHeld size base len slots m → instruction_at m pc ≡ Some i)
        → ((m : Memory) (held : Option ℕ) → effect_of i (hart pc x m held) ≡ branches i (hart pc x m held) true)
        → (pc + wrapped i.imm) % 2 ^ 32 ≡ to → Rest to x slots → Will size base len (suc n) pc x slots Post
    unfolding branches retires
    will-branch-by i is same target rest = λ m held h. by pc x m held i (is m h)
        (subst (λ (o : Outcome). IsNext size base len m o Rest) (sym (same m held))
        (subst (λ p. IsNext size base len m (cond (p % 4 == 0)
        (retires (hart pc x m held) Plain touch.Nothing (branch_kind.Cond true) (hart p x m held))
        (misaligned (hart pc x m held))) Rest) (sym target)
        (rw aligned (same_memory m _ to x slots refl tt refl refl h rest))))

    pub will-branch : (rs1 rs2 : ℕ) (imm : ℤ)
        → ((m : Memory) → IsHeld size base len slots m → instruction_at m pc ≡ Some (branch BLT rs1 rs2 imm))
        → int_lt (signed (slice_index x rs1)) (signed (slice_index x rs2)) ≡ true → (pc + wrapped imm) % 2 ^ 32 ≡ to
        → Rest to x slots → Will size base len (suc n) pc x slots Post
    unfolding effect_of
    will-branch rs1 rs2 imm is test target rest =
        will-branch-by (branch BLT rs1 rs2 imm) is
        (λ m held. ap (branches (branch BLT rs1 rs2 imm) (hart pc x m held)) test) target rest

    pub will-repeat : (rs1 rs2 : ℕ) (imm : ℤ)
        → ((m : Memory) → IsHeld size base len slots m → instruction_at m pc ≡ Some (branch BNE rs1 rs2 imm))
        → not (slice_index x rs1 == slice_index x rs2) ≡ true → (pc + wrapped imm) % 2 ^ 32 ≡ to
        → Rest to x slots → Will size base len (suc n) pc x slots Post
    unfolding effect_of
    will-repeat rs1 rs2 imm is test target rest =
        will-branch-by (branch BNE rs1 rs2 imm) is
        (λ m held. ap (branches (branch BNE rs1 rs2 imm) (hart pc x m held)) test) target rest

    pub will-agree : (rs1 rs2 : ℕ) (imm : ℤ)
        → ((m : Memory) → IsHeld size base len slots m → instruction_at m pc ≡ Some (branch BEQ rs1 rs2 imm))
        → (slice_index x rs1 == slice_index x rs2) ≡ true → (pc + wrapped imm) % 2 ^ 32 ≡ to
        → Rest to x slots → Will size base len (suc n) pc x slots Post
    unfolding effect_of
    will-agree rs1 rs2 imm is test target rest =
        will-branch-by (branch BEQ rs1 rs2 imm) is
        (λ m held. ap (branches (branch BEQ rs1 rs2 imm) (hart pc x m held)) test) target rest

    pub will-jal : (rd : ℕ) (imm : ℤ) (back : ℕ)
        → ((m : Memory) → IsHeld size base len slots m → instruction_at m pc ≡ Some (jal rd imm))
        → (pc + wrapped imm) % 2 ^ 32 ≡ to → (pc + 4) % 2 ^ 32 ≡ back
        → Rest to (set x rd back) slots → Will size base len (suc n) pc x slots Post
    unfolding effect_of jumps retires
    will-jal rd imm back is target next rest = λ m held h. by pc x m held (jal rd imm) (is m h)
        (subst (λ p. IsNext size base len m (jumps (jal rd imm) (hart pc x m held) p branch_kind.Nothing) Rest)
        (sym target)
        (rw aligned (same_memory m _ to (set x rd back) slots refl tt refl (ap (set x rd) next) h rest)))

    pub will-return : (rs1 : ℕ)
        → ((m : Memory) → IsHeld size base len slots m → instruction_at m pc ≡ Some (jalr 0 (pos 0) rs1))
        → (slice_index x rs1 + 0) % 2 ^ 32 - (slice_index x rs1 + 0) % 2 ^ 32 % 2 ≡ to
        → Rest to x slots → Will size base len (suc n) pc x slots Post
    unfolding effect_of jumps retires
    will-return rs1 is target rest = λ m held h. by pc x m held (jalr 0 (pos 0) rs1) (is m h)
        (subst (λ p. IsNext size base len m (jumps (jalr 0 (pos 0) rs1) (hart pc x m held) p branch_kind.Indirect)
        Rest) (sym target)
        (rw aligned (same_memory m _ to x slots refl tt refl refl h rest)))
