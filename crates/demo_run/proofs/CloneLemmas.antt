-- The steps in which main makes a thread.
use Rattle.std.proofs.Common.{◌≡◌, ◌≢◌, ℕ, zero, suc, ◌+◌, ◌-◌, ◌*◌, ◌%◌, ◌^◌, ◌<◌, ◌≤◌, true, List, [], ◌∷◌, ◌++◌}
use Rattle.std.proofs.Common.{length, length-append, get_or, refl, sym, ap, ◌∙◌, arith, subst}
use Rattle.std.proofs.Common.{Some, inl, inr}
use Rattle.std.specs.Prelude.{slice_get, slice_set, ◌==◌}
use Rattle.std.proofs.lemmas.Bool.{cases_Bool, eqb-true, eqb-false}
use Rattle.std.proofs.lemmas.List.{get_or_append_left, get_or-append_right}
use Rattle.guest_mem.specs.Memory.{Memory, load_at, may}
use Rattle.guest_load.specs.declared.thread.Thread.{Thread}
use Rattle.guest_sys.specs.Kernel.{kernel_of}
use Rattle.guest_sys.specs.declared.caller.Caller.{Caller}
use Rattle.guest_sys.specs.declared.effect.Act.TheVariants as act
use Rattle.guest_sched.specs.declared.turns.Fate.TheVariants as fate
use Rattle.guest_sched.specs.Engine.{Engine}
use Rattle.demo_make.specs.Layout.{child_addr}
use Rattle.demo_run.proofs.MemoryLemmas.{load-back, may-part}
use Rattle.demo_run.proofs.Amid.{IsHeld, Slot, Will}
use Rattle.demo_run.proofs.Places.{IsAt, IsBehind, Registers, await_addr, cloning, ending, listed, looking, start_addr}
use Rattle.demo_run.proofs.Places.{word_of}
use Rattle.demo_run.proofs.WayLemmas as way
use Rattle.demo_run.proofs.WayLemmas.{each}
use Rattle.demo_run.proofs.SystemCalls.{after_clone, caller}
use Rattle.demo_run.proofs.SystemLemmas as call
use Rattle.demo_run.proofs.Ways.{AreGiven, AreOnWays, AreOthers, Brings, IsAtStop, IsOnWay, IsRunning, IsUnderWay}
use Rattle.demo_run.proofs.Ways.{LeadsTo, Stop, clear_of, number_at_stop, own_base, own_len, stop_addr, way_behind}
use Rattle.demo_run.proofs.StackLemmas.{word_may}
use Rattle.demo_run.proofs.StepLemmas.{all_moved, given_at, given_set}
use Rattle.demo_run.proofs.ThenLemmas.{from_there, will-map, will-then}
use Rattle.demo_run.proofs.CaseLemmas.{called_leads, calling, makes_call, on_stop}
use Rattle.demo_run.proofs.ThreadCases.{after, each_way_kept, same_length, stored_other, stored_way}

-- ---- one thread more

others_more : (n : ℕ) (ts : List Thread) (t : Thread) → t.no.0 ≢ n → AreOthers n ts → AreOthers n (ts ++ t ∷ [])
others_more n [] t other others = (other, tt)
others_more n (u ∷ ts) t other others = (others.0, others_more n ts t other others.1)

given_more : (made : ℕ) (ts : List Thread) (t : Thread) → t.no.0 ≤ made + 1 → AreGiven made ts
    → AreGiven (made + 1) (ts ++ t ∷ [])
given_more made [] t few given = (few, tt)
given_more made (u ∷ ts) t few given = (let low = given.0 in omega arith, given_more made ts t few given.1)

ways_more : (size made : ℕ) (m : Memory) (ways : List (Stop × ℕ)) (ts : List Thread) (t : Thread) (way : Stop × ℕ)
    → AreGiven made ts → t.no.0 ≡ made + 1 → IsOnWay size m way t → AreOnWays size m ways ts
    → AreOnWays size m (ways ++ way ∷ []) (ts ++ t ∷ [])
ways_more size made m [] [] t way given number new all = (new, tt, tt)
ways_more size made m [] (u ∷ ts) t way given number new all = absurd all
ways_more size made m (v ∷ ways) [] t way given number new all = absurd all
ways_more size made m (v ∷ ways) (u ∷ ts) t way given number new all =
    let low = given.0 in (
      all.0,
      others_more u.no.0 ts t (omega arith) all.1,
      ways_more size made m ways ts t way given.1 number new all.2,
    )

still_there : (ts more : List Thread) (place : ℕ) (t : Thread) → slice_get ts place ≡ Some t
    → slice_get (ts ++ more) place ≡ Some t
still_there [] more place t is = cc
still_there (u ∷ ts) more zero t is = is
still_there (u ∷ ts) more (suc place) t is = still_there ts more place t is

-- ---- the two ways

module _ (size t : ℕ) (r : Registers) (some : 1 ≤ size) (most : size ≤ 100000) (lt : t < 3) where
  abbrev base : ℕ
  base = own_base (suc (suc t))

  abbrev len : ℕ
  len = own_len (suc (suc t))

  abbrev main_base : ℕ
  main_base = own_base 1

  abbrev main_len : ℕ
  main_len = own_len 1

  abbrev new_registers : Registers
  new_registers = record (cloning t r) { sp = 0x28000 + 0x4000 * t; tp = 0; a0 = 0 }

  new_way : r.s0 < 2 ^ 32 → Will size base len (947 * size + 5)
      (start_addr t + 36)
      (listed new_registers) [] (IsAtStop (Stop.ends t))
  new_way word =
      will-map size base len (947 * size + 5) (start_addr t + 36)
      (listed new_registers) []
      (IsBehind (child_addr + 32) (ending 93) new_registers []) (IsAtStop (Stop.ends t))
      (λ pc x slots at. (record new_registers { ra = at.0; t1 = at.1; t2 = at.2; s1 = 0; a0 = at.3 }, at.4, tt))
      (way.child_ends size base len [] (0x28000 + 0x4000 * t - 16) t
      new_registers some most lt
      (omega arith)
      (record { low = omega arith; high = omega arith; room = omega arith; top = omega arith; s0 = word; above = tt })
      refl)

  module _ (answer : ℕ) (answered : answer ≢ 0) (room : Brings (Stop.makes t) r) where
    abbrev after_registers : Registers
    after_registers = record (cloning t r) { a0 = answer }

    abbrev OnWay : ℕ → Type 0
    OnWay u = Will size main_base main_len (way_behind size u).1 (start_addr u + 36) (listed after_registers) []
        (IsAtStop (way_behind size u).0)

    looked : (q : Registers) → Will size main_base main_len 2 (await_addr 0) (listed q) []
        (IsAtStop (Stop.looks 0))
    looked q =
        will-map size main_base main_len 2 (await_addr 0) (listed q) [] (IsAt (await_addr 0 + 8) (looking 0 q) [])
        (IsAtStop (Stop.looks 0)) (λ pc x slots at. (q, at, tt))
        (way.looks size main_base main_len [] 0 q (omega arith))

    main_way : OnWay t
    main_way =
        let count : 947 * size + 3 + 2 ≡ 947 * size + 5 = omega arith in
        each OnWay
        (will-map size main_base main_len 9 (start_addr 0 + 36) (listed after_registers) []
        (IsAt (start_addr 1 + 32) (cloning 1 after_registers) []) (IsAtStop (Stop.makes 1))
        (λ pc x slots at. (after_registers, at, room))
        (way.next size main_base main_len [] 0 after_registers (omega arith) answered))
        (will-map size main_base main_len 9 (start_addr 1 + 36) (listed after_registers) []
        (IsAt (start_addr 2 + 32) (cloning 2 after_registers) []) (IsAtStop (Stop.makes 2))
        (λ pc x slots at. (after_registers, at, room))
        (way.next size main_base main_len [] 1 after_registers (omega arith) answered))
        (subst (λ n. Will size main_base main_len n (start_addr 2 + 36) (listed after_registers) []
        (IsAtStop (Stop.looks 0))) count
        (will-then size main_base main_len 2 (IsBehind (await_addr 0) (λ q. q) after_registers [])
        (IsAtStop (Stop.looks 0))
        (λ pc x slots at. from_there size main_base main_len 2 (await_addr 0) pc x
        (record after_registers { ra = at.0; t1 = at.1; t2 = at.2; s1 = 0; a0 = at.3 }) [] slots
        (IsAtStop (Stop.looks 0)) at.4
        (looked (record after_registers { ra = at.0; t1 = at.1; t2 = at.2; s1 = 0; a0 = at.3 })))
        (947 * size + 3) (start_addr 2 + 36) (listed after_registers) []
        (way.calls size main_base main_len [] room.0 after_registers some most answered room.1 room.2))) t lt

-- the new stack lies in the segment of zeros
new_held : (size base len t : ℕ) (slots : List Slot) (m : Memory) → t < 3 → IsHeld size base len slots m
    → IsHeld size (own_base (suc (suc t))) (own_len (suc (suc t))) [] m
new_held size base len t slots m lt h = record {
  code = h.code;
  main = h.main;
  child = h.child;
  reads_stack = stack 1 h.reads_data;
  writes_stack = stack 2 h.writes_data;
  reads_data = h.reads_data;
  writes_data = h.writes_data;
  stored = tt;
  within = tt;
}
  where
    stack : (want : ℕ) → may m want 0x20000 0x10000 ≡ true → may m want (own_base (suc (suc t)))
        (own_len (suc (suc t))) ≡ true
    stack want ok =
        let place : 0x20000 + (0x4000 + 0x4000 * t) ≡ own_base (suc (suc t)) = omega arith in
        subst (λ a. may m want a 0x4000 ≡ true) place
        (may-part m want 0x20000 0x10000 (0x4000 + 0x4000 * t) 0x4000 (omega arith) ok)

module _ (size : ℕ) (ways : List (Stop × ℕ)) (words : List ℕ) (w : Engine) (c : Caller)
    (is : IsUnderWay size ways words w) (running : IsRunning w c) (t : ℕ) (lt : t < 3) (next : t ≡ length words)
    (some : 1 ≤ size) (most : size ≤ 100000) (few_ways : length ways ≤ 4)
    (here : get_or ways c.place (Stop.makes t, 0) ≡ (Stop.makes t, 0)) where
  abbrev m : Memory
  m = w.kernel.guest.mem

  abbrev made : ℕ
  made = w.kernel.guest.made

  abbrev on : IsOnWay size m (Stop.makes t, 0) c.thread
  on = on_stop size ways words w c is running (Stop.makes t) here

  abbrev r : Registers
  r = on.will.0

  number : suc (suc t) ≡ made + 1
  number = omega arith

  ok : may m 2 (word_of (t + 1)) 4 ≡ true
  ok = word_may 2 t m lt on.held.writes_data

  abbrev m' : Memory
  m' = after size t (made + 1) m lt ok

  pc_is : start_addr t + 36 ≡ (stop_addr (Stop.makes t) + 4) % 2 ^ 32
  pc_is = omega arith

  abbrev new : Thread
  new = record {
    no = record { 0 = made + 1 };
    regs = record { pc = (stop_addr (Stop.makes t) + 4) % 2 ^ 32; x = listed (new_registers size t r some most lt) };
    clear = word_of (t + 1);
  }

  new_on_way : IsOnWay size m (Stop.ends t, 947 * size + 5) new
  new_on_way = record {
    number = sym number;
    some = omega arith;
    few = let now = number in omega arith;
    clears = ap clear_of number;
    slots = [];
    held = subst (λ n. IsHeld size (own_base n) (own_len n) [] m) number
        (new_held size (own_base c.thread.no.0) (own_len c.thread.no.0) t on.slots m lt on.held);
    will = subst (λ n. Will size (own_base n) (own_len n) (947 * size + 5) ((stop_addr (Stop.makes t) + 4) % 2 ^ 32)
        (listed (new_registers size t r some most lt)) [] (IsAtStop (Stop.ends t))) number
        (subst (λ pc. Will size (own_base (suc (suc t))) (own_len (suc (suc t))) (947 * size + 5) pc
        (listed (new_registers size t r some most lt)) [] (IsAtStop (Stop.ends t))) pc_is
        (new_way size t r some most lt on.will.2.2.s0));
  }

  abbrev main_after : Thread
  main_after = record {
    no = c.thread.no;
    regs = record { pc = (stop_addr (Stop.makes t) + 4) % 2 ^ 32; x = listed (record (cloning t r) { a0 = made + 1 }) };
    clear = c.thread.clear;
  }

  main_on_way : IsOnWay size m (way_behind size t) main_after
  main_on_way = record {
    number = on.number ∙ sym (each (λ t. number_at_stop (way_behind size t).0 ≡ 1) refl refl refl t lt);
    some = on.some;
    few = on.few;
    clears = on.clears;
    slots = [];
    held = subst (λ s. IsHeld size (own_base c.thread.no.0) (own_len c.thread.no.0) s m) on.will.1.2 on.held;
    will = subst (λ n. Will size (own_base n) (own_len n) (way_behind size t).1
        ((stop_addr (Stop.makes t) + 4) % 2 ^ 32)
        (listed (record (cloning t r) { a0 = made + 1 })) [] (IsAtStop (way_behind size t).0)) (sym on.number)
        (subst (λ pc. Will size (own_base 1) (own_len 1) (way_behind size t).1 pc
        (listed (record (cloning t r) { a0 = made + 1 })) [] (IsAtStop (way_behind size t).0)) pc_is
        (main_way size t r some most lt (made + 1) (omega arith) on.will.2));
  }

  abbrev all_words : List ℕ
  all_words = words ++ (made + 1) ∷ []

  long : length all_words ≡ length words + 1
  long = length-append words ((made + 1) ∷ [])

  threads : AreOnWays size m' (slice_set (ways ++ (Stop.ends t, 947 * size + 5) ∷ []) c.place (way_behind size t))
      (slice_set (w.kernel.guest.threads ++ new ∷ []) c.place main_after)
  threads =
      all_moved size m' m' (ways ++ (Stop.ends t, 947 * size + 5) ∷ []) (w.kernel.guest.threads ++ new ∷ []) c.place
      c.thread main_after
      (way_behind size t) (still_there w.kernel.guest.threads (new ∷ []) c.place c.thread running.there) refl on.few
      (stored_way size t (made + 1) m lt ok (way_behind size t) main_after main_on_way)
      (λ other width slots apart kept. kept)
      (ways_more size (length words + 1) m' ways w.kernel.guest.threads new (Stop.ends t, 947 * size + 5) is.given
      (omega arith)
      (stored_way size t (made + 1) m lt ok (Stop.ends t, 947 * size + 5) new new_on_way)
      (each_way_kept size m m' (stored_way size t (made + 1) m lt ok) ways w.kernel.guest.threads is.threads))

  given : AreGiven (length words + 1 + 1) (slice_set (w.kernel.guest.threads ++ new ∷ []) c.place main_after)
  given =
      let low = given_at (length words + 1) c.place w.kernel.guest.threads c.thread running.there is.given in
      given_set (length words + 1 + 1) c.place (w.kernel.guest.threads ++ new ∷ []) main_after (omega arith)
      (given_more (length words + 1) w.kernel.guest.threads new (omega arith) is.given)

  words_now : (k : ℕ) → k < length all_words → load_at m' 1 (word_of (k + 1)) 4 ≡ Some (get_or all_words k 0)
  words_now k below = elim (cases_Bool (k == t)) [
    | inl same ↦ subst (λ j. load_at m' 1 (word_of (j + 1)) 4 ≡ Some (get_or all_words j 0)) (sym (eqb-true k t same))
        (load-back m (word_of (t + 1)) (made + 1) ok (let now = number in omega arith)
        (word_may 1 t m lt on.held.reads_data)
        ∙ ap Some (sym (get_or-append_right words ((made + 1) ∷ []) (length words) t 0 refl (omega arith)
        ∙ ap (λ j. get_or ((made + 1) ∷ []) j 0) last)))
    | inr other ↦ (let away = eqb-false k t other in
        stored_other size t (made + 1) m lt ok k (get_or words k 0) away (is.words_are k (let l = long in omega arith))
        ∙ ap Some (sym (get_or_append_left words ((made + 1) ∷ []) 0 k (let l = long in omega arith))))
  ]
    where
      last : t - length words ≡ 0
      last = omega arith

  pub made_thread : LeadsTo size (slice_set (ways ++ (Stop.ends t, 947 * size + 5) ∷ []) c.place (way_behind size t))
      all_words fate.Runs
      (record { 0 = made + 1 } ∷ []) w.kernel.waits w
  made_thread =
      let several = same_length size m ways w.kernel.guest.threads is.threads in
      let now = is.made in
      let l = long in
      called_leads size _ all_words w
      (caller c.place c.thread.no (stop_addr (Stop.makes t)) (cloning t r) c.thread.clear)
      (act.Spawn (record { 0 = made + 1 })) []
      (kernel_of (after_clone t w.kernel.guest c.place c.thread.no (stop_addr (Stop.makes t)) r c.thread.clear)
      w.kernel.waits)
      (call.cloned w t c.place (stop_addr (Stop.makes t)) c.thread.clear c.thread.no r
      (calling size ways words w c is running (Stop.makes t) on
      (makes_call size m on.held t lt)) (omega arith)
      (omega arith) ok)
      refl threads (omega arith)
      (subst (λ n. AreGiven (n + 1) (slice_set (w.kernel.guest.threads ++ new ∷ []) c.place main_after))
      (sym long) given) (omega arith)
      words_now
