-- A step of a thread that is at its stop.
use Rattle.std.proofs.Common.{◌≡◌, ◌≢◌, ℕ, ◌+◌, ◌-◌, ◌%◌, ◌^◌, ◌<◌, ◌≤◌, List, [], ◌++◌, length, get_or, refl, sym, ap}
use Rattle.std.proofs.Common.{◌∙◌, arith, subst}
use Rattle.std.proofs.Common.{◌⊎◌, Some, None, pos, inl, inr}
use Rattle.std.specs.Prelude.{Ok, slice_set, ◌==◌}
use Rattle.std.proofs.lemmas.Bool.{cases_Bool, eqb-true, eqb-false}
use Rattle.event_costs.specs.declared.numbers.ThreadNo.{ThreadNo}
use Rattle.guest_mem.specs.Memory.{Memory, load_at}
use Rattle.rv_step.specs.Code.{instruction_at}
use Rattle.guest_load.specs.declared.thread.Thread.{Thread}
use Rattle.guest_sys.specs.Kernel.{Kernel, kernel_of}
use Rattle.guest_sys.specs.Laws.{spawned_by}
use Rattle.guest_sys.specs.declared.caller.Caller.{Caller}
use Rattle.guest_sys.specs.declared.effect.Act.{Act}
use Rattle.guest_sys.specs.declared.effect.Act.TheVariants as act
use Rattle.guest_futex.specs.Waits.{enqueue}
use Rattle.guest_sched.specs.declared.turns.Fate.TheVariants as fate
use Rattle.guest_sched.specs.Engine.{Engine, engine_after_step}
use Rattle.guest_sched.specs.Step.{MachineStep, exit_of, fate_of, hart_of, step, with_call}
use Rattle.demo_run.proofs.Others.{turned_exit, turned_sys}
use Rattle.demo_make.specs.Functions.{child, main}
use Rattle.demo_make.specs.Instructions.{ecall, lw}
use Rattle.demo_make.specs.Layout.{child_addr, code_addr}
use Rattle.demo_run.proofs.Amid.{IsHeld, IsNext, Slot, Will}
use Rattle.demo_run.proofs.WillLemmas.{next-lw}
use Rattle.rv_step.specs.Effects.{step_of}
use Rattle.demo_run.proofs.Places.{IsAt, Registers, await_addr, ending, listed, looking, waiting, word_of}
use Rattle.demo_run.proofs.MoveLemmas.{holds_part}
use Rattle.demo_run.proofs.WayLemmas as way
use Rattle.demo_run.proofs.WayLemmas.{each}
use Rattle.demo_run.proofs.SystemCalls.{IsCalling, answered, caller, calls}
use Rattle.demo_run.proofs.SystemLemmas as call
use Rattle.demo_run.proofs.Ways.{AreGiven, AreOnWays, IsAtStop, IsOnWay, IsRunning, IsUnderWay, LeadsTo, Stop, at_stop}
use Rattle.demo_run.proofs.Ways.{number_at_stop, own_base, own_len, stop_addr, stop_behind}
use Rattle.demo_run.proofs.StepLemmas.{all_moved, given_at, given_set, next_under_way, on_way, turned_ready}
use Rattle.demo_run.proofs.ThenLemmas.{from_there, will-then}

-- ---- a call, whichever it is

pub called_leads : (size : ℕ) (ways : List (Stop × ℕ)) (words : List ℕ) (w : Engine) (c : Caller) (a : Act)
    (woken : List ThreadNo) (s : Kernel)
    → step w ≡ calls w c a woken s → exit_of a ≡ None
    → AreOnWays size s.guest.mem ways s.guest.threads → s.guest.made ≡ length words + 1
    → AreGiven (length words + 1) s.guest.threads → length words ≤ 3
    → ((k : ℕ) → k < length words → load_at s.guest.mem 1 (word_of (k + 1)) 4 ≡ Some (get_or words k 0))
    → LeadsTo size ways words (fate_of a) (woken ++ spawned_by a) s.waits w
called_leads size ways words w c a woken s is stays threads made given few words_are =
    let f = fate_of a in
    let ready = woken ++ spawned_by a in
    let kernel = turned_sys f ready (with_call w a s) in
    record {
      told = _;
      after = engine_after_step f ready (with_call w a s);
      is = is;
      under_way = record {
        goes_on = turned_exit f ready (with_call w a s) ∙ stays;
        threads = subst (λ (k : Kernel). AreOnWays size k.guest.mem ways k.guest.threads) (sym kernel) threads;
        made = ap (λ (k : Kernel). k.guest.made) kernel ∙ made;
        given = subst (λ (k : Kernel). AreGiven (length words + 1) k.guest.threads) (sym kernel) given;
        few = few;
        words_are = λ k lt. subst (λ (s : Kernel). load_at s.guest.mem 1 (word_of (k + 1)) 4 ≡ Some (get_or words k 0))
            (sym kernel)
            (words_are k lt);
      };
      waits_are = ap (λ (k : Kernel). k.waits) kernel;
      ready_are = λ t. turned_ready t f ready (with_call w a s);
    }

-- ---- where the calls stand

module _ (size : ℕ) {base len : ℕ} {slots : List Slot} (m : Memory) (h : IsHeld size base len slots m) where
  pub makes_call : (t : ℕ) → t < 3 → instruction_at m (stop_addr (Stop.makes t)) ≡ Some ecall
  makes_call = each (λ t. instruction_at m (stop_addr (Stop.makes t)) ≡ Some ecall)
      (holds_part m code_addr (main size) 8 1 h.main).0
      (holds_part m code_addr (main size) 18 1 h.main).0 (holds_part m code_addr (main size) 28 1 h.main).0

  waits_call : (t : ℕ) → t < 3 → instruction_at m (stop_addr (Stop.waits t)) ≡ Some ecall
  waits_call = each (λ t. instruction_at m (stop_addr (Stop.waits t)) ≡ Some ecall)
      (holds_part m code_addr (main size) 43 1 h.main).0
      (holds_part m code_addr (main size) 52 1 h.main).0 (holds_part m code_addr (main size) 61 1 h.main).0

  looks_load : (t : ℕ) → t < 3 → instruction_at m (stop_addr (Stop.looks t)) ≡ Some (lw 12 (pos 0) 10)
  looks_load = each (λ t. instruction_at m (stop_addr (Stop.looks t)) ≡ Some (lw 12 (pos 0) 10))
      (holds_part m code_addr (main size) 38 1 h.main).0
      (holds_part m code_addr (main size) 47 1 h.main).0 (holds_part m code_addr (main size) 56 1 h.main).0

  finishes_call : instruction_at m (stop_addr Stop.finishes) ≡ Some ecall
  finishes_call = (holds_part m code_addr (main size) 65 1 h.main).0

  pub ends_call : (t : ℕ) → instruction_at m (stop_addr (Stop.ends t)) ≡ Some ecall
  ends_call t = (holds_part m child_addr (child size) 8 1 h.child).0

-- ---- the calls

module _ (size : ℕ) (ways : List (Stop × ℕ)) (words : List ℕ) (w : Engine) (c : Caller)
    (is : IsUnderWay size ways words w) (running : IsRunning w c) where
  abbrev m : Memory
  m = w.kernel.guest.mem

  abbrev base : ℕ
  base = own_base c.thread.no.0

  abbrev len : ℕ
  len = own_len c.thread.no.0

  abbrev called_by : Registers → Stop → Caller
  called_by r stop = caller c.place c.thread.no (stop_addr stop) (at_stop stop r) c.thread.clear

  pub on_stop : (stop : Stop) → get_or ways c.place (stop, 0) ≡ (stop, 0) → IsOnWay size m (stop, 0) c.thread
  on_stop stop here = subst (λ v. IsOnWay size m v c.thread) here
      (on_way size 0 ways words w c stop is running (stop, 0))

  same_caller : (stop : Stop) (on : IsOnWay size m (stop, 0) c.thread) → c ≡ called_by on.will.0 stop
  same_caller stop on = λ i. record {
    place = c.place;
    thread = record {
      no = c.thread.no;
      regs = record { pc = on.will.1.0 i; x = on.will.1.1 i };
      clear = c.thread.clear;
    };
  }

  pub calling : (stop : Stop) (on : IsOnWay size m (stop, 0) c.thread) → instruction_at m (stop_addr stop) ≡ Some ecall
      → IsCalling w (called_by on.will.0 stop)
  calling stop on there = subst (IsCalling w) (same_caller stop on) (record {
    goes_on = is.goes_on;
    runs = running.runs;
    found = running.found;
    call = subst (λ pc. instruction_at m pc ≡ Some ecall) (sym on.will.1.0) there;
  })

  -- main ends the process
  pub finished : get_or ways c.place (Stop.finishes, 0) ≡ (Stop.finishes, 0)
      → (told : MachineStep) × (after : Engine) × (step w ≡ Ok (told, after)) × (after.exit ≡ Some 0)
  finished here =
      let on = on_stop Stop.finishes here in
      let there = finishes_call size m on.held in
      let a = act.ProcessEnd 0 in (
        _,
        engine_after_step (fate_of a) [] (with_call w a w.kernel),
        call.ended w c.place (stop_addr Stop.finishes) c.thread.clear c.thread.no on.will.0
            (calling Stop.finishes on there),
        turned_exit (fate_of a) [] (with_call w a w.kernel),
      )

  -- main waits, or finds that the word has changed: either way it looks again
  module _ (t : ℕ) (lt : t < 3) (made : t < length words) (here : get_or ways c.place (Stop.waits t, 0)
      ≡ (Stop.waits t, 0)) where
    abbrev stop : Stop
    stop = Stop.waits t

    abbrev on : IsOnWay size m (stop, 0) c.thread
    on = on_stop stop here

    abbrev r : Registers
    r = on.will.0

    abbrev new : ℕ → Thread
    new answer = record {
      no = c.thread.no;
      regs = record { pc = (stop_addr stop + 4) % 2 ^ 32; x = listed (record (waiting (looking t r)) { a0 = answer }) };
      clear = c.thread.clear;
    }

    goes : (answer : ℕ) → IsOnWay size m (Stop.looks t, 3) (new answer)
    goes answer =
        let after : Registers = record (waiting (looking t r)) { a0 = answer } in
        let place : await_addr t + 32 ≡ (stop_addr stop + 4) % 2 ^ 32 = omega arith in
        record {
          number = on.number;
          some = on.some;
          few = on.few;
          clears = on.clears;
          slots = [];
          held = subst (λ s. IsHeld size base len s m) on.will.1.2 on.held;
          will = subst (λ pc. Will size base len 3 pc (listed after) []
              (IsAtStop (Stop.looks t))) place
              (will-then size base len 2 (IsAt (await_addr t) after [])
              (IsAtStop (Stop.looks t))
              (λ pc x slots at. from_there size base len 2
              (await_addr t) pc x after [] slots
              (IsAtStop (Stop.looks t)) at (looked after))
              1 (await_addr t + 32) (listed after) []
              (way.again size base len [] t after lt));
        }
      where
        looked : (after : Registers) → Will size base len 2 (await_addr t)
            (listed after) []
            (IsAtStop (Stop.looks t))
        looked after =
            will-then size base len 0
            (IsAt (await_addr t + 8) (looking t after) [])
            (IsAtStop (Stop.looks t)) (λ pc x slots at. (after, at, tt)) 2 (await_addr t) (listed after) []
            (way.looks size base len [] t after lt)

    threads : (answer : ℕ) → AreOnWays size m (slice_set ways c.place (Stop.looks t, 3))
        (slice_set w.kernel.guest.threads c.place (new answer))
    threads answer =
        all_moved size m m ways w.kernel.guest.threads c.place c.thread (new answer) (Stop.looks t, 3) running.there
        refl on.few
        (goes answer) (λ other width slots apart kept. kept) is.threads

    given : (answer : ℕ) → AreGiven (length words + 1) (slice_set w.kernel.guest.threads c.place (new answer))
    given answer =
        given_set (length words + 1) c.place w.kernel.guest.threads (new answer)
        (given_at (length words + 1) c.place w.kernel.guest.threads c.thread running.there is.given) is.given

    -- where it waits, and where it goes on
    pub waited : (get_or words t 0 ≢ 0 → get_or words t 0 ≡ t + 2)
        → ((get_or words t 0 ≢ 0) × LeadsTo size (slice_set ways c.place (Stop.looks t, 3)) words fate.Leaves []
        (enqueue c.thread.no (word_of (t + 1)) w.kernel.waits) w)
        ⊎ ((get_or words t 0 ≡ 0) × LeadsTo size (slice_set ways c.place (Stop.looks t, 3)) words fate.Runs []
        w.kernel.waits w)
    waited lives =
        let word = get_or words t 0 in
        let is_call = calling stop on
        (waits_call size m on.held t lt) in
        let load : load_at m 1 (word_of (t + 1)) 4 ≡ Some word = is.words_are t made in
        elim (cases_Bool (word == r.a2)) [
          | inl same ↦ inl (
            (let e = eqb-true word r.a2 same in let seen = on.will.2 in λ none. omega arith),
            called_leads size _ words w (called_by r stop) (act.Wait (word_of (t + 1))) []
                (kernel_of (answered w.kernel.guest c.place c.thread.no (stop_addr stop) (waiting (looking t r))
                c.thread.clear 0)
                (enqueue c.thread.no (word_of (t + 1)) w.kernel.waits))
                (call.waited w t c.place (stop_addr stop) c.thread.clear c.thread.no r is_call
                (load ∙ ap Some (eqb-true word r.a2 same))) refl (threads 0) is.made (given 0) is.few is.words_are,
          )
          | inr other ↦ inr (
            ended (eqb-false word r.a2 other) on.will.2,
            called_leads size _ words w (called_by r stop) act.Answer []
                (kernel_of (answered w.kernel.guest c.place c.thread.no (stop_addr stop) (waiting (looking t r))
                c.thread.clear (2 ^ 32 - 11))
                w.kernel.waits)
                (call.again w t c.place (stop_addr stop) c.thread.clear word c.thread.no r is_call load
                (eqb-false word r.a2 other)) refl
                (threads (2 ^ 32 - 11)) is.made (given (2 ^ 32 - 11)) is.few is.words_are,
          )
        ]
      where
        ended : get_or words t 0 ≢ r.a2 → r.a2 ≡ t + 2 → get_or words t 0 ≡ 0
        ended other seen = elim (cases_Bool (get_or words t 0 == 0)) [
          | inl none ↦ eqb-true (get_or words t 0) 0 none
          | inr some ↦ absurd (other (lives (eqb-false (get_or words t 0) 0 some) ∙ sym seen))
        ]

  -- main looks at a thread's word
  module _ (t : ℕ) (lt : t < 3) (made : t < length words) (here : get_or ways c.place (Stop.looks t, 0)
      ≡ (Stop.looks t, 0)) where
    abbrev look : IsOnWay size m (Stop.looks t, 0) c.thread
    look = on_stop (Stop.looks t) here

    abbrev seen : Registers
    seen = record (looking t look.will.0) { a2 = get_or words t 0 }

    module _ (stop : Stop) (n : ℕ) (main : number_at_stop stop ≡ 1)
        (rest : (base len : ℕ) → Will size base len n (await_addr t + 12) (listed seen) [] (IsAtStop stop)) where
      looks_on : LeadsTo size (slice_set ways c.place (stop, n)) words fate.Runs [] w.kernel.waits w
      looks_on =
          let h : IsHeld size base len [] m
          = subst (λ s. IsHeld size base len s m) look.will.1.2 look.held in
          next_under_way size n ways words w c stop is running [] (look.number ∙ sym main) look.some look.few
          look.clears h
          (subst (λ (d : Caller). IsNext size base len m (step_of (hart_of w d))
          (λ pc x slots. Will size base len n pc x slots (IsAtStop stop)))
          (sym (same_caller (Stop.looks t) look))
          (next-lw size base len n (IsAtStop stop) (await_addr t + 8)
          (listed (looking t look.will.0)) []
          (await_addr t + 12) (omega arith) 12 (pos 0) 10 (word_of (t + 1)) (get_or words t 0) m w.held h
          (looks_load size m h t lt) (omega arith)
          (is.words_are t made)
          (rest base len)))

    pub found_other : get_or words t 0 ≢ 0 → get_or words t 0 ≡ t + 2
        → LeadsTo size (slice_set ways c.place (Stop.waits t, 4)) words fate.Runs [] w.kernel.waits w
    found_other some number = looks_on (Stop.waits t) 4 refl (λ base len.
        will-then size base len 0 (IsAt (await_addr t + 28) (waiting seen) []) (IsAtStop (Stop.waits t))
        (λ pc x slots at. (record look.will.0 { a2 = get_or words t 0 }, at, number)) 4 (await_addr t + 12)
        (listed seen) []
        (way.waits size base len [] t seen lt some))

    behind : (base len : ℕ) (t : ℕ) (r : Registers) → t < 3
        → Will size base len 2 (await_addr (t + 1)) (listed r) [] (IsAtStop (stop_behind t))
    behind base len t r lt =
        each (λ t. Will size base len 2 (await_addr (t + 1)) (listed r) [] (IsAtStop (stop_behind t)))
        (will-then size base len 0 (IsAt (await_addr 1 + 8) (looking 1 r) []) (IsAtStop (Stop.looks 1))
        (λ pc x slots at. (r, at, tt)) 2 (await_addr 1) (listed r) [] (way.looks size base len [] 1 r (omega arith)))
        (will-then size base len 0 (IsAt (await_addr 2 + 8) (looking 2 r) []) (IsAtStop (Stop.looks 2))
        (λ pc x slots at. (r, at, tt)) 2 (await_addr 2) (listed r) [] (way.looks size base len [] 2 r (omega arith)))
        (will-then size base len 0 (IsAt (await_addr 3 + 8) (ending 94 r) []) (IsAtStop Stop.finishes)
        (λ pc x slots at. (r, at, tt)) 2 (await_addr 3) (listed r) [] (way.ends size base len [] r)) t lt

    pub found_ended : get_or words t 0 ≡ 0 → LeadsTo size (slice_set ways c.place (stop_behind t, 3)) words fate.Runs
        [] w.kernel.waits w
    found_ended none = looks_on (stop_behind t) 3 (each (λ t. number_at_stop (stop_behind t) ≡ 1) refl refl refl t lt)
        (λ base len.
        will-then size base len 2 (IsAt (await_addr (t + 1)) seen []) (IsAtStop (stop_behind t))
        (λ pc x slots at. from_there size base len 2 (await_addr (t + 1)) pc x seen [] slots (IsAtStop (stop_behind t))
        at
        (behind base len t seen lt)) 1 (await_addr t + 12) (listed seen) []
        (way.passes size base len [] t seen lt none))
