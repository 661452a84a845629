-- Where the threads of the demonstration are on their ways, and the words of those that were made.
use Rattle.std.specs.Prelude.{◌≡◌, ◌≢◌, ℕ, zero, suc, ◌+◌, ◌*◌, ◌<◌, ◌≤◌, List, [], ◌∷◌, length, get_or, Some, None, Ok}
use Rattle.event_costs.specs.declared.numbers.ThreadNo.{ThreadNo}
use Rattle.guest_mem.specs.Memory.{Memory, load_at}
use Rattle.guest_load.specs.declared.thread.Thread.{Thread}
use Rattle.guest_sys.specs.Common.{IsCaller}
use Rattle.guest_sys.specs.CallRow.{caller_of}
use Rattle.guest_sys.specs.declared.caller.Caller.{Caller}
use Rattle.guest_sys.specs.Laws.{times_in}
use Rattle.guest_futex.specs.declared.queue.Wait.{Wait}
use Rattle.guest_sched.specs.declared.turns.Fate.{Fate}
use Rattle.guest_sched.specs.RunQueue.{after_step}
use Rattle.guest_sched.specs.Engine.{Engine, runner}
use Rattle.guest_sched.specs.Step.{MachineStep, step}
use Rattle.demo_make.specs.Layout.{child_addr}
use Rattle.demo_run.proofs.Amid.{IsHeld, IsLoopFrame, Slot, Will}
use Rattle.demo_run.proofs.Places.{IsAt, Registers, await_addr, cloning, ending, looking, start_addr, waiting, word_of}

-- what belongs to a number: the words of further threads to 0, the first stack to 1, and the stacks of further threads
abbrev pub own_base : ℕ → ℕ
own_base zero = 0x21000
own_base (suc zero) = 0x7f80_0000
own_base (suc (suc k)) = 0x24000 + 0x4000 * k

abbrev pub own_len : ℕ → ℕ
own_len zero = 16
own_len (suc zero) = 0x7f_fff0
own_len (suc (suc k)) = 0x4000

-- to what a thread comes: main to the call that makes a thread, to the look at its word, to the call that waits, and to
-- that which ends the process, and the further thread t, counted from 0, to that which ends it
pub data Stop : Type 0 where
  makes : ℕ → Stop
  looks : ℕ → Stop
  waits : ℕ → Stop
  finishes : Stop
  ends : ℕ → Stop

abbrev pub stop_addr : Stop → ℕ
stop_addr (Stop.makes t) = start_addr t + 32
stop_addr (Stop.looks t) = await_addr t + 8
stop_addr (Stop.waits t) = await_addr t + 28
stop_addr Stop.finishes = await_addr 3 + 8
stop_addr (Stop.ends t) = child_addr + 32

-- its registers there
abbrev pub at_stop : Stop → Registers → Registers
at_stop (Stop.makes t) r = cloning t r
at_stop (Stop.looks t) r = looking t r
at_stop (Stop.waits t) r = waiting (looking t r)
at_stop Stop.finishes r = ending 94 r
at_stop (Stop.ends t) r = ending 93 r

-- whose stop it is: the number of the thread
abbrev pub number_at_stop : Stop → ℕ
number_at_stop (Stop.ends t) = suc (suc t)
number_at_stop stop = 1

-- what it brings there: room for the loop that comes later, and the number that it has seen in the word
abbrev pub Brings : Stop → Registers → Type 0
Brings (Stop.makes t) r = (sp : ℕ) × (r.sp ≡ sp + 16) × IsLoopFrame (own_base 1) (own_len 1) sp r.s0 []
Brings (Stop.waits t) r = r.a2 ≡ t + 2
Brings stop r = Unit {0}

abbrev pub IsAtStop : Stop → ℕ → List ℕ → List Slot → Type 0
IsAtStop stop pc x slots = (r : Registers) × IsAt (stop_addr stop) (at_stop stop r) [] pc x slots × Brings stop r

-- the word that is cleared when a thread ends
abbrev pub clear_of : ℕ → ℕ
clear_of zero = 0
clear_of (suc zero) = 0
clear_of (suc (suc t)) = word_of (t + 1)

-- where main goes once a thread has ended
abbrev pub stop_behind : ℕ → Stop
stop_behind zero = Stop.looks 1
stop_behind (suc zero) = Stop.looks 2
stop_behind (suc (suc t)) = Stop.finishes

-- the way of main behind the call that made a thread
abbrev pub way_behind : ℕ → ℕ → Stop × ℕ
way_behind size zero = (Stop.makes 1, 9)
way_behind size (suc zero) = (Stop.makes 2, 9)
way_behind size (suc (suc t)) = (Stop.looks 0, 947 * size + 5)

-- each has one of so many numbers
abbrev pub AreGiven : ℕ → List Thread → Type 0
AreGiven made [] = Unit {0}
AreGiven made (t ∷ ts) = (t.no.0 ≤ made) × AreGiven made ts

-- a thread comes to a stop in so many steps
pub record IsOnWay (size : ℕ) (m : Memory) (way : Stop × ℕ) (t : Thread) : Type 0 where
  pub number : t.no.0 ≡ number_at_stop way.0
  pub some : 1 ≤ t.no.0
  pub few : t.no.0 ≤ 4
  pub clears : t.clear ≡ clear_of t.no.0
  pub slots : List Slot
  pub held : IsHeld size (own_base t.no.0) (own_len t.no.0) slots m
  pub will : Will size (own_base t.no.0) (own_len t.no.0) way.1 t.regs.pc t.regs.x slots (IsAtStop way.0)

-- none of these has the number
abbrev pub AreOthers : ℕ → List Thread → Type 0
AreOthers n [] = Unit {0}
AreOthers n (t ∷ ts) = (t.no.0 ≢ n) × AreOthers n ts

-- each thread is on its way
abbrev pub AreOnWays : ℕ → Memory → List (Stop × ℕ) → List Thread → Type 0
AreOnWays size m [] [] = Unit {0}
AreOnWays size m [] (t ∷ ts) = ⊥
AreOnWays size m (way ∷ ways) [] = ⊥
AreOnWays size m (way ∷ ways) (t ∷ ts) = IsOnWay size m way t × AreOthers t.no.0 ts × AreOnWays size m ways ts

-- the machine of a size: its live threads are on these ways, and the words of those that were made are these
pub record IsUnderWay (size : ℕ) (ways : List (Stop × ℕ)) (words : List ℕ) (w : Engine) : Type 0 where
  pub goes_on : w.exit ≡ None
  pub threads : AreOnWays size w.kernel.guest.mem ways w.kernel.guest.threads
  pub made : w.kernel.guest.made ≡ length words + 1
  pub given : AreGiven (length words + 1) w.kernel.guest.threads
  pub few : length words ≤ 3
  pub words_are : (k : ℕ) → k < length words → load_at w.kernel.guest.mem 1 (word_of (k + 1)) 4
      ≡ Some (get_or words k 0)

-- the thread that runs
pub record IsRunning (w : Engine) (c : Caller) : Type 0 where
  pub runs : runner w ≡ Some c
  pub there : IsCaller w.kernel.guest c
  pub found : caller_of c.thread.no w.kernel.guest.threads ≡ Some c

-- The next step leads to these ways and words, and to this queue of waits. Who is ready follows from the fate of the
-- thread that runs, and from those that enter.
pub record LeadsTo (size : ℕ) (ways : List (Stop × ℕ)) (words : List ℕ) (f : Fate) (entered : List ThreadNo)
    (queue : List Wait) (w : Engine) : Type 0 where
  pub told : MachineStep
  pub after : Engine
  pub is : step w ≡ Ok (told, after)
  pub under_way : IsUnderWay size ways words after
  pub waits_are : after.kernel.waits ≡ queue
  pub ready_are : (t : ThreadNo)
      → times_in t after.run_queue.ready ≡ times_in t (after_step f entered w.run_queue).ready
