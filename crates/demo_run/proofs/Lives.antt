-- Main and the three further threads of the demonstration, and the machine that goes on with them.
use Rattle.std.specs.Prelude.{◌≡◌, ◌≢◌, ℕ, suc, ◌+◌, ◌*◌, ◌<◌, ◌≤◌, List, [], ◌∷◌, length, get_or, Option, Some, None}
use Rattle.std.specs.Prelude.{Ok}
use Rattle.event_costs.specs.declared.numbers.ThreadNo.{ThreadNo}
use Rattle.guest_load.specs.Lawful.{IsLawful}
use Rattle.guest_futex.specs.declared.queue.Wait.{Wait}
use Rattle.guest_futex.specs.Waits.{times_waiting, wait_at}
use Rattle.guest_load.specs.Guest.{Guest}
use Rattle.guest_sys.specs.Kernel.{Kernel, times_live}
use Rattle.guest_sys.specs.Laws.{times_in}
use Rattle.guest_sched.specs.Engine.{Engine}
use Rattle.guest_sched.specs.Step.{MachineStep, step}
use Rattle.demo_run.proofs.Places.{word_of}
use Rattle.demo_run.proofs.Left.{all_left}
use Rattle.demo_run.proofs.Ways.{IsUnderWay, Stop}

-- ---- the further threads that were made

-- how many steps each of them is from its end; None of one that has ended
abbrev pub Lives : Type 0
Lives = List (Option ℕ)

abbrev pub life : Lives → ℕ → Option ℕ
life lives t = get_or lives t None

-- the ways of those that live, the first of which has this number
abbrev pub ways_from : ℕ → Lives → List (Stop × ℕ)
ways_from t [] = []
ways_from t (None ∷ lives) = ways_from (suc t) lives
ways_from t (Some n ∷ lives) = (Stop.ends t, n) ∷ ways_from (suc t) lives

-- the words of all
abbrev pub words_from : ℕ → Lives → List ℕ
words_from t [] = []
words_from t (None ∷ lives) = 0 ∷ words_from (suc t) lives
words_from t (Some n ∷ lives) = suc (suc t) ∷ words_from (suc t) lives

-- those before it have ended
abbrev pub AreGone : ℕ → Lives → Type 0
AreGone t lives = (k : ℕ) → k < t → life lives k ≡ None

-- ---- main

-- what main does: it makes a thread, looks at its word, comes to wait there, sleeps there, looks again, or ends all
pub data Main : Type 0 where
  makes : ℕ → Main
  looks : ℕ → Main
  waits : ℕ → Main
  sleeps : ℕ → Main
  again : ℕ → Main
  finishes : Main

abbrev pub stop_of : Main → Stop
stop_of (Main.makes t) = Stop.makes t
stop_of (Main.looks t) = Stop.looks t
stop_of (Main.waits t) = Stop.waits t
stop_of (Main.sleeps t) = Stop.looks t
stop_of (Main.again t) = Stop.looks t
stop_of Main.finishes = Stop.finishes

-- how often it may have found a thread that hadn't ended
abbrev pub most_fails : Main → ℕ
most_fails (Main.makes t) = 0
most_fails (Main.looks t) = t
most_fails (Main.waits t) = t + 1
most_fails (Main.sleeps t) = t + 1
most_fails (Main.again t) = t + 1
most_fails Main.finishes = 3

-- who has ended then
abbrev pub Suits : Lives → Main → Type 0
Suits lives (Main.makes t) = (t < 3) × (t ≡ length lives)
Suits lives (Main.looks t) = (t < 3) × (length lives ≡ 3) × AreGone t lives
Suits lives (Main.waits t) = (t < 3) × (length lives ≡ 3) × AreGone t lives
Suits lives (Main.sleeps t) = (t < 3) × (length lives ≡ 3) × AreGone t lives × (life lives t ≢ None)
Suits lives (Main.again t) = (t < 3) × (length lives ≡ 3) × AreGone t lives × (life lives t ≡ None)
Suits lives Main.finishes = AreGone 3 lives × (length lives ≡ 3)

abbrev pub main_no : ThreadNo
main_no = record { 0 = 1 }

-- who waits, and how often main is ready
abbrev pub queue_of : Main → List Wait
queue_of (Main.sleeps t) = wait_at (word_of (t + 1)) main_no ∷ []
queue_of main = []

abbrev pub main_times : Main → ℕ
main_times (Main.sleeps t) = 0
main_times main = 1

-- ---- the machine

-- its threads alone
abbrev pub bare : Guest → Guest
bare g = record g { first_break = 0; now_break = 0; input = []; place = 0 }

-- a thread is ready or waits no more often than it is live
abbrev pub IsLively : List ThreadNo → Kernel → Type 0
IsLively ready s =
    (thread : ThreadNo) → times_in thread ready + times_waiting thread s.waits ≤ times_live thread s.guest.threads

abbrev pub ways_of : Main → ℕ → Lives → List (Stop × ℕ)
ways_of main left lives = (stop_of main, left) ∷ ways_from 0 lives

-- Main is so many steps from its stop, and has failed so often. Who lives and doesn't wait is ready.
pub record GoesOn (size fails : ℕ) (main : Main) (left : ℕ) (lives : Lives) (w : Engine) : Type 0 where
  pub under_way : IsUnderWay size (ways_of main left lives) (words_from 0 lives) w
  pub suits : Suits lives main
  pub few : fails ≤ most_fails main
  pub lawful : IsLawful (bare w.kernel.guest)
  pub lively : IsLively w.run_queue.ready w.kernel
  pub queue_is : w.kernel.waits ≡ queue_of main
  pub main_ready : times_in main_no w.run_queue.ready ≡ main_times main
  pub others_ready : (t : ℕ) → life lives t ≢ None → 1 ≤ times_in (record { 0 = t + 2 }) w.run_queue.ready

-- The step leads to such a machine again. It leaves a step less, or 9 more than that where main fails.
pub record Leads (size fails : ℕ) (main : Main) (left : ℕ) (lives : Lives) (w : Engine) : Type 0 where
  pub told : MachineStep
  pub after : Engine
  pub is : step w ≡ Ok (told, after)
  pub fails_then : ℕ
  pub main_then : Main
  pub left_then : ℕ
  pub lives_then : Lives
  pub goes_on : GoesOn size fails_then main_then left_then lives_then after
  pub less : all_left size (ways_of main_then left_then lives_then) + 1 + 9 * fails
      ≡ all_left size (ways_of main left lives) + 9 * fails_then

-- The step is the last one.
pub record Finishes (size : ℕ) (main : Main) (left : ℕ) (lives : Lives) (w : Engine) : Type 0 where
  pub told : MachineStep
  pub after : Engine
  pub is : step w ≡ Ok (told, after)
  pub exits : after.exit ≡ Some 0
  pub last : all_left size (ways_of main left lives) ≡ 1
