-- The kernel as contracts see it: the guest, and the threads that wait.
use Rattle.std.specs.Prelude.{ℕ, ◌≤◌, ◌==◌, List, count_by, refl}
use Rattle.std.specs.Coded.{Coded, code_by, coded×, coded_ℕ, coded_list}
use Rattle.event_costs.specs.declared.numbers.ThreadNo.{ThreadNo}
use Rattle.guest_load.specs.declared.thread.Thread.{Thread}
use Rattle.guest_load.specs.inner.Codes.{guest_code}
use Rattle.guest_load.specs.Guest.{Guest}
use Rattle.guest_futex.specs.declared.queue.Wait.{Wait}
use Rattle.guest_futex.specs.Waits.{times_waiting}

pub record Kernel : Type 0 where
  pub guest : Guest
  -- by rising address, and at each address in order of waiting
  pub waits : List Wait

abbrev pub kernel_of : Guest → List Wait → Kernel
kernel_of guest waits = record { guest = guest; waits = waits }

abbrev pub wait_code : Coded Wait
wait_code =
    code_by (ℕ × ℕ) (coded× coded_ℕ coded_ℕ) (λ w. (w.thread.0, w.addr))
    (λ p. record { thread = record { 0 = p.0 }; addr = p.1 })
    (λ _. refl)

abbrev pub kernel_code : Coded Kernel
kernel_code =
    code_by (Guest × List Wait) (coded× guest_code (coded_list wait_code)) (λ s. (s.guest, s.waits))
    (λ p. kernel_of p.0 p.1)
    (λ _. refl)

-- how often a thread stands among the live ones
abbrev pub times_live : ThreadNo → List Thread → ℕ
times_live thread threads = count_by (λ t. t.no.0 == thread.0) threads

abbrev pub IsLive : ThreadNo → List Thread → Type 0
IsLive thread threads = 1 ≤ times_live thread threads

-- a thread waits no more often than it is live: so each that waits is a live one
abbrev pub EachWaiterLives : List Thread → List Wait → Type 0
EachWaiterLives threads waits = (thread : ThreadNo) → times_waiting thread waits ≤ times_live thread threads
