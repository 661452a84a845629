-- What every call keeps, whatever its row: how threads begin, end and wait.
use Rattle.std.specs.Prelude.{◌≡◌, ℕ, ◌+◌, ◌≤◌, ◌==◌, List, [], ◌∷◌, count_by}
use Rattle.event_costs.specs.declared.numbers.ThreadNo.{ThreadNo}
use Rattle.guest_futex.specs.Waits.{times_waiting}
use Rattle.guest_sys.specs.Kernel.{Kernel, times_live}
use Rattle.guest_sys.specs.declared.effect.Act.{Act}
use Rattle.guest_sys.specs.declared.effect.Act.TheVariants as act
use Rattle.guest_sys.specs.declared.effect.Effect.{Effect}

-- how often a thread stands in a list
abbrev pub times_in : ThreadNo → List ThreadNo → ℕ
times_in thread threads = count_by (λ t. t.0 == thread.0) threads

-- the thread that begins to wait, that was made, and that has ended with this act
abbrev pub waiters_by : ThreadNo → Act → List ThreadNo
waiters_by caller (act.Wait addr) = caller ∷ []
waiters_by caller _ = []

abbrev pub spawned_by : Act → List ThreadNo
spawned_by (act.Spawn thread) = thread ∷ []
spawned_by _ = []

abbrev pub gone_by : ThreadNo → Act → List ThreadNo
gone_by caller act.ThreadEnd = caller ∷ []
gone_by caller (act.ProcessEnd code) = caller ∷ []
gone_by caller _ = []

-- Who waited and didn't begin to wait waits still or was woken; who lived or was made lives still or has ended.
pub record IsBalanced (caller : ThreadNo) (old : Kernel) (effect : Effect) (new : Kernel) : Type 0 where
  pub waits : (thread : ThreadNo)
      → times_waiting thread new.waits + times_in thread effect.woken
      ≡ times_waiting thread old.waits + times_in thread (waiters_by caller effect.act)
  pub lives : (thread : ThreadNo)
      → times_live thread old.guest.threads + times_in thread (spawned_by effect.act) ≤ times_live thread new.guest.threads
      + times_in thread (gone_by caller effect.act)
  pub bounded : (thread : ThreadNo)
      → times_live thread new.guest.threads ≤ times_live thread old.guest.threads + times_in thread (spawned_by effect.act)
  pub steps : new.guest.steps ≡ old.guest.steps

-- an exit of the whole process and a kill change nothing
abbrev pub ChangesNothing : Act → Kernel → Kernel → Type 0
ChangesNothing (act.Killed signal) old new = new ≡ old
ChangesNothing _ old new = Unit {0}
