-- Where the account of a thread stands.
use Rattle.std.specs.Prelude.{◌≡◌, ℕ, true, IfSome, Option, Some, position, slice_index_or}
use Rattle.std.specs.Coded.{Coded-set, coded_ℕ, coded_option}
use Rattle.event_costs.specs.declared.numbers.ThreadNo.{ThreadNo}
use Rattle.recorder.specs.declared.recorder.ReadyThread.{ReadyThread}
use Rattle.recorder.specs.Accounts.{IsReady, is_ledger_of, Ledger, knows, nobody, Recording}

-- the thread is known, and this is its place
abbrev pub IsAt : Recording → ThreadNo → ℕ → Type 0
IsAt r thread place = position (is_ledger_of thread) r.threads ≡ Some place

pub IsAt-prop : (r : Recording) (thread : ThreadNo) (place : ℕ) → IsProp (IsAt r thread place)
IsAt-prop r thread place = hlevel (Coded-set (coded_option coded_ℕ))

-- what is kept at a place; it is that of this thread
abbrev pub ledger_at : Recording → ℕ → ThreadNo → Ledger
ledger_at r place thread = slice_index_or r.threads place (nobody thread)

-- the thread is known at its place, and its next note takes no memory
pub record IsReadyAt (r : Recording) (it : ReadyThread) : Type 0 where
  pub at : IsAt r it.thread it.place
  pub is_known : knows r it.thread ≡ true
  pub ready : IsReady r it.thread

-- this is so of the thread that is remembered
abbrev pub IsRemembered : Recording → Option ReadyThread → Type 0
IsRemembered r remembered = IfSome remembered (IsReadyAt r)
