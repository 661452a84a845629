-- Which threads may have had an event since their last cuts, a bit for each.
use Rattle.std.specs.Prelude.{◌≡◌, ◌/◌, ◌%◌, ◌==◌, Bool, ℕ, true, IfSome, List, Option, get_or}
use Rattle.std.specs.Int.{bit_at}
use Rattle.event_costs.specs.declared.numbers.ThreadNo.{ThreadNo}
use Rattle.recorder.specs.Accounts.{Recording, account}
use Rattle.recorder.specs.declared.recorder.ReadyThread.{ReadyThread}

-- the word in which a thread has its bit; beyond the words there are only ones
abbrev pub word_of : List ℕ → ThreadNo → ℕ
word_of words thread = get_or words (thread.0 / 64) 18446744073709551615

-- what the bits say of a thread; one beyond them may have had an event
abbrev pub may_have : List ℕ → ThreadNo → Bool
may_have words thread = bit_at (word_of words thread) (thread.0 % 64) == 1

-- the bit of each thread that had one is set
abbrev pub AreMarked : Recording → List ℕ → Type 0
AreMarked r words = (thread : ThreadNo) → (account r thread).had_event ≡ true → may_have words thread ≡ true

-- that of the thread which is remembered is set, so that its events needn't set it
abbrev pub IsMarkedReady : Option ReadyThread → List ℕ → Type 0
IsMarkedReady ready words = IfSome ready (λ it. may_have words it.thread ≡ true)
