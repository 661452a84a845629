-- The waits of a trace. A wait is a step in which its thread began to wait (futex(2), FUTEX_WAIT); the steps behind it,
-- up to and with the one that wakes the thread, pass while it waits. Where the thread is moved to another word
-- (FUTEX_REQUEUE), nobody is woken: the wait goes on, and its word stays the one where it began.
use Rattle.std.specs.Prelude.{All, ◌≢◌}
use Rattle.std.specs.Prelude.{ℕ, ◌==◌, Bool, false, not, if◌then◌else◌, List, [], ◌∷◌, ◌++◌, find, sum_by, slice_index}
use Rattle.std.specs.Prelude.{Option, None, Some, is_some, option_map}
use Rattle.std.specs.Option.{option_map_or}
use Rattle.part_dump.specs.Steps.{Step, thread_of}
use Rattle.part_dump.specs.Watched.{is_woken}

-- A wait: its thread, the address of the word where it began, the steps that pass while it lasts, and the thread whose
-- step ends it, if one does.
pub record Wait : Type 0 where
  pub thread : ℕ
  pub word : ℕ
  pub span : List Step
  pub waker : Option ℕ

-- of these steps, those up to and with the first that wakes the thread; all of them where none does
abbrev pub span : ℕ → List Step → List Step
span thread [] = []
span thread (x ∷ xs) = x ∷ (if is_woken thread x then [] else span thread xs)

-- the thread of the first step that wakes the thread
abbrev pub waker : ℕ → List Step → Option ℕ
waker thread xs = option_map thread_of (find (is_woken thread) xs)

-- the wait of a thread at a word, with these steps behind the one in which it began
abbrev pub wait_of : ℕ → List Step → ℕ → Wait
wait_of thread later word =
    record { thread = thread; word = word; span = span thread later; waker = waker thread later }

-- the wait that began in a step, if one did
abbrev pub begun_wait : Option ℕ → ℕ → List Step → List Wait
begun_wait None thread later = []
begun_wait (Some word) thread later = wait_of thread later word ∷ []

-- the waits of a trace, in the order in which they began
abbrev pub waits_in : List Step → List Wait
waits_in [] = []
waits_in (x ∷ later) = begun_wait x.wait (thread_of x) later ++ waits_in later

-- nobody has ended it
abbrev pub is_open : Wait → Bool
is_open w = not (is_some w.waker)

abbrev pub is_ended_by : ℕ → Wait → Bool
is_ended_by thread w = option_map_or (λ t. t == thread) w.waker false

-- the cost of a kind of all steps that pass while it lasts
abbrev pub cost_of : ℕ → List Step → ℕ
cost_of kind xs = sum_by (λ x. slice_index x.on_stack.cost kind) xs

-- no step that passes while a thread waits is one of its own
abbrev pub AreOfOthers : List Step → Type 0
AreOfOthers xs = All (λ w. All (λ x. thread_of x ≢ w.thread) w.span) (waits_in xs)
