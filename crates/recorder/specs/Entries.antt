-- What is done to a recorder, as a list: threads that begin, events with their costs, and cuts, of whatever threads.
use Rattle.std.specs.Prelude.{◌≡◌, ℕ, ◌++◌, ◌==◌, Bool, List, [], ◌∷◌, if◌then◌else◌, filter, fold}
use Rattle.std.specs.List.{AllByRecursion}
use Rattle.event_costs.specs.Costs.{IsWhole}
use Rattle.event_costs.specs.declared.numbers.ThreadNo.{ThreadNo}
use Rattle.sym_map.specs.SymbolMap.{SymbolMap}
use Rattle.shadow_stack.specs.Stacks.{root, Stack}
use Rattle.shadow_stack.specs.Traces.{CountedEvent}
use Rattle.recorder.specs.Accounts.{account, Account, nobody, Recording}
use Rattle.recorder.specs.Notes.{account_after_cut, account_after_note, first_account}
use Rattle.recorder.specs.Standing.{StandsFor}

-- a thread begins at a pc; an event has its cost; a thread is cut
pub data Entry : Type 0 where
  Begins : ThreadNo → ℕ → Entry
  Notes : CountedEvent → Entry
  Cuts : ThreadNo → Entry

abbrev pub thread_of : Entry → ThreadNo
thread_of (Begins thread pc) = thread
thread_of (Notes x) = x.event.thread
thread_of (Cuts thread) = thread

abbrev pub is_entry_of : ThreadNo → Entry → Bool
is_entry_of thread e = (thread_of e).0 == thread.0

-- the entries of one thread
abbrev pub entries_of : ThreadNo → List Entry → List Entry
entries_of thread entries = filter (is_entry_of thread) entries

-- the cost of an event has a number for each kind
abbrev pub HasWholeCost : Entry → Type 0
HasWholeCost (Begins thread pc) = Unit {0}
HasWholeCost (Notes x) = IsWhole x.cost
HasWholeCost (Cuts thread) = Unit {0}

-- the account of a thread after an entry of its own, and after any
abbrev pub account_after_entry : SymbolMap → Account → Entry → Account
account_after_entry syms a (Begins thread pc) = first_account syms thread pc
account_after_entry syms a (Notes x) = account_after_note syms x.event x.cost a
account_after_entry syms a (Cuts thread) = account_after_cut a

abbrev pub account_after : SymbolMap → ThreadNo → Account → Entry → Account
account_after syms thread a e = if is_entry_of thread e then account_after_entry syms a e else a

-- the account of a thread after entries, before which it isn't known
abbrev pub account_of : SymbolMap → ThreadNo → List Entry → Account
account_of syms thread entries = fold (account_after syms thread) (nobody thread).account entries

-- the stack with which a thread began, and its events in the pieces between its cuts: the earlier ones, and those since
-- its last cut
pub record History : Type 0 where
  pub first : Stack
  pub earlier : List (List CountedEvent)
  pub last : List CountedEvent

abbrev pub history_after_entry : SymbolMap → History → Entry → History
history_after_entry syms h (Begins thread pc) = record { first = root syms pc; earlier = []; last = [] }
history_after_entry syms h (Notes x) = record { first = h.first; earlier = h.earlier; last = h.last ++ x ∷ [] }
history_after_entry syms h (Cuts thread) = record { first = h.first; earlier = h.earlier ++ h.last ∷ []; last = [] }

abbrev pub history_after : SymbolMap → ThreadNo → History → Entry → History
history_after syms thread h e = if is_entry_of thread e then history_after_entry syms h e else h

abbrev pub history_of : SymbolMap → ThreadNo → List Entry → History
history_of syms thread entries = fold (history_after syms thread)
    (record { first = []; earlier = []; last = [] }) entries

-- The account stands for all events of this history: its tables plus, for each open frame, the total less the frame's
-- start, are the sums of its events since the last cut.
abbrev pub StandsForHistory : SymbolMap → History → Account → Type 0
StandsForHistory syms h a = StandsFor syms h.first h.earlier h.last a

-- An entry leads from one recording to another: the account of its thread is as the entry makes it, and all others are
-- as before.
abbrev pub Leads : SymbolMap → Recording → Entry → Recording → Type 0
Leads syms r e s = (thread : ThreadNo) → account s thread ≡ account_after syms thread (account r thread) e

-- Entries do, one after the other.
abbrev pub LeadTo : SymbolMap → Recording → List Entry → Recording → Type 0
LeadTo syms r [] s = (thread : ThreadNo) → account s thread ≡ account r thread
LeadTo syms r (e ∷ entries) s = (mid : Recording) × Leads syms r e mid × LeadTo syms mid entries s

-- each event's cost has a number for each kind
abbrev pub HaveWholeCosts : List Entry → Type 0
HaveWholeCosts entries = AllByRecursion HasWholeCost entries
