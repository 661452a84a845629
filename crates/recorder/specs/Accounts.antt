-- What a recorder keeps of each thread.
use Rattle.std.specs.Prelude.{ℕ, ◌==◌, ◌≤◌, Bool, false, not, List, [], ◌∷◌, if◌then◌else◌, count_by, sum_by}
use Rattle.std.specs.List.{list_any}
use Rattle.event_costs.specs.Costs.{no_cost}
use Rattle.event_costs.specs.declared.numbers.ThreadNo.{ThreadNo}
use Rattle.arc_costs.specs.Rows.{ArcRow, LineRow}
use Rattle.shadow_stack.specs.Kinds.{is_root}
use Rattle.shadow_stack.specs.declared.frame.Frame.{Frame}

-- The account of a thread: its frames, the top first; what its events have cost in all, by kind of event; its line rows
-- and its arc rows since its last cut, in which frames that are open have no cost yet; and whether it had an event
-- since.
pub record Account : Type 0 where
  pub thread : ThreadNo
  pub frames : List Frame
  pub total : List ℕ
  pub lines : List LineRow
  pub arcs : List ArcRow
  pub had_event : Bool

-- an account, and how many new keys each of its tables takes without memory
pub record Ledger : Type 0 where
  pub account : Account
  pub line_room : ℕ
  pub arc_room : ℕ

-- what is kept of each thread, in the order of their starts, and how many more frames fit without memory
pub record Recording : Type 0 where
  pub threads : List Ledger
  pub spare : ℕ

-- what is kept of a thread that isn't known
abbrev pub nobody : ThreadNo → Ledger
nobody thread = record {
  account = record { thread = thread; frames = []; total = no_cost; lines = []; arcs = []; had_event = false };
  line_room = 0;
  arc_room = 0;
}

abbrev pub is_ledger_of : ThreadNo → Ledger → Bool
is_ledger_of thread k = thread.0 == k.account.thread.0

abbrev pub ledger_in : ThreadNo → List Ledger → Ledger
ledger_in thread [] = nobody thread
ledger_in thread (k ∷ ks) = if is_ledger_of thread k then k else ledger_in thread ks

abbrev pub knows : Recording → ThreadNo → Bool
knows r thread = list_any (is_ledger_of thread) r.threads

-- what is kept of a thread, and its account
abbrev pub ledger : Recording → ThreadNo → Ledger
ledger r thread = ledger_in thread r.threads

abbrev pub account : Recording → ThreadNo → Account
account r thread = (ledger r thread).account

-- the live frames that are no roots: of a thread, and of all threads
abbrev pub live_in : List Frame → ℕ
live_in frames = count_by (λ f. not (is_root f.kind)) frames

abbrev pub live : Recording → ℕ
live r = sum_by (λ k. live_in k.account.frames) r.threads

-- A note of the thread takes no memory: there is room for a frame, a new place and a new arc.
pub record IsReady (r : Recording) (thread : ThreadNo) : Type 0 where
  pub frames : 1 ≤ r.spare
  pub lines : 1 ≤ (ledger r thread).line_room
  pub arcs : 1 ≤ (ledger r thread).arc_room
