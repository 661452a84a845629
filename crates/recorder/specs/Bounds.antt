-- How large the sums of an account can be: the cost of each event is under each open frame at most once.
use Rattle.std.specs.Prelude.{ℕ, ◌+◌, ◌*◌, ◌≤◌, List, slice_index}
use Rattle.event_costs.specs.Keys.{ArcKey, Place}
use Rattle.arc_costs.specs.Arcs.{arc_sum, call_sum}
use Rattle.arc_costs.specs.Lines.{line_sum}
use Rattle.event_costs.specs.declared.numbers.ThreadNo.{ThreadNo}
use Rattle.shadow_stack.specs.Stacks.{most_frames}
use Rattle.recorder.specs.Accounts.{account, Account, Recording}
use Rattle.recorder.specs.Notes.{open_sum}

-- a cost of an event: each number is 0 or 1
abbrev pub IsUnit : List ℕ → Type 0
IsUnit cost = (kind : ℕ) → slice_index cost kind ≤ 1

-- The sums of an account are those of so many events at most. Where another frame may be entered, no more stand on a
-- stack than may be live, the root among them.
pub record SumsWithin (steps : ℕ) (a : Account) : Type 0 where
  pub total : (kind : ℕ) → slice_index a.total kind ≤ steps
  pub lines : (kind : ℕ) (place : Place) → line_sum kind place a.lines ≤ steps
  pub arcs : (kind : ℕ) (arc : ArcKey) → arc_sum kind arc a.arcs + open_sum kind a.total arc a.frames
      ≤ steps * most_frames
  pub calls : (arc : ArcKey) → call_sum arc a.arcs ≤ steps

-- The sums of each thread are.
abbrev pub AllWithin : ℕ → Recording → Type 0
AllWithin steps r = (thread : ThreadNo) → SumsWithin steps (account r thread)
