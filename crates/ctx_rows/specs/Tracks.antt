-- What is kept of a thread, by the numbers of contexts.
use Rattle.std.specs.Prelude.{◌≡◌, ℕ, ◌<◌, List, [], ◌∷◌, false, Some, slice_get}
use Rattle.event_costs.specs.Keys.{ArcKey}
use Rattle.event_costs.specs.declared.numbers.FuncId.{FuncId}
use Rattle.shadow_stack.specs.Stacks.{Stack}
use Rattle.shadow_stack.specs.declared.frame.Frame.{Frame}
use Rattle.recorder.specs.Accounts.{Account}
use Rattle.contexts.specs.Contexts.{Context, context}
use Rattle.ctx_rows.specs.States.{Track}

-- what it has counted, as an account by the numbers of contexts
abbrev pub account_of : Track → Account
account_of t = record {
  thread = t.thread;
  frames = t.frames;
  total = t.total;
  lines = t.lines;
  arcs = t.arcs;
  had_event = false;
}

-- Frames stand for the contexts at their places in a stack.
abbrev pub AreNumbered : ℕ → List Context → List Frame → Stack → Type 0
AreNumbered callers contexts [] [] = Unit {0}
AreNumbered callers contexts [] (a ∷ s) = ⊥
AreNumbered callers contexts (f ∷ fs) [] = ⊥
AreNumbered callers contexts (f ∷ fs) (a ∷ s) =
    (slice_get contexts f.func.0 ≡ Some (context callers (a ∷ s))) × AreNumbered callers contexts fs s

-- the number of a context, of so many
abbrev pub IsNumber : ℕ → FuncId → Type 0
IsNumber count number = number.0 < count

abbrev pub IsArcOf : ℕ → ArcKey → Type 0
IsArcOf count arc = IsNumber count arc.caller × IsNumber count arc.callee
