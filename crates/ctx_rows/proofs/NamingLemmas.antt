-- Rows and frames by number, with contexts in the place of their numbers: they stay as they are once more contexts have
-- come up.
use Rattle.std.proofs.Common.{◌≡◌, ℕ, ◌<◌, Bool, true, false, List, [], ◌∷◌, ◌++◌, Option, None, Some, IfSome}
use Rattle.std.proofs.Common.{length, map, refl, ap, if◌then◌else◌}
use Rattle.std.specs.List.{AllByRecursion}
use Rattle.std.specs.Option.{option_map}
use Rattle.std.proofs.lemmas.List.{get_or_append_left}
use Rattle.event_costs.specs.Keys.{ArcKey}
use Rattle.event_costs.specs.declared.numbers.FuncId.{FuncId}
use Rattle.shadow_stack.specs.declared.frame.Frame.{Frame}
use Rattle.arc_costs.specs.Rows.{ArcRow, LineRow}
use Rattle.contexts.specs.Contexts.{Context, context_at, has_context, number, with_context}
use Rattle.ctx_rows.specs.Sums.{CtxArcKey}
use Rattle.contexts.proofs.NumberLemmas.{number_is}
use Rattle.ctx_rows.specs.Telling.{named_arc, named_line}
use Rattle.ctx_rows.specs.Tracks.{IsArcOf, IsNumber}
use Rattle.ctx_rows.proofs.FrameLemmas.{read_there, with_context_more}

-- an arc by number, with contexts in the place of their numbers
abbrev pub named_key : List Context → ArcKey → CtxArcKey
named_key cs k = record {
  caller = context_at cs k.caller;
  file = k.file;
  line = k.line;
  callee = context_at cs k.callee;
}

-- what a frame was entered by
abbrev pub from_of : List Context → Frame → Option CtxArcKey
from_of cs f = option_map (named_key cs) f.from

-- the arc that a frame was entered by is one of so many contexts
abbrev pub IsEnteredOf : ℕ → Frame → Type 0
IsEnteredOf count f = IfSome f.from (IsArcOf count)

-- ---- a context that comes up

pub at_more : (cs : List Context) (c : Context) (n : FuncId) → n.0 < length cs
    → context_at (with_context cs c) n ≡ context_at cs n
at_more cs c n less = by (has_context cs c)
  where
    by : (b : Bool) → context_at (if b then cs else cs ++ c ∷ []) n ≡ context_at cs n
    by true = refl
    by false = get_or_append_left cs (c ∷ []) [] n.0 less

pub at_number : (cs : List Context) (c : Context) → context_at (with_context cs c) (number cs c) ≡ c
at_number cs c = read_there (with_context cs c) (number cs c).0 c (number_is cs c)

module _ (cs : List Context) (c : Context) where
  pub key_more : (k : ArcKey) → IsArcOf (length cs) k → named_key (with_context cs c) k ≡ named_key cs k
  key_more k of = λ i. record {
    caller = at_more cs c k.caller of.0 i;
    file = k.file;
    line = k.line;
    callee = at_more cs c k.callee of.1 i;
  }

  pub lines_more : (rs : List LineRow) → AllByRecursion (λ (r : LineRow). IsNumber (length cs) r.place.func) rs
      → map (named_line (with_context cs c)) rs ≡ map (named_line cs) rs
  lines_more [] all = refl
  lines_more (r ∷ rs) all = λ i. record {
    ctx = at_more cs c r.place.func all.0 i;
    file = r.place.file;
    line = r.place.line;
    cost = r.cost;
  } ∷ lines_more rs all.1 i

  pub arcs_more : (rs : List ArcRow) → AllByRecursion (λ (r : ArcRow). IsArcOf (length cs) r.arc) rs
      → map (named_arc (with_context cs c)) rs ≡ map (named_arc cs) rs
  arcs_more [] all = refl
  arcs_more (r ∷ rs) all = λ i. record {
    caller = at_more cs c r.arc.caller all.0.0 i;
    callee = at_more cs c r.arc.callee all.0.1 i;
    file = r.arc.file;
    line = r.arc.line;
    calls = r.calls;
    cost = r.cost;
  } ∷ arcs_more rs all.1 i

  pub from_more : (from : Option ArcKey) → IfSome from (IsArcOf (length cs))
      → option_map (named_key (with_context cs c)) from ≡ option_map (named_key cs) from
  from_more None of = refl
  from_more (Some k) of = ap (λ (n : CtxArcKey). Some n) (key_more k of)

  pub froms_more : (fs : List Frame) → AllByRecursion (IsEnteredOf (length cs)) fs
      → map (from_of (with_context cs c)) fs ≡ map (from_of cs) fs
  froms_more [] all = refl
  froms_more (f ∷ fs) all = λ i. from_more f.from all.0 i ∷ froms_more fs all.1 i

  -- the numbers are still in range
  pub number_more : (n : FuncId) → IsNumber (length cs) n → IsNumber (length (with_context cs c)) n
  number_more n less = with_context_more cs c n.0 less

  pub ends_more : (k : ArcKey) → IsArcOf (length cs) k → IsArcOf (length (with_context cs c)) k
  ends_more k of = (number_more k.caller of.0, number_more k.callee of.1)

  pub line_numbers_more : (rs : List LineRow) → AllByRecursion (λ (r : LineRow). IsNumber (length cs) r.place.func) rs
      → AllByRecursion (λ (r : LineRow). IsNumber (length (with_context cs c)) r.place.func) rs
  line_numbers_more [] all = tt
  line_numbers_more (r ∷ rs) all = (number_more r.place.func all.0, line_numbers_more rs all.1)

  pub arc_numbers_more : (rs : List ArcRow) → AllByRecursion (λ (r : ArcRow). IsArcOf (length cs) r.arc) rs
      → AllByRecursion (λ (r : ArcRow). IsArcOf (length (with_context cs c)) r.arc) rs
  arc_numbers_more [] all = tt
  arc_numbers_more (r ∷ rs) all = (ends_more r.arc all.0, arc_numbers_more rs all.1)

  pub frame_numbers_more : (fs : List Frame) → AllByRecursion (IsEnteredOf (length cs)) fs
      → AllByRecursion (IsEnteredOf (length (with_context cs c))) fs
  frame_numbers_more [] all = tt
  frame_numbers_more (f ∷ fs) all = (by f.from all.0, frame_numbers_more fs all.1)
    where
      by : (from : Option ArcKey) → IfSome from (IsArcOf (length cs))
          → IfSome from (IsArcOf (length (with_context cs c)))
      by None of = tt
      by (Some k) of = ends_more k of
