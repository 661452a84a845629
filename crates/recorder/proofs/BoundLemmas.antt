-- Sums are at most steps times frames.
use Rattle.std.proofs.Common.{◌≡◌, ℕ, zero, suc, ◌+◌, ◌-◌, ◌*◌, ◌<◌, ◌≤◌, ◌^◌, Bool, true, false, cond, List, [], ◌∷◌}
use Rattle.std.proofs.Common.{length, get_or, All, Option, Some, None, sym, ap, subst, ◌∙◌, arith, if◌then◌else◌}
use Rattle.std.proofs.Math.Nat.{mul-add}
use Rattle.std.proofs.lemmas.List.{length-map}
use Rattle.std.proofs.lemmas.List.Sums.{count_by-le-length, sum_by-cons}
use Rattle.event_costs.specs.Costs.{event_kinds, no_cost, sum_of_costs}
use Rattle.event_costs.specs.declared.event.Event.{Event}
use Rattle.event_costs.specs.Keys.{ArcKey}
use Rattle.event_costs.specs.declared.numbers.ThreadNo.{ThreadNo}
use Rattle.sym_map.specs.SymbolMap.{SymbolMap, place_of}
use Rattle.shadow_stack.specs.Frames.{activation, pushed_activation, stack}
use Rattle.shadow_stack.specs.Stacks.{Activation, top_of}
use Rattle.shadow_stack.specs.declared.frame.Frame.{Frame}
use Rattle.arc_costs.specs.Lines.{line_sum}
use Rattle.event_costs.specs.Order.{same_place}
use Rattle.arc_costs.specs.Rows.{LineRow}
use Rattle.arc_costs.proofs.ArcLemmas as arcs
use Rattle.arc_costs.proofs.LineLemmas as lines
use Rattle.recorder.proofs.Others.{zero_replicate}
use Rattle.recorder.specs.Accounts.{Account}
use Rattle.recorder.specs.Bounds.{IsUnit, SumsWithin}
use Rattle.recorder.specs.Notes.{CanNote, account_after_cut, open_sum, first_account}
use Rattle.recorder.specs.Standing.{SameSums}
use Rattle.recorder.specs.Sums.{entered_by, is_arc, pushes}
use Rattle.recorder.specs.inner.Books.{Adds}
use Rattle.recorder.proofs.SumLemmas.{open_sum-cons, open_sum-restarted}

pub sum_below : (xs ys : List ℕ) (kind : ℕ) → get_or (sum_of_costs xs ys) kind 0 ≤ get_or xs kind 0 + get_or ys kind 0
sum_below [] [] kind = omega arith
sum_below [] (y ∷ ys) kind = omega arith
sum_below (x ∷ xs) [] kind = omega arith
sum_below (x ∷ xs) (y ∷ ys) zero = omega arith
sum_below (x ∷ xs) (y ∷ ys) (suc kind) = sum_below xs ys kind

share_below : (b : Bool) (sum total start cost : ℕ) → sum ≤ total + cost
    → (if b then sum - start else 0) ≤ (if b then total - start else 0) + cost * (if b then 1 else 0)
share_below true sum total start cost below = omega (arith, below)
share_below false sum total start cost below = omega arith

pub open_sum-below : (kind : ℕ) (total cost : List ℕ) (arc : ArcKey) (fs : List Frame)
    → open_sum kind (sum_of_costs total cost) arc fs ≤ open_sum kind total arc fs
    + get_or cost kind 0 * entered_by arc (stack fs)
open_sum-below kind total cost arc [] = omega arith
open_sum-below kind total cost arc (f ∷ fs) =
    let now = open_sum-cons kind (sum_of_costs total cost) arc f fs in
    let before = open_sum-cons kind total arc f fs in
    let here = share_below (is_arc arc f.from) (get_or (sum_of_costs total cost) kind 0) (get_or total kind 0)
    (get_or f.start kind 0) (get_or cost kind 0) (sum_below total cost kind) in
    let rest = open_sum-below kind total cost arc fs in
    let count : entered_by arc (stack (f ∷ fs)) ≡ (if is_arc arc f.from then 1 else 0) + entered_by arc (stack fs)
    = sum_by-cons (λ (a : Activation). cond (is_arc arc a.arc) 1 0) (activation f) (stack fs) in
    let spread : get_or cost kind 0 * entered_by arc (stack (f ∷ fs))
    ≡ get_or cost kind 0 * (if is_arc arc f.from then 1 else 0) + get_or cost kind 0 * entered_by arc (stack fs)
    = ap (λ n. get_or cost kind 0 * n) count
    ∙ mul-add (get_or cost kind 0) (if is_arc arc f.from then 1 else 0) (entered_by arc (stack fs)) in
    omega (arith, now, before, here, rest, spread)

unit_times : (u n : ℕ) → u ≤ 1 → u * n ≤ n
unit_times zero n one = omega arith
unit_times (suc zero) n one = omega arith
unit_times (suc (suc u)) n one = absurd (omega (arith, one))

under_frames : (cost : List ℕ) (kind : ℕ) (arc : ArcKey) (fs : List Frame) → IsUnit cost → length fs ≤ 4194304
    → get_or cost kind 0 * entered_by arc (stack fs) ≤ 4194304
under_frames cost kind arc fs unit shallow =
    let few = count_by-le-length (λ (a : Activation). is_arc arc a.arc) (stack fs) in
    omega (
      arith,
      unit_times (get_or cost kind 0) (entered_by arc (stack fs)) (unit kind),
      few,
      length-map fs activation,
      shallow,
    )

pub pushes_one : (arc : ArcKey) (p : Option Activation) → pushes arc p ≤ 1
pushes_one arc None = omega arith
pushes_one arc (Some a) = by (is_arc arc a.arc)
  where
    by : (b : Bool) → (if b then 1 else 0) ≤ 1
    by true = omega arith
    by false = omega arith

-- so many events can be noted, and more
pub can_note : (syms : SymbolMap) (e : Event) (cost : List ℕ) (a : Account) (steps : ℕ) → SumsWithin steps a
    → steps < 10 ^ 12 → IsUnit cost → length a.frames ≤ 4194304
    → top_of (stack a.frames) ≡ Some (place_of syms e.done.pc).func → CanNote syms e cost a
can_note syms e cost a steps within few unit shallow top = record {
  top = top;
  total = λ kind. omega (arith, within.total kind, unit kind, few);
  lines = λ kind. omega (arith, within.lines kind (place_of syms e.done.pc), unit kind, few);
  arcs =
      λ kind arc. omega (
        arith,
        within.arcs kind arc,
        open_sum-below kind a.total cost arc a.frames,
        under_frames cost kind arc a.frames unit shallow,
        few,
      );
  calls = λ arc. omega (arith, within.calls arc, pushes_one arc (pushed_activation syms e a.frames), few);
}

either_unit : (b : Bool) (n : ℕ) → n ≤ 1 → (if b then n else 0) ≤ 1
either_unit true n one = one
either_unit false n one = omega arith

-- an event more
pub within_more : (syms : SymbolMap) (e : Event) (cost : List ℕ) (old new : Account) (steps : ℕ)
    → Adds syms e cost old new → IsUnit cost → length old.frames ≤ 4194304 → SumsWithin steps old
    → SumsWithin (steps + 1) new
within_more syms e cost old new steps adds unit shallow within = record {
  total = λ kind. omega (arith, adds.total kind, within.total kind, unit kind);
  lines =
      λ kind place. omega (
        arith,
        adds.lines kind place,
        within.lines kind place,
        either_unit (same_place place (place_of syms e.done.pc))
            (get_or cost kind 0) (unit kind),
      );
  arcs =
      λ kind arc. omega
      (arith, adds.arcs kind arc, within.arcs kind arc, under_frames cost kind arc old.frames unit shallow);
  calls = λ arc. omega (arith, adds.calls arc, within.calls arc, pushes_one arc (pushed_activation syms e old.frames));
}

-- a cut, a refused one, and a thread that begins
pub within_cut : (old new : Account) (steps : ℕ) → new ≡ account_after_cut old → SumsWithin steps old → SumsWithin steps new
within_cut old new steps is within =
    let none = arcs.none_stand old.arcs in
    subst (λ (a : Account). SumsWithin steps a) (sym is)
    (record {
      total = within.total;
      lines = λ kind place. omega (arith, lines.none_stand old.lines kind place);
      arcs = λ kind arc. omega (arith, none.costs kind arc, open_sum-restarted kind old.total arc old.frames);
      calls = λ arc. omega (arith, none.calls arc);
    })

pub within_same : (old new : Account) (steps : ℕ) → SameSums old new → SumsWithin steps old → SumsWithin steps new
within_same old new steps same within = record {
  total = λ kind. omega (arith, within.total kind, ap (λ (total : List ℕ). get_or total kind 0) same.total);
  lines =
      λ kind place. omega
      (arith, within.lines kind place, ap (λ (ls : List LineRow). line_sum kind place ls) same.lines);
  arcs = λ kind arc. omega (arith, within.arcs kind arc, same.arcs kind arc);
  calls = λ arc. omega (arith, within.calls arc, same.calls arc);
}

pub within_started : (syms : SymbolMap) (thread : ThreadNo) (pc : ℕ) → SumsWithin 0 (first_account syms thread pc)
within_started syms thread pc = record {
  total = λ kind. let none : get_or no_cost kind 0 ≡ 0 = zero_replicate event_kinds kind in omega (arith, none);
  lines = λ kind place. omega arith;
  arcs = λ kind arc. omega arith;
  calls = λ arc. omega arith;
}

pub units : (cost : List ℕ) → All (λ k. k ≤ 1) cost → IsUnit cost
units [] ones kind = omega arith
units (n ∷ ns) ones zero = ones 0 0 (omega arith)
units (n ∷ ns) ones (suc kind) = units ns (λ k d lt. ones (suc k) d (omega (arith, lt))) kind
