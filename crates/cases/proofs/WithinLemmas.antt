-- What an addition makes of a limit of all sums.
use Rattle.std.proofs.Common.{◌+◌, ◌<◌, ◌≤◌, ◌^◌, ℕ, Bool, true, false, List, [], ◌∷◌, ◌++◌, get_or, refl, sym, ◌∙◌}
use Rattle.std.proofs.Common.{subst, arith, if◌then◌else◌, ◌≡◌}
use Rattle.std.proofs.lemmas.Bool.{true≢false}
use Rattle.event_costs.specs.Costs.{event_kinds}
use Rattle.event_costs.specs.Keys.{ArcKey, Place}
use Rattle.arc_costs.specs.Arcs.{ArcsStandFor, arc_of, arc_sum, call_of_arc, call_sum, cost_of_arc}
use Rattle.arc_costs.specs.Lines.{LinesStandFor, line, line_sum, place_of}
use Rattle.event_costs.specs.Order.{same_arc, same_place}
use Rattle.arc_costs.specs.Rows.{ArcRow, LineRow}
use Rattle.arc_costs.proofs.RowLemmas.{sum_at-append, sum_at_one, zero_replicate}
use Rattle.cases.specs.Within.{IsWithin}

at_most : (b : Bool) (n : ℕ) → (if b then n else 0) ≤ n
at_most true n = omega arith
at_most false n = omega arith

pub line_within : (lines : List LineRow) (new : LineRow) (event : ℕ) (place : Place)
    → line_sum event place (lines ++ new ∷ []) ≤ line_sum event place lines + get_or new.cost event 0
line_within lines new event place =
    let number : LineRow → ℕ = λ row. get_or row.cost event 0 in
    let all = sum_at-append place_of same_place number place lines (new ∷ []) in
    let one = sum_at_one place_of same_place number place new in
    omega (arith, all, one, at_most (same_place place new.place) (get_or new.cost event 0))

pub arc_within : (arcs : List ArcRow) (new : ArcRow) (event : ℕ) (arc : ArcKey)
    → arc_sum event arc (arcs ++ new ∷ []) ≤ arc_sum event arc arcs + get_or new.cost event 0
arc_within arcs new event arc =
    let number : ArcRow → ℕ = λ row. get_or row.cost event 0 in
    let all = sum_at-append arc_of same_arc number arc arcs (new ∷ []) in
    let one = sum_at_one arc_of same_arc number arc new in
    omega (arith, all, one, at_most (same_arc arc new.arc) (get_or new.cost event 0))

pub calls_within : (arcs : List ArcRow) (new : ArcRow) (arc : ArcKey)
    → call_sum arc (arcs ++ new ∷ []) ≤ call_sum arc arcs + new.calls
calls_within arcs new arc =
    let number : ArcRow → ℕ = λ row. row.calls in
    let all = sum_at-append arc_of same_arc number arc arcs (new ∷ []) in
    let one = sum_at_one arc_of same_arc number arc new in
    omega (arith, all, one, at_most (same_arc arc new.arc) new.calls)

pub more_within : (limit limit' : ℕ) (lines : List LineRow) (arcs : List ArcRow) → limit ≤ limit'
    → IsWithin limit lines arcs → IsWithin limit' lines arcs
more_within limit limit' lines arcs more within = record {
  line_costs = λ event place. omega (arith, more, within.line_costs event place);
  arc_costs = λ event arc. omega (arith, more, within.arc_costs event arc);
  calls = λ arc. omega (arith, more, within.calls arc);
}

pub within_same : (limit : ℕ) (lines lines' : List LineRow) (arcs arcs' : List ArcRow) → lines' ≡ lines → arcs' ≡ arcs
    → IsWithin limit lines arcs
    → IsWithin limit lines' arcs'
within_same limit lines lines' arcs arcs' same_lines same_arcs within =
    subst (λ rows. IsWithin limit rows arcs') (sym same_lines)
    (subst (λ rows. IsWithin limit lines rows) (sym same_arcs) within)

pub nothing_within : IsWithin 0 [] []
nothing_within = record {
  line_costs = λ event place. omega arith;
  arc_costs = λ event arc. omega arith;
  calls = λ arc. omega arith;
}

-- room is asked for where a key isn't known
pub known_needs_none : {A : Type 0} {known : Bool} → known ≡ true → known ≡ false → A
known_needs_none is_true is_false = absurd (true≢false (sym is_true ∙ is_false))

pub stand_themselves : (arcs : List ArcRow) → ArcsStandFor arcs arcs
stand_themselves arcs = record { calls = λ arc. refl; costs = λ event arc. refl }

-- a cost at a place and at an arc, and a call of the arc, after one another
module _ (lines lines' : List LineRow) (arcs arcs' arcs'' : List ArcRow) (place : Place) (arc : ArcKey) (cost : List ℕ)
    (line_added : (additions : List LineRow) → LinesStandFor lines additions
    → LinesStandFor lines' (additions ++ line place cost ∷ []))
    (arc_added : (additions : List ArcRow) → ArcsStandFor arcs additions
    → ArcsStandFor arcs' (additions ++ cost_of_arc arc cost ∷ []))
    (small : (event : ℕ) → get_or cost event 0 < 2 ^ 32) (limit : ℕ) (within : IsWithin limit lines arcs) where
  pub uncalled : (other : ArcKey) → call_sum other arcs' ≤ limit
  uncalled other =
      let now = (arc_added arcs (stand_themselves arcs)).calls other in
      omega (arith, now, calls_within arcs (cost_of_arc arc cost) other, within.calls other)

  pub all_within : ((additions : List ArcRow) → ArcsStandFor arcs' additions
      → ArcsStandFor arcs'' (additions ++ call_of_arc arc ∷ []))
      → IsWithin (limit + 2 ^ 32) lines' arcs''
  all_within call_added = record {
    line_costs = λ event other.
        let now = line_added lines (λ e p. refl) event other in
        omega (arith, now, line_within lines (line place cost) event other, within.line_costs event other, small event);
    arc_costs = λ event other.
        let mid = (arc_added arcs (stand_themselves arcs)).costs event other in
        let now = (call_added arcs' (stand_themselves arcs')).costs event other in
        let none = zero_replicate event_kinds event in
        omega (
          arith,
          mid,
          now,
          none,
          arc_within arcs (cost_of_arc arc cost) event other,
          arc_within arcs' (call_of_arc arc) event other,
          within.arc_costs event other,
          small event,
        );
    calls = λ other.
        let now = (call_added arcs' (stand_themselves arcs')).calls other in
        omega (arith, now, calls_within arcs' (call_of_arc arc) other, uncalled other);
  }
