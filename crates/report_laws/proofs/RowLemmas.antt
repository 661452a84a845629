-- Two lists of rows with equal sums: tests of their places and arcs, and sums over those that pass.
use Rattle.std.proofs.Common.{◌≡◌, ℕ, suc, ◌<◌, ◌==◌, Bool, true, false, not, ◌||◌, List, [], ◌∷◌, get_or, refl, arith}
use Rattle.std.proofs.Common.{Option, None, Some}
use Rattle.std.specs.List.{AllByRecursion, list_any}
use Rattle.std.proofs.lemmas.Bool.Decides.{nat_tests}
use Rattle.std.proofs.lemmas.List.Elements.{recursion_from_All}
use Rattle.event_costs.specs.Keys.{ArcKey, Place}
use Rattle.arc_costs.specs.Arcs.{arc_of, is_some_arc}
use Rattle.arc_costs.specs.Contents.{Listed}
use Rattle.arc_costs.specs.Lines.{is_some_line, place_of}
use Rattle.event_costs.specs.Order.{same_arc, same_place}
use Rattle.arc_costs.specs.Totals.{is_some_cost}
use Rattle.arc_costs.specs.Rows.{ArcRow, LineRow}
use Rattle.report_laws.proofs.Others.{each_weaker, sum_where, arc_itself, place_itself, arc_alike, place_alike}
use Rattle.report_laws.specs.Sums.{AreCounted, HaveEqualSums}
use Rattle.report_laws.proofs.KeyLemmas.{IsSome, any_same, where_same}

-- what was counted of a kind of event
abbrev pub line_number : ℕ → LineRow → ℕ
line_number kind row = get_or row.cost kind 0

-- the calls, or what was counted of a kind of event
abbrev pub arc_number : Option ℕ → ArcRow → ℕ
arc_number None row = row.calls
arc_number (Some kind) row = get_or row.cost kind 0

some_cost : (cost : List ℕ) → is_some_cost cost ≡ true → (kind : ℕ) × (0 < get_or cost kind 0)
some_cost [] is = absurd (cc)
some_cost (n ∷ ns) is = by (n == 0) refl is (some_cost ns)
  where
    by : (b : Bool) → (n == 0) ≡ b → (not b || is_some_cost ns) ≡ true
        → (is_some_cost ns ≡ true → (kind : ℕ) × (0 < get_or ns kind 0))
        → (kind : ℕ) × (0 < get_or (n ∷ ns) kind 0)
    by true e is later = let rest = later is in (suc rest.0, rest.1)
    by false e is later = let some : 0 < n = grind (arith, nat_tests) in (0, some)

abbrev IsSomeLine : LineRow → Type 0
IsSomeLine = IsSome same_place place_alike place_itself place_of line_number

abbrev IsSomeArc : ArcRow → Type 0
IsSomeArc = IsSome same_arc arc_alike arc_itself arc_of arc_number

some_line : (row : LineRow) → is_some_line row ≡ true → IsSomeLine row
some_line row is = some_cost row.cost is

some_arc : (row : ArcRow) → is_some_arc row ≡ true → IsSomeArc row
some_arc row is = by (row.calls == 0) refl is
  where
    by : (b : Bool) → (row.calls == 0) ≡ b → (not b || is_some_cost row.cost) ≡ true → IsSomeArc row
    by true e is = let some = some_cost row.cost is in (Some some.0, some.1)
    by false e is = let some : 0 < row.calls = grind (arith, nat_tests) in (None, some)

some_lines : (rows : Listed) → AreCounted rows → AllByRecursion IsSomeLine rows.lines
some_lines rows are =
    each_weaker (λ (row : LineRow). is_some_line row ≡ true) IsSomeLine some_line rows.lines
    (recursion_from_All (λ (row : LineRow). is_some_line row ≡ true) rows.lines are.lines)

some_arcs : (rows : Listed) → AreCounted rows → AllByRecursion IsSomeArc rows.arcs
some_arcs rows are =
    each_weaker (λ (row : ArcRow). is_some_arc row ≡ true) IsSomeArc some_arc rows.arcs
    (recursion_from_All (λ (row : ArcRow). is_some_arc row ≡ true) rows.arcs are.arcs)

module _ (rows others : Listed) (equal : HaveEqualSums rows others) where
  equal_arcs : (i : Option ℕ) (arc : ArcKey)
      → sum_where arc_of (arc_number i) (same_arc arc) rows.arcs
      ≡ sum_where arc_of (arc_number i) (same_arc arc) others.arcs
  equal_arcs None arc = equal.arcs.calls arc
  equal_arcs (Some kind) arc = equal.arcs.costs kind arc

  pub lines_any : (test : Place → Bool)
      → list_any (λ (row : LineRow). test row.place) rows.lines
      ≡ list_any (λ (row : LineRow). test row.place) others.lines
  lines_any test =
      any_same same_place place_alike place_itself place_of line_number test rows.lines others.lines
      (some_lines rows equal.counted) (some_lines others equal.others_counted) (λ kind place. equal.lines kind place)

  pub lines_where : (kind : ℕ) (test : Place → Bool)
      → sum_where place_of (line_number kind) test rows.lines ≡ sum_where place_of (line_number kind) test others.lines
  lines_where kind test =
      where_same same_place place_alike place_itself place_of line_number kind test rows.lines others.lines
      (λ kind place. equal.lines kind place)

  pub arcs_any : (test : ArcKey → Bool)
      → list_any (λ (row : ArcRow). test row.arc) rows.arcs ≡ list_any (λ (row : ArcRow). test row.arc) others.arcs
  arcs_any test =
      any_same same_arc arc_alike arc_itself arc_of arc_number test rows.arcs others.arcs
      (some_arcs rows equal.counted) (some_arcs others equal.others_counted) equal_arcs

  pub arcs_where : (i : Option ℕ) (test : ArcKey → Bool)
      → sum_where arc_of (arc_number i) test rows.arcs ≡ sum_where arc_of (arc_number i) test others.arcs
  arcs_where i test =
      where_same same_arc arc_alike arc_itself arc_of arc_number i test rows.arcs others.arcs equal_arcs
