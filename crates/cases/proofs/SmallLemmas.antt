-- Small rows can be folded.
use Rattle.std.proofs.Common.{ℕ, ◌<◌, ◌≤◌, ◌^◌, Bool, true, false, List, if◌then◌else◌, length, map, get_or}
use Rattle.std.proofs.Common.{arith}
use Rattle.std.specs.Prelude.{All, sum_by}
use Rattle.std.proofs.lemmas.List.{length-map}
use Rattle.std.proofs.lemmas.List.Elements.{All-map, All-weaker}
use Rattle.std.proofs.lemmas.List.Sums.{sum_by-le}
use Rattle.event_costs.specs.Keys.{ArcKey, Place}
use Rattle.arc_costs.specs.Arcs.{arc_sum, call_sum}
use Rattle.arc_costs.specs.Lines.{line_sum}
use Rattle.event_costs.specs.Order.{same_arc, same_place}
use Rattle.arc_costs.specs.Rows.{ArcRow, LineRow}
use Rattle.ctx_rows.specs.Folding.{plain, plain_arc, plain_line}
use Rattle.ctx_rows.specs.Rows.{CtxListed}
use Rattle.ctx_rows.specs.declared.rows.CtxArc.{CtxArc}
use Rattle.ctx_rows.specs.declared.rows.CtxLine.{CtxLine}
use Rattle.addr_rows.specs.Plain as addresses
use Rattle.addr_rows.specs.Rows.{AddrListed}
use Rattle.addr_rows.specs.declared.rows.AddrArc.{AddrArc}
use Rattle.addr_rows.specs.declared.rows.AddrLine.{AddrLine}
use Rattle.cases.specs.Small.{AreSmall, AreSmallAt, IsSmallArc, IsSmallAt, IsSmallFrom, IsSmallLine}

at_most : (b : Bool) (n : ℕ) → n < 2 ^ 32 → (if b then n else 0) ≤ 2 ^ 32
at_most true n small = omega (arith, small)
at_most false n small = omega arith

-- the sum of small numbers of few rows
fits : (A R : Type 0) (of : A → R) (number : R → ℕ) (rows : List A) → length rows < 2 ^ 31
    → All (λ a. number (of a) ≤ 2 ^ 32) rows
    → sum_by number (map of rows) < 2 ^ 64
fits A R of number rows short all =
    let sum = sum_by-le number (2 ^ 32) (map of rows) (All-map (λ r. number r ≤ 2 ^ 32) of rows all) in
    omega (arith, sum, length-map rows of, short)

module _ (rows : CtxListed) (small : AreSmall rows) where
  pub lines_fit : (kind : ℕ) (place : Place) → line_sum kind place (plain rows).lines < 2 ^ 64
  lines_fit kind place =
      let number : LineRow → ℕ = λ row. if same_place place row.place then get_or row.cost kind 0 else 0 in
      fits CtxLine LineRow plain_line number rows.lines small.few_lines
      (All-weaker IsSmallLine (λ row. number (plain_line row) ≤ 2 ^ 32)
      (λ row s. at_most (same_place place (plain_line row).place) (get_or row.cost kind 0) (s kind))
      rows.lines small.lines)

  pub arcs_fit : (kind : ℕ) (arc : ArcKey) → arc_sum kind arc (plain rows).arcs < 2 ^ 64
  arcs_fit kind arc =
      let number : ArcRow → ℕ = λ row. if same_arc arc row.arc then get_or row.cost kind 0 else 0 in
      fits CtxArc ArcRow plain_arc number rows.arcs small.few_arcs
      (All-weaker IsSmallArc (λ row. number (plain_arc row) ≤ 2 ^ 32)
      (λ row s. at_most (same_arc arc (plain_arc row).arc) (get_or row.cost kind 0)
      (s.cost kind)) rows.arcs small.arcs)

  pub calls_fit : (arc : ArcKey) → call_sum arc (plain rows).arcs < 2 ^ 64
  calls_fit arc =
      let number : ArcRow → ℕ = λ row. if same_arc arc row.arc then row.calls else 0 in
      fits CtxArc ArcRow plain_arc number rows.arcs small.few_arcs
      (All-weaker IsSmallArc (λ row. number (plain_arc row) ≤ 2 ^ 32)
      (λ row s. at_most (same_arc arc (plain_arc row).arc) row.calls s.calls) rows.arcs small.arcs)

-- rows by address
module _ (rows : AddrListed) (small : AreSmallAt rows) where
  pub lines_fit_at : (kind : ℕ) (place : Place) → line_sum kind place (addresses.plain rows).lines < 2 ^ 64
  lines_fit_at kind place =
      let number : LineRow → ℕ = λ row. if same_place place row.place then get_or row.cost kind 0 else 0 in
      fits AddrLine LineRow addresses.plain_line number rows.lines small.few_lines
      (All-weaker IsSmallAt (λ row. number (addresses.plain_line row) ≤ 2 ^ 32)
      (λ row s. at_most (same_place place row.place) (get_or row.cost kind 0) (s kind))
      rows.lines small.lines)

  pub arcs_fit_at : (kind : ℕ) (arc : ArcKey) → arc_sum kind arc (addresses.plain rows).arcs < 2 ^ 64
  arcs_fit_at kind arc =
      let number : ArcRow → ℕ = λ row. if same_arc arc row.arc then get_or row.cost kind 0 else 0 in
      fits AddrArc ArcRow addresses.plain_arc number rows.arcs small.few_arcs
      (All-weaker IsSmallFrom (λ row. number (addresses.plain_arc row) ≤ 2 ^ 32)
      (λ row s. at_most (same_arc arc row.arc) (get_or row.cost kind 0) (s.cost kind))
      rows.arcs small.arcs)

  pub calls_fit_at : (arc : ArcKey) → call_sum arc (addresses.plain rows).arcs < 2 ^ 64
  calls_fit_at arc =
      let number : ArcRow → ℕ = λ row. if same_arc arc row.arc then row.calls else 0 in
      fits AddrArc ArcRow addresses.plain_arc number rows.arcs small.few_arcs
      (All-weaker IsSmallFrom (λ row. number (addresses.plain_arc row) ≤ 2 ^ 32)
      (λ row s. at_most (same_arc arc row.arc) row.calls s.calls) rows.arcs small.arcs)
