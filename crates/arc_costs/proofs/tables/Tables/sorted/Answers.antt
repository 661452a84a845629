use Rattle.std.proofs.Common.{◌≡◌, ℕ, All, List, filter, map, refl, sym, ◌∙◌, ap, subst, IsPermutation}
use Rattle.std.specs.List.Sorted.{IsStrictlySortedBy}
use Rattle.std.proofs.lemmas.List.Elements.{All-filter, All-from_recursion, All-map}
use Rattle.std.proofs.lemmas.List.Sorted.{All-permutation, IsPermutation-map}
use Rattle.event_costs.specs.Costs.{IsWhole}
use Rattle.event_costs.specs.Keys.{ArcKey, Place}
use Rattle.arc_costs.specs.Arcs.{arc_of, is_some_arc}
use Rattle.arc_costs.specs.Contents.{Contents, arc_row, cost_row}
use Rattle.arc_costs.specs.Lines.{is_some_line, place_of}
use Rattle.event_costs.specs.Order.{arc_order, place_order}
use Rattle.arc_costs.specs.Rows.{ArcRow, LineRow}
use Rattle.arc_costs.specs.declared.total.Total.{Total}
use Rattle.arc_costs.specs.Totals.{is_some_cost, is_some_total}
use Rattle.arc_costs.proofs.ArcLemmas as arcs
use Rattle.arc_costs.proofs.LineLemmas as lines
use Rattle.arc_costs.proofs.RowLemmas.{filter-map}
use Rattle.arc_costs.proofs.tables.Tables.sorted.Goals as goal

pub returns-clause-lines : goal.returns-clause-lines
returns-clause-lines g c =
    let es = c.self.inside.lines.rows in
    let left : filter is_some_line c.args.self.now.lines ≡ map cost_row (filter (λ e. is_some_cost e.1) es)
    = ap (λ (v : Contents). filter is_some_line v.lines) (sym c.self.view_is)
    ∙ filter-map cost_row is_some_line (λ e. is_some_cost e.1) (λ e. refl) es in
    subst (λ rows. IsPermutation rows c.in_ok-lines.lines.items) (sym left)
    (subst (IsPermutation (map cost_row (filter (λ e. is_some_cost e.1) es))) (sym c.in_ok-lines.ensures)
    (IsPermutation-map cost_row
    (filter (λ e. is_some_cost e.1) es) c.in_ok-sorted.field-0.items c.in_ok-sorted.ensures.rows))

pub returns-clause-arcs : goal.returns-clause-arcs
returns-clause-arcs g c =
    let es = c.self.inside.arcs.rows in
    let left : filter is_some_arc c.args.self.now.arcs ≡ map arc_row (filter (λ e. is_some_total e.1) es)
    = ap (λ (v : Contents). filter is_some_arc v.arcs) (sym c.self.view_is)
    ∙ filter-map arc_row is_some_arc (λ e. is_some_total e.1) (λ e. refl) es in
    subst (λ rows. IsPermutation rows c.in_ok-arcs.arcs.items) (sym left)
    (subst (IsPermutation (map arc_row (filter (λ e. is_some_total e.1) es))) (sym c.in_ok-arcs.ensures)
    (IsPermutation-map arc_row
    (filter (λ e. is_some_total e.1) es) c.in_ok-sorted-2.field-0.items c.in_ok-sorted-2.ensures.rows))

pub returns-clause-lines_rise : goal.returns-clause-lines_rise
returns-clause-lines_rise g c =
    subst (IsStrictlySortedBy place_order)
    (sym (ap (map place_of) c.in_ok-lines.ensures ∙ lines.line_places c.in_ok-sorted.field-0.items))
    c.in_ok-sorted.ensures.rise

pub returns-clause-arcs_rise : goal.returns-clause-arcs_rise
returns-clause-arcs_rise g c =
    subst (IsStrictlySortedBy arc_order)
    (sym (ap (map arc_of) c.in_ok-arcs.ensures ∙ arcs.arc_keys c.in_ok-sorted-2.field-0.items))
    c.in_ok-sorted-2.ensures.rise

pub returns-clause-lines_stand : goal.returns-clause-lines_stand
returns-clause-lines_stand g c =
    λ additions stands. lines.sorted_stand c.args.self.now.lines c.in_ok-lines.lines.items additions
    (returns-clause-lines g c) stands

pub returns-clause-arcs_stand : goal.returns-clause-arcs_stand
returns-clause-arcs_stand g c =
    λ additions stands. arcs.sorted_stand c.args.self.now.arcs c.in_ok-arcs.arcs.items additions
    (returns-clause-arcs g c) stands

pub returns-clause-whole_lines : goal.returns-clause-whole_lines
returns-clause-whole_lines g c =
    let P : LineRow → Type 0 = λ row. IsWhole row.cost in
    All-permutation P (filter is_some_line c.args.self.now.lines) c.in_ok-lines.lines.items (returns-clause-lines g c)
    (All-filter is_some_line P c.args.self.now.lines
    (subst (λ (v : Contents). All P v.lines) c.self.view_is
    (All-map P cost_row c.self.inside.lines.rows
    (All-from_recursion (λ (e : Place × List ℕ). IsWhole e.1) c.self.inside.lines.rows
    c.in_ok-sorted.ensures.whole))))

pub returns-clause-whole_arcs : goal.returns-clause-whole_arcs
returns-clause-whole_arcs g c =
    let P : ArcRow → Type 0 = λ row. IsWhole row.cost in
    All-permutation P (filter is_some_arc c.args.self.now.arcs) c.in_ok-arcs.arcs.items (returns-clause-arcs g c)
    (All-filter is_some_arc P c.args.self.now.arcs
    (subst (λ (v : Contents). All P v.arcs) c.self.view_is
    (All-map P arc_row c.self.inside.arcs.rows
    (All-from_recursion (λ (e : ArcKey × Total). IsWhole e.1.cost) c.self.inside.arcs.rows
    c.in_ok-sorted-2.ensures.whole))))
