use Rattle.std.proofs.Common.{◌≡◌, [], ◌∷◌, get_or, map, take, subst, sym, ◌∙◌, ap, arith}
use Rattle.std.proofs.lemmas.List.{take_all}
use Rattle.std.proofs.lemmas.List.Sums.{fold_push}
use Rattle.arc_costs.specs.Arcs.{add_arc, add_arcs, arc_of, arc_sum, call_sum}
use Rattle.arc_costs.specs.Contents.{arc_row}
use Rattle.event_costs.specs.Order.{same_arc}
use Rattle.arc_costs.specs.Totals.{total}
use Rattle.arc_costs.specs.Rows.{ArcRow}
use Rattle.arc_costs.proofs.ArcLemmas.{arc_added, arc_adds, arc_counted, arc_takes_calls, arc_takes_cost, same_arc_laws}
use Rattle.arc_costs.proofs.RowLemmas.{next_fits, next_taken, sum_at-append}
use Rattle.arc_costs.proofs.merging.merge_arcs.Goals as goal

pub add-requires-clause-fits : goal.add-requires-clause-fits
add-requires-clause-fits g c =
    let row : ArcRow = record { arc = c.row.inside.arc; calls = c.row.inside.calls; cost = c.row.inside.cost } in
    let is : row ≡ get_or c.args.arcs.now c.arcs.row-index row = subst (λ (r : ArcRow). r ≡ get_or c.args.arcs.now c.arcs.row-index r) (sym c.row.view_is) c.row-item.is in
    let cost = arc_takes_cost c.arcs.table.rows row.arc row.cost
    (λ event.
    let next = next_fits arc_of same_arc same_arc_laws
    (λ (r : ArcRow). get_or r.cost event 0) c.args.arcs.now c.arcs.row-index row c.arcs-test.true is in
    omega (arith, next, c.arcs.invariant.costs event row.arc, c.requires.costs event row.arc)) in
    let next = next_fits arc_of same_arc same_arc_laws
    (λ (r : ArcRow). r.calls) c.args.arcs.now c.arcs.row-index row c.arcs-test.true is in
    let calls = arc_takes_calls c.arcs.table.rows row.arc row.calls
    (omega (arith, next, c.arcs.invariant.calls row.arc, c.requires.calls row.arc)) in
    record { calls = λ _. calls; cost = λ _. cost }

pub arcs-preserved : goal.arcs-preserved
arcs-preserved g c =
    let row : ArcRow = record { arc = c.row.inside.arc; calls = c.row.inside.calls; cost = c.row.inside.cost } in
    let is : row ≡ get_or c.args.arcs.now c.arcs.row-index row = subst (λ (r : ArcRow). r ≡ get_or c.args.arcs.now c.arcs.row-index r) (sym c.row.view_is) c.row-item.is in
    let arcs = c.args.arcs.now in
    let i = c.arcs.row-index in
    let t = total row.calls row.cost in
    let before = map arc_row c.args.table.now.rows in
    let taken = next_taken arcs i row c.arcs-test.true is in
    record {
      rows =
          ap (map arc_row) (c.reserve.ensures.rows ∙ c.add.ensures.rows) ∙ arc_adds c.arcs.table.rows row.arc t
          ∙ ap (λ rows. add_arc rows row) c.arcs.invariant.rows ∙ sym (fold_push add_arc before (take i arcs) row)
          ∙ ap (add_arcs before) (sym taken);
      costs = λ event arc.
          let added = arc_added c.arcs.table.rows row.arc t c.add.ensures.whole c.add.ensures.whole_amount event arc in
          let now = ap (λ rows. arc_sum event arc (map arc_row rows)) (c.reserve.ensures.rows ∙ c.add.ensures.rows) in
          let more = sum_at-append arc_of same_arc (λ (r : ArcRow). get_or r.cost event 0) arc (take i arcs)
          (row ∷ []) in
          let all = ap (arc_sum event arc) taken in
          omega (arith, added, now, more, all, c.arcs.invariant.costs event arc);
      calls = λ arc.
          let added = arc_counted c.arcs.table.rows row.arc t arc in
          let now = ap (λ rows. call_sum arc (map arc_row rows)) (c.reserve.ensures.rows ∙ c.add.ensures.rows) in
          let more = sum_at-append arc_of same_arc (λ (r : ArcRow). r.calls) arc (take i arcs) (row ∷ []) in
          let all = ap (call_sum arc) taken in
          omega (arith, added, now, more, all, c.arcs.invariant.calls arc);
      room = rw c.unwrap.ensures at c.reserve.ensures.room;
      ahead = let left = rw c.unwrap.ensures at c.reserve.ensures.ahead in omega (arith, left);
    }

pub returns-clause-cost_sums : goal.returns-clause-cost_sums
returns-clause-cost_sums g c =
    λ event arc.
    let all = ap (arc_sum event arc) (take_all c.arcs.row-index c.args.arcs.now c.arcs-test.false) in
    omega (arith, all, c.arcs.invariant.costs event arc)
