use Rattle.std.proofs.Common.{◌≡◌, [], ◌∷◌, get_or, map, take, subst, sym, ◌∙◌, ap, arith}
use Rattle.std.proofs.lemmas.List.{take_all}
use Rattle.std.proofs.lemmas.List.Sums.{fold_push}
use Rattle.arc_costs.specs.Contents.{cost_row}
use Rattle.arc_costs.specs.Lines.{add_line, add_lines, line_sum, place_of}
use Rattle.event_costs.specs.Order.{same_place}
use Rattle.arc_costs.specs.Rows.{LineRow}
use Rattle.arc_costs.proofs.LineLemmas.{line_added, line_adds, line_takes, same_place_laws}
use Rattle.arc_costs.proofs.RowLemmas.{next_fits, next_taken, sum_at-append}
use Rattle.arc_costs.proofs.merging.merge_lines.Goals as goal

pub add-requires-clause-fits : goal.add-requires-clause-fits
add-requires-clause-fits g c =
    let row : LineRow = record { place = c.row.inside.place; cost = c.row.inside.cost } in
    let is : row ≡ get_or c.args.lines.now c.lines.row-index row = subst (λ (r : LineRow). r ≡ get_or c.args.lines.now c.lines.row-index r) (sym c.row.view_is) c.row-item.is in
    line_takes c.lines.table.rows row.place row.cost
    (λ event.
    let next =
    next_fits place_of same_place same_place_laws
    (λ (r : LineRow). get_or r.cost event 0) c.args.lines.now c.lines.row-index row c.lines-test.true is in
    omega (arith, next, c.lines.invariant.sums event row.place, c.requires.costs event row.place))

pub lines-preserved : goal.lines-preserved
lines-preserved g c =
    let row : LineRow = record { place = c.row.inside.place; cost = c.row.inside.cost } in
    let is : row ≡ get_or c.args.lines.now c.lines.row-index row = subst (λ (r : LineRow). r ≡ get_or c.args.lines.now c.lines.row-index r) (sym c.row.view_is) c.row-item.is in
    let lines = c.args.lines.now in
    let i = c.lines.row-index in
    let before = map cost_row c.args.table.now.rows in
    let taken = next_taken lines i row c.lines-test.true is in
    record {
      rows =
          ap (map cost_row) (c.reserve.ensures.rows ∙ c.add.ensures.rows)
          ∙ line_adds c.lines.table.rows row.place row.cost
          ∙ ap (λ rows. add_line rows row) c.lines.invariant.rows ∙ sym (fold_push add_line before (take i lines) row)
          ∙ ap (add_lines before) (sym taken);
      sums = λ event place.
          let added =
          line_added c.lines.table.rows row.place row.cost c.add.ensures.whole c.add.ensures.whole_amount
          event place in
          let now =
          ap (λ rows. line_sum event place (map cost_row rows)) (c.reserve.ensures.rows ∙ c.add.ensures.rows) in
          let more = sum_at-append place_of same_place (λ (r : LineRow). get_or r.cost event 0) place (take i lines)
          (row ∷ []) in
          let all = ap (line_sum event place) taken in
          omega (arith, added, now, more, all, c.lines.invariant.sums event place);
      room = rw c.unwrap.ensures at c.reserve.ensures.room;
      ahead = let left = rw c.unwrap.ensures at c.reserve.ensures.ahead in omega (arith, left);
    }

pub returns-clause-sums : goal.returns-clause-sums
returns-clause-sums g c =
    λ event place.
    let all = ap (line_sum event place) (take_all c.lines.row-index c.args.lines.now c.lines-test.false) in
    omega (arith, all, c.lines.invariant.sums event place)
