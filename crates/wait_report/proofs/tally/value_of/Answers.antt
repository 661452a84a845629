use Rattle.std.proofs.Common.{◌≡◌, Some, List, position, sym, ap, ◌∙◌}
use Rattle.std.specs.Map.{keys_of, lookup}
use Rattle.wait_report.proofs.Others.{at_position, lookup_at, element, value_of_place, value_there, within_place}
use Rattle.wait_report.proofs.tally.value_of.Goals as goal

pub returns : goal.returns
returns g c =
    let same = g.K.PartialEq.eq in
    let key = c.args.key.now in
    let rows = c.rows.result.now in
    let i = c.in_ok-index.index in
    let row = c.index-rows-index.result in
    let at : position (same key) (keys_of rows) ≡ Some i
    = ap (λ (es : List (g.row.K.Denot × g.row.V.Denot)). position (same key) (keys_of es)) c.rows.ensures.rows
    ∙ sym c.in_ok-index.ensures.index in
    let held = value_of_place same key rows i at in
    let is = value_there rows i row held.0 (element rows i row c.index-rows-index.is (within_place same key rows i at)) held.1 in
    ap Some (sym (ap (λ (e : g.row.K.Denot × g.row.V.Denot). e.1) c.index-rows-index.is) ∙ is)
    ∙ sym (lookup_at same key rows i held.0 (at_position same key rows i held.0 at held.1))
    ∙ ap (lookup (same key)) c.rows.ensures.rows
