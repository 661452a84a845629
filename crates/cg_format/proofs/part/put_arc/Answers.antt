use Rattle.std.proofs.Common.{◌∷◌, ◌∙◌, List, OnOk, ap, subst, ℕ}
use Rattle.event_costs.specs.Keys.{ArcKey}
use Rattle.sym_map.specs.SymbolMap.{entry_line_of, home_of}
use Rattle.arc_costs.specs.Rows.{ArcRow}
use Rattle.cg_format.specs.Marks.{Callee, Calls}
use Rattle.cg_format.specs.Part.{cost_line, in_file}
use Rattle.cg_format.specs.Standing.{WriterState}
use Rattle.cg_format.specs.declared.file_key.FileKey.TheVariants.{OfCallee}
use Rattle.cg_format.proofs.part.put_arc.Goals as goal

pub returns : goal.returns
returns g c before wrote =
    let m = g.N.Naming.map c.args.names.now in
    let row = c.args.row.now in
    let at = c.in_ok-enter_file.ensures before wrote in
    let named = c.in_ok-put_callee.ensures _ at in
    let counted = c.in_ok-put_call_count.ensures _ named in
    let arc = ap (λ r. r.arc) c.row-inside.view_is ∙ ap (λ (r : ArcRow). r.arc) c.row.view_is in
    let cost = ap (λ r. r.cost) c.row-inside.view_is ∙ ap (λ (r : ArcRow). r.cost) c.row.view_is in
    subst (λ (t : ArcKey × List ℕ). OnOk c.put_costs.result (WriterState m (cost_line c.args.head.now t.0.line t.1
    ∷ Calls row.calls (entry_line_of m row.arc.callee) ∷ Callee t.0.callee
    ∷ in_file OfCallee (home_of m t.0.callee) before) c.put_costs.new.self)) (λ i. (arc i, cost i))
    (simp (c.home.ensures.number, c.shown_numbers.ensures) at (c.put_costs.ensures _ _ counted))
