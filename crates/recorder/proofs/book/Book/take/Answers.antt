use Rattle.std.proofs.Common.{refl}
use Rattle.arc_costs.specs.Arcs.{is_some_arc}
use Rattle.arc_costs.specs.Lines.{is_some_line}
use Rattle.recorder.proofs.BookLemmas.{sorted_some}
use Rattle.recorder.proofs.book.Book.take.Goals as goal

pub returns-clause-rows : goal.returns-clause-rows
returns-clause-rows c =
    let sorted = c.in_ok-rows.ensures in
    let arcs = sorted.arcs_stand c.args.self.now.rows.arcs (record { calls = λ arc. refl; costs = λ kind arc. refl }) in
    record {
      lines = sorted.lines_stand c.args.self.now.rows.lines (λ kind place. refl);
      arcs = arcs.costs;
      calls = arcs.calls;
      lines_rise = sorted.lines_rise;
      arcs_rise = sorted.arcs_rise;
      some_lines = sorted_some is_some_line c.args.self.now.rows.lines c.in_ok-rows.rows.lines sorted.lines;
      some_arcs = sorted_some is_some_arc c.args.self.now.rows.arcs c.in_ok-rows.rows.arcs sorted.arcs;
    }
