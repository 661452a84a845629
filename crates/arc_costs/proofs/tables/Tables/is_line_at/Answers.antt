use Rattle.std.proofs.Common.{Some, subst, ◌≡◌, ◌∙◌}
use Rattle.arc_costs.specs.Contents.{Contents}
use Rattle.arc_costs.specs.Lines.{line_index}
use Rattle.arc_costs.proofs.LineLemmas.{line_index_is}
use Rattle.arc_costs.proofs.tables.Tables.is_line_at.Goals as goal

pub returns : goal.returns
returns g c =
    λ yes.
    subst (λ (v : Contents). line_index c.args.place v.lines ≡ Some c.args.index) c.self.view_is
    (line_index_is c.args.place c.self.inside.lines.rows ∙ c.is_at.ensures yes)
