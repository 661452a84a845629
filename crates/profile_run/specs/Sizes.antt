-- How large the numbers of a part's rows may be: each fits its type.
use Rattle.std.specs.Prelude.{◌<◌, ◌^◌, All}
use Rattle.arc_costs.specs.Contents.{Listed}

pub record FitTypes (rows : Listed) : Type 0 where
  pub lines : All (λ row. All (λ n. n < 2 ^ 64) row.cost) rows.lines
  pub calls : All (λ row. row.calls < 2 ^ 64) rows.arcs
  pub arcs : All (λ row. All (λ n. n < 2 ^ 64) row.cost) rows.arcs
