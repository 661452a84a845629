use Rattle.std.proofs.Common.{◌∙◌, ap, map, List, ℕ, Bor}
use Rattle.event_costs.specs.Costs.{event_names}
use Rattle.event_costs.proofs.CostLemmas.{map-events_shown}
use Rattle.event_costs.proofs.cost.event_names_shown.Goals as goal

pub returns : goal.returns
unfolding event_names
returns c =
    let text : Bor (List ℕ) → List ℕ = λ name. name.now in
    ap (map text) c.shown_part.ensures ∙ map-events_shown text c.args.branches _
