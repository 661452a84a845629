use Rattle.std.proofs.Common.{ap}
use Rattle.event_costs.specs.Keys.{Place}
use Rattle.ctx_costs.proofs.track.Track.row_place.Goals as goal

pub returns : goal.returns
returns c = λ i. record {
  func = c.top.ensures i;
  file = ap (λ (p : Place). p.file) c.at.view_is i;
  line = ap (λ (p : Place). p.line) c.at.view_is i;
}
