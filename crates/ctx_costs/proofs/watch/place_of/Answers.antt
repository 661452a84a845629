use Rattle.ctx_costs.proofs.WatchLemmas.{place_found}
use Rattle.ctx_costs.proofs.watch.place_of.Goals as goal

pub returns : goal.returns
returns c = place_found c.args.tracks.now c.args.thread c.first_place.result c.first_place.ensures
