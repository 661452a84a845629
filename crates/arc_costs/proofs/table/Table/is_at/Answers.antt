use Rattle.std.proofs.Common.{Some, subst, position, ◌≡◌}
use Rattle.std.specs.Map.{keys_of}
use Rattle.arc_costs.proofs.TreeLemmas.{place_in_front}
use Rattle.arc_costs.proofs.table.Table.is_at.Goals as goal

pub returns : goal.returns
returns g c =
    λ yes.
    subst (λ t. position (g.K.PartialEq.eq c.args.key.now) (keys_of t.rows) ≡ Some c.args.place) c.self.view_is
    (place_in_front g.K.PartialEq.eq c.args.key.now c.self.inside.known.entries c.self.inside.newest c.args.place
    (c.is_at.ensures yes))
