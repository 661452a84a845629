use Rattle.sym_map.proofs.Rotations.{number_is}
use Rattle.sym_map.proofs.place_index.number_from.Goals as goal

pub returns : goal.returns
returns c = λ count within below.
    number_is c.args.address c.args.first count c.rotate_right.result c.ranges.address.fits c.ranges.first.fits within
    c.rotate_right.ensures below
