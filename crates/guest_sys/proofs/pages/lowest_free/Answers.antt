use Rattle.std.proofs.Common.{arith}
use Rattle.guest_sys.proofs.PlaceLemmas.{sought_past, sought_on, sought_found, sought_next, sought_none}
use Rattle.guest_sys.proofs.pages.lowest_free.Goals as goal

pub places-init : goal.places-init
places-init c =
    sought_on c.args.mem.now c.args.pages c.past_gaps-past.result c.first_free-start.result
    (sought_past c.args.mem.now c.args.pages c.past_gaps-past.result c.past_gaps-past.ensures.low
    c.past_gaps-past.ensures.high c.past_gaps-past.ensures.none)
    c.requires.some c.first_free-start.ensures.low c.first_free-start.ensures.high c.first_free-start.ensures.passed

pub returns-then-taken-end-clause-lowest : goal.returns-then-taken-end-clause-lowest
returns-then-taken-end-clause-lowest c =
    sought_found c.args.mem.now c.args.pages c.places.start c.places.invariant
    (omega (arith, c.places.invariant.top)) c.requires.some
    (λ p l h. c.first_mapped-taken.ensures.passed p l (omega arith))

pub places-preserved : goal.places-preserved
places-preserved c =
    sought_next c.args.mem.now c.args.pages c.places.start c.first_mapped-taken.result
    c.first_free-start-in-places.result c.places.invariant (omega arith)
    (c.first_mapped-taken.ensures.met (omega arith)) c.first_free-start-in-places.ensures.low
    c.first_free-start-in-places.ensures.high c.requires.some c.first_free-start-in-places.ensures.passed
    c.first_mapped-taken.ensures.low

pub returns-clause-lowest : goal.returns-clause-lowest
returns-clause-lowest c =
    sought_none c.args.mem.now c.args.pages c.places.start c.places.invariant (omega (arith, c.places.invariant.top))
