use Rattle.std.proofs.Common.{◌∙◌, arith}
use Rattle.guest_futex.proofs.OrderLaws.{turned-still, length-in_parts}
use Rattle.guest_futex.proofs.queue.take_out.Goals as goal

pub turn-requires : goal.turn-requires
turn-requires c =
    omega (
      arith,
      c.start_of-start.ensures,
      length-in_parts c.args.addr c.args.waits.now c.requires.rising,
      c.requires.within,
    )

pub returns : goal.returns
returns c =
    c.turn.ensures
    ∙ turned-still c.args.addr c.start_of-start.result c.args.count c.args.waits.now c.requires.rising c.requires.within
    c.start_of-start.ensures
