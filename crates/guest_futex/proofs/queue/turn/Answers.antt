use Rattle.std.proofs.Common.{◌-◌, length, ap, refl, ◌∙◌}
use Rattle.guest_futex.proofs.OrderLaws.{turned-part}
use Rattle.guest_futex.proofs.queue.turn.Goals as goal
use borrow.Rule.Slice.PartMut.{put_mid}

pub returns : goal.returns
returns c =
    ap (put_mid c.args.start (length c.args.waits.now - c.args.start) c.args.waits.now) c.rotate_left.ensures.after
    ∙ turned-part c.args.start (length c.args.waits.now) c.args.count c.args.waits.now refl
