use Rattle.std.proofs.Common.{◌≡◌, ◌+◌, ◌-◌, ◌++◌, List, length, take, drop, map, refl, ap, ◌∙◌, arith}
use borrow.Rule.Slice.PartMut.{put_mid}
use Rattle.std.proofs.lemmas.List.{length-append, length-take-le}
use Rattle.std.proofs.lemmas.Slice.{between_to_end}
use Rattle.guest_futex.specs.Waits.{Wait, wait_at, threads_of}
use Rattle.guest_futex.specs.inner.Order.{higher, turned}
use Rattle.guest_futex.proofs.WaitLaws.{block}
use Rattle.guest_futex.proofs.OrderLaws.{turned-with, part-behind, length-in_parts}
use Rattle.guest_futex.proofs.queue.bring_in.Goals.{After-end_of-end, After-readdress}
use Rattle.guest_futex.proofs.queue.bring_in.Goals as goal

-- as many wait at higher addresses as stand between the end and the rest
over : (c : After-end_of-end) → c.end_of-end.result + length (higher c.args.addr (take c.args.rest c.args.waits.now))
    ≡ c.args.rest
over c =
    omega (
      arith,
      c.end_of-end.ensures,
      length-in_parts c.args.addr (take c.args.rest c.args.waits.now) c.requires.rising,
      length-take-le c.args.rest c.args.waits.now c.requires.within,
    )

pub overflow_sub-rest : goal.overflow_sub-rest
overflow_sub-rest c = omega (arith, over (goal.at.overflow_sub-rest c).After-end_of-end)

-- all of them, in which those behind the rest have the address
all : (c : After-readdress)
    → put_mid c.args.rest (length c.args.waits.now - c.args.rest) c.args.waits.now c.readdress.new.waits
    ≡ take c.args.rest c.args.waits.now ++ block c.args.addr (threads_of (drop c.args.rest c.args.waits.now))
all c =
    part-behind c.args.rest (length c.args.waits.now) c.args.waits.now c.readdress.new.waits refl
    ∙ ap (λ (l : List Wait). take c.args.rest c.args.waits.now ++ l)
    (c.readdress.ensures
    ∙ ap (λ (l : List Wait). map (wait_at c.args.addr) (threads_of l))
    (between_to_end c.args.waits.now c.args.rest (length c.args.waits.now) (omega arith)))

pub turn-requires : goal.turn-requires
turn-requires c =
    omega (
      arith,
      over (goal.at.turn-requires c).After-end_of-end,
      ap (length {A = Wait}) (all (goal.at.turn-requires c).After-readdress),
      length-append (take c.args.rest c.args.waits.now)
          (block c.args.addr (threads_of (drop c.args.rest c.args.waits.now))),
      length-take-le c.args.rest c.args.waits.now c.requires.within,
    )

pub returns : goal.returns
returns c =
    c.turn.ensures ∙ ap (turned c.end_of-end.result (c.args.rest - c.end_of-end.result)) (all (goal.at.returns c).After-readdress)
    ∙ turned-with c.args.addr c.end_of-end.result (c.args.rest - c.end_of-end.result)
    (threads_of (drop c.args.rest c.args.waits.now)) (take c.args.rest c.args.waits.now) c.requires.rising
    c.end_of-end.ensures (omega (arith, over (goal.at.returns c).After-end_of-end))
