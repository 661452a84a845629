use Rattle.std.proofs.Common.{◌∙◌, arith}
use Rattle.name_numbers.proofs.Fronts.{front_none, front_more, front_fits}
use Rattle.name_numbers.proofs.name_order.front.Goals as goal

pub bytes-init : goal.bytes-init
bytes-init c = front_none c.args.bytes.now

pub overflow_mul-front : goal.overflow_mul-front
overflow_mul-front c =
    let fits = front_fits c.args.bytes.now c.bytes.place c.bytes.front (omega arith) c.bytes.invariant in
    omega (arith, fits)

pub overflow_add-front : goal.overflow_add-front
overflow_add-front c =
    let fits = front_fits c.args.bytes.now c.bytes.place c.bytes.front (omega arith) c.bytes.invariant in
    omega (arith, fits)

pub bytes-preserved : goal.bytes-preserved
bytes-preserved c =
    front_more c.args.bytes.now c.bytes.place c.bytes.front c.from.result c.bytes.invariant
    (c.from.ensures ∙ c.byte_at.ensures) (omega arith)
