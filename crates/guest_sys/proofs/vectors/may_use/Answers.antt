use Rattle.std.proofs.Common.{◌+◌, ◌-◌, ◌∙◌, min, take, drop, get_or, ap, sym}
use Rattle.guest_mem.specs.Memory.{may}
use Rattle.guest_sys.specs.declared.vectors.Iovec.{Iovec}
use Rattle.guest_sys.proofs.VectorLemmas.{allowed_at, false_and, true_and}
use Rattle.guest_sys.proofs.vectors.may_use.Goals as goal
use Rattle.guest_sys.specs.inner.Bodies.{addresses_of, each_allowed}

abbrev nothing : Iovec
nothing = record { addr = 0; len = 0 }

pub returns-then-not-may : goal.returns-then-not-may
returns-then-not-may c =
    let len = c.min-len.ensures ∙ ap (min c.iovecs.left) c.from.ensures in
    sym (c.iovecs.invariant
    ∙ allowed_at c.args.mem.now c.args.want c.args.iovecs.now c.iovecs.iovec-index c.iovecs.left nothing
    c.iovecs-test.true
    ∙ false_and _ _
    (ap (may c.args.mem.now c.args.want (get_or c.args.iovecs.now c.iovecs.iovec-index nothing).addr) (sym len)
    ∙ sym c.may.ensures.value ∙ c.if-not-may.true))

pub iovecs-preserved : goal.iovecs-preserved
iovecs-preserved c =
    let len = c.min-len.ensures ∙ ap (min c.iovecs.left) c.from.ensures in
    c.iovecs.invariant
    ∙ allowed_at c.args.mem.now c.args.want c.args.iovecs.now c.iovecs.iovec-index c.iovecs.left nothing
    c.iovecs-test.true
    ∙ true_and _ _
    (ap (may c.args.mem.now c.args.want (get_or c.args.iovecs.now c.iovecs.iovec-index nothing).addr) (sym len)
    ∙ sym c.may.ensures.value ∙ c.if-not-may.false)
    ∙ ap (λ k. each_allowed c.args.mem.now c.args.want
    (take (c.iovecs.left - k) (addresses_of (drop (c.iovecs.iovec-index + 1) c.args.iovecs.now)))) (sym len)
