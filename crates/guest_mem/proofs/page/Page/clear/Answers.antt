use Rattle.std.proofs.Common.{◌≡◌, ◌∙◌, ap, arith, replicate, vec_len}
use Rattle.guest_mem.specs.Memory.{granted_permission}
use Rattle.guest_mem.specs.inner.Page.{zeros}
use Rattle.guest_mem.proofs.page.Page.clear.Goals as goal

pub returns-clause-after : goal.returns-clause-after
unfolding zeros
returns-clause-after c =
    let whole : vec_len c.self.inside.bytes ≡ 4096 = omega (arith, c.self.invariant.1) in
    let bytes = c.fill.ensures.items (λ y e. e) ∙ ap (λ n. replicate n 0) whole in
    c.protect.ensures.after ∙ (λ i. record { permission = granted_permission c.args.permission; bytes = bytes i })
