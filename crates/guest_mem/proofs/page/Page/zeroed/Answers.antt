use Rattle.guest_mem.specs.inner.Page.{zeros}
use Rattle.guest_mem.proofs.page.Page.zeroed.Goals as goal

pub returns-clause-value : goal.returns-clause-value
unfolding zeros
returns-clause-value c =
    let permission = c.granted_permission-permission.ensures.value in
    let bytes = c.in_ok-bytes.ensures.items_if_clones_equal (λ y e. e) in
    λ i. record { permission = permission i; bytes = bytes i }
