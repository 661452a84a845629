use Rattle.std.proofs.Common.{◌*◌, ap, sym, ◌∙◌, arith}
use Rattle.guest_mem.specs.Memory.{page_mapped}
use Rattle.guest_mem.proofs.Firsts.{mapped_page}
use Rattle.guest_mem.proofs.memory.GuestMem.past_gaps.Goals as goal

pub returns-clause-none : goal.returns-clause-none
returns-clause-none c = λ p l h within free.
    c.past_gaps.ensures.none p l h (λ q from to below.
    sym (mapped_page c.self.inside.directory q (omega (arith, below, c.requires.within)))
    ∙ ap (λ m. page_mapped m (q * 4096)) c.self.view_is ∙ free q from to)
