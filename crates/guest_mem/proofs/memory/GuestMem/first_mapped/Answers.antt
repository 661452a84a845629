use Rattle.std.proofs.Common.{◌*◌, ap, sym, ◌∙◌, arith}
use Rattle.guest_mem.specs.Memory.{page_mapped}
use Rattle.guest_mem.proofs.Firsts.{mapped_page}
use Rattle.guest_mem.proofs.memory.GuestMem.first_mapped.Goals as goal

pub returns-clause-passed : goal.returns-clause-passed
returns-clause-passed c = λ p l h.
    ap (λ m. page_mapped m (p * 4096)) (sym c.self.view_is)
    ∙ mapped_page c.self.inside.directory p (omega (arith, c.first.ensures.high)) ∙ c.first.ensures.passed p l h

pub returns-clause-met : goal.returns-clause-met
returns-clause-met c = λ h.
    ap (λ m. page_mapped m (c.first.result * 4096)) (sym c.self.view_is)
    ∙ mapped_page c.self.inside.directory c.first.result (omega arith) ∙ c.first.ensures.met h
