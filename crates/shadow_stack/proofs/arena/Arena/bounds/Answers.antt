use Rattle.std.proofs.Common.{ap, sym, arith, List}
use Rattle.shadow_stack.specs.Arenas.{frames_in, greatest_sp, least_sp, Link}
use Rattle.shadow_stack.proofs.ChainLemmas.{links-none}
use Rattle.shadow_stack.proofs.arena.Arena.bounds.Goals as goal

pub returns-then-head-eq0-clause-least : goal.returns-then-head-eq0-clause-least
returns-then-head-eq0-clause-least c =
    sym (ap (λ (ls : List Link). least_sp (frames_in ls))
    (links-none c.args.self.now.slots c.args.head (omega (arith, c.if-head-eq0.true))))

pub returns-then-head-eq0-clause-greatest : goal.returns-then-head-eq0-clause-greatest
returns-then-head-eq0-clause-greatest c =
    sym (ap (λ (ls : List Link). greatest_sp (frames_in ls))
    (links-none c.args.self.now.slots c.args.head (omega (arith, c.if-head-eq0.true))))
