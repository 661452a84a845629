use Rattle.std.proofs.Common.{◌≡◌, Some, None, true, ap, sym, subst, ◌∙◌, get_or}
use Rattle.shadow_stack.specs.Arenas.{is_there, LiesIn}
use Rattle.shadow_stack.proofs.ChainLemmas.{top_there}
use Rattle.shadow_stack.proofs.EntryLemmas.{there_as, top_is}
use Rattle.shadow_stack.proofs.arena.Arena.chain_from.Goals as goal

pub index-requires : goal.index-requires
index-requires c =
    let given = c.requires in
    there_as c.self.inside.leads.slots c.self.inside.entries.slots c.args.key
    ∙ ap (λ s. is_there s c.args.key) (ap (λ b. b.slots) c.self.view_is)
    ∙ subst (λ k. is_there c.args.self.now.slots k ≡ true) given.3
    (top_there c.args.self.now.slots given.0 given.1 given.2)

pub returns : goal.returns
returns c = λ head lies some at.
    let slots = ap (λ b. b.slots) c.self.view_is in
    let top = top_is c.self.inside.leads.slots c.self.inside.entries.slots head c.index.result.now
    (subst (λ s. LiesIn s head) (sym slots) lies) some
    (subst (λ k. get_or c.self.inside.entries.slots k None ≡ Some c.index.result.now) (sym at) c.index.ensures) in
    λ i. record { top = sym at i; depth = top.depth i }
