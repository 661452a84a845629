use Rattle.std.proofs.Common.{◌≡◌, map}
use Rattle.std.proofs.lemmas.Result.{IfOk-weaker}
use Rattle.cg_read.specs.Ranks.{AreRanks}
use Rattle.cg_read.specs.inner.Gains.{renumber}
use Rattle.cg_read.proofs.RankLemmas.{function_ranks, ranks_known}
use Rattle.cg_read.proofs.functions.Functions.ranks.Goals as goal

pub renumber-requires : goal.renumber-requires
renumber-requires c =
    rw (c.deref-2.ensures.value, c.deref-3.ensures.value)
    (ranks_known c.self.inside.texts.items c.self.inside.numbered.items c.in_ok-ranks.ranks.items
    c.self.invariant.0.of_texts (rw c.deref.ensures.value at c.in_ok-ranks.ensures))

pub returns : goal.returns
returns c =
    let texts = c.self.inside.texts.items in
    let numbered = c.self.inside.numbered.items in
    let ranks = c.in_ok-ranks.ranks.items in
    IfOk-weaker c.renumber.result (λ copies. copies.items ≡ map (renumber ranks) numbered)
    (λ copies. AreRanks c.args.self.now copies.items)
    (λ copies is. rw (is, ← c.self.view_is)
    (function_ranks texts numbered ranks c.self.invariant.0.of_texts (rw c.deref.ensures.value at c.in_ok-ranks.ensures)))
    (rw (c.deref-2.ensures.value, c.deref-3.ensures.value) at c.renumber.ensures)
