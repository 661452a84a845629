use Rattle.std.proofs.Common.{◌∙◌}
use Rattle.ctx_rows.proofs.RankLemmas.{one_rising}
use Rattle.ctx_rows.proofs.ranking.in_order.Goals as goal

pub returns : goal.returns
returns c =
    c.shrink_to_fit.ensures.items
    ∙ one_rising c.in_ok-contexts.contexts.items c.args.all.items c.in_ok-contexts.ensures.rise
    c.in_ok-contexts.ensures.same
