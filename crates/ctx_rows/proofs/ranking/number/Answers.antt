use Rattle.std.proofs.Common.{◌≡◌, get_or, ap, sym}
use Rattle.std.specs.Cmp.Lexicographic.{nat_list_cmp_total}
use Rattle.std.specs.Ordering.{is_eq}
use Rattle.contexts.specs.Contexts.{context_order}
use Rattle.contexts.specs.inner.Ties.{same_contexts}
use Rattle.ctx_rows.proofs.NamedLemmas.{contains_from_in}
use Rattle.ctx_rows.proofs.RankLemmas.{no_number, rising_number}
use Rattle.ctx_rows.proofs.SearchLemmas.{no_gap}
use Rattle.ctx_rows.proofs.ranking.number.Goals as goal

pub returns-in-Ok : goal.returns-in-Ok
returns-in-Ok c =
    let same : get_or c.args.contexts.now c.in-Ok.number c.args.context.now ≡ c.args.context.now
    = same_contexts _ _ (ap is_eq (c.in-Ok.ensures.ok c.args.context.now)) in
    sym (rising_number c.args.contexts.now c.args.context.now c.in-Ok.number c.requires c.in-Ok.ensures.bound same)

pub returns-in-Err : goal.returns-in-Err
returns-in-Err c =
    sym (no_number c.args.contexts.now c.args.context.now (λ there.
    no_gap context_order nat_list_cmp_total c.args.contexts.now c.args.context.now c.in-Err.field-0 c.requires
    (contains_from_in c.args.contexts.now c.args.context.now there) c.in-Err.ensures.position))
