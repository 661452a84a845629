use Rattle.std.proofs.Common.{refl, reverse, rules, sym}
use Rattle.arc_costs.specs.Contents.{Contents}
use Rattle.shadow_stack.specs.Changes.{drop_count}
use Rattle.shadow_stack.specs.Frames.{pushed_activation, stack}
use Rattle.ctx_costs.proofs.ClosingLemmas.{can_take, has_taken, rows_left}
use Rattle.ctx_costs.proofs.track.tell.Goals as goal

pub after-requires-clause-tellings : goal.after-requires-clause-tellings
after-requires-clause-tellings c =
    can_take c.args.total.now (pushed_activation c.args.syms.now c.args.event.now c.args.calls.now.frames)
    (drop_count c.args.syms.now c.args.event.now (stack c.args.calls.now.frames)) c.args.calls.now.frames
    (reverse c.args.numbers.now) _ c.requires.entered refl c.requires.can

pub returns-clause-told : goal.returns-clause-told
returns-clause-told c =
    let all =
    has_taken c.args.total.now (pushed_activation c.args.syms.now c.args.event.now c.args.calls.now.frames)
    (drop_count c.args.syms.now c.args.event.now (stack c.args.calls.now.frames)) c.args.calls.now.frames
    (reverse c.args.numbers.now) _ c.after.new.sink c.requires.entered refl c.after.ensures.told in
    let loan = sym all.loan in
    let left = λ (rows : Contents). rows_left _ c.after.new.sink _ rows all.rows in
    search (rules, left)

pub returns-clause-pushed : goal.returns-clause-pushed
returns-clause-pushed c =
    let all =
    has_taken c.args.total.now (pushed_activation c.args.syms.now c.args.event.now c.args.calls.now.frames)
    (drop_count c.args.syms.now c.args.event.now (stack c.args.calls.now.frames)) c.args.calls.now.frames
    (reverse c.args.numbers.now) _ c.after.new.sink c.requires.entered refl c.after.ensures.told in
    all.pushed refl
