use Rattle.std.proofs.Common.{◌≡◌, ap, sym, ◌∙◌, rules}
use Rattle.shadow_stack.specs.Arenas.{frames}
use Rattle.shadow_stack.specs.Frames.{tellings}
use Rattle.arc_costs.specs.Contents.{Contents}
use Rattle.recorder.proofs.EnteredLemmas.{noted_told}
use Rattle.recorder.proofs.TellingLemmas.{noted_left, rows_left, tells_all}
use Rattle.recorder.proofs.book.change_frames.Goals as goal

pub returns-clause-told : goal.returns-clause-told
returns-clause-told c =
    let all = tells_all _ c.after_known.new.sink _ c.after_known.ensures.told in
    let loan = sym all.loan in
    let same : tellings c.args.step.now.syms.now c.args.total.now
    (frames c.lend-held.result.arena.now.slots c.lend-held.result.head.now) c.args.step.now.event.now
    ≡ tellings c.args.step.now.syms.now c.args.total.now (frames c.args.arena.now.slots c.args.head.now) c.args.step.now.event.now
    = ap (λ a. tellings c.args.step.now.syms.now c.args.total.now (frames a.slots c.lend-held.result.head.now) c.args.step.now.event.now)
    c.lend-held.ensures.arena
    ∙ ap (λ h. tellings c.args.step.now.syms.now c.args.total.now (frames c.args.arena.now.slots h) c.args.step.now.event.now)
    c.lend-held.ensures.head in
    let left = λ (rows : Contents). rows_left _ c.after_known.new.sink _ _ rows all same in
    search (rules, left)

pub returns-clause-answer : goal.returns-clause-answer
returns-clause-answer c =
    let all = tells_all _ c.after_known.new.sink _ c.after_known.ensures.told in
    let same : tellings c.args.step.now.syms.now c.args.total.now
    (frames c.lend-held.result.arena.now.slots c.lend-held.result.head.now) c.args.step.now.event.now
    ≡ tellings c.args.step.now.syms.now c.args.total.now (frames c.args.arena.now.slots c.args.head.now) c.args.step.now.event.now
    = ap (λ a. tellings c.args.step.now.syms.now c.args.total.now (frames a.slots c.lend-held.result.head.now) c.args.step.now.event.now)
    c.lend-held.ensures.arena
    ∙ ap (λ h. tellings c.args.step.now.syms.now c.args.total.now (frames c.args.arena.now.slots h) c.args.step.now.event.now)
    c.lend-held.ensures.head in
    noted_left _ c.after_known.new.sink _ _ all same
    ∙ noted_told c.args.step.now.syms.now c.args.step.now.watched.now c.args.total.now c.args.step.now.event.now
    (frames c.args.arena.now.slots c.args.head.now) c.leaves_root-left.result c.requires.entered
    (c.requires.lies.rooted c.requires.live) c.leaves_root-left.ensures
