use Rattle.std.proofs.Common.{◌≡◌, ap, sym, ◌∙◌, rules}
use Rattle.shadow_stack.specs.Arenas.{frames}
use Rattle.shadow_stack.specs.Frames.{closings}
use Rattle.arc_costs.specs.Contents.{Contents}
use Rattle.recorder.proofs.TellingLemmas.{rows_left, tells_all}
use Rattle.recorder.proofs.book.restart.Goals as goal

pub returns-clause-told : goal.returns-clause-told
returns-clause-told c =
    let all = tells_all _ c.restart.new.sink _ c.restart.ensures.told in
    let loan = sym all.loan in
    let same : closings c.args.total.now (frames c.lend-held.result.arena.now.slots c.lend-held.result.head.now)
    ≡ closings c.args.total.now (frames c.args.arena.now.slots c.args.head.now)
    = ap (λ a. closings c.args.total.now (frames a.slots c.lend-held.result.head.now)) c.lend-held.ensures.arena
    ∙ ap (λ h. closings c.args.total.now (frames c.args.arena.now.slots h)) c.lend-held.ensures.head in
    let left = λ (rows : Contents). rows_left _ c.restart.new.sink _ _ rows all same in
    search (rules, left)
