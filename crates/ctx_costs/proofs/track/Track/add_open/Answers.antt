use Rattle.std.proofs.Common.{ap, arith, reverse, rules, sym}
use Rattle.arc_costs.specs.Contents.{Contents}
use Rattle.ctx_costs.specs.inner.Tracks.{frames_of, numbers_of}
use Rattle.ctx_costs.proofs.OpeningLemmas.{can_open, has_opened, lines_opened, stands_opened}
use Rattle.ctx_costs.proofs.Others.{closings_costs}
use Rattle.ctx_costs.proofs.track.Track.add_open.Goals as goal

pub tell_open-requires-clause-tellings : goal.tell_open-requires-clause-tellings
tell_open-requires-clause-tellings c =
    let b = c.args.self.now in
    can_open b.total b.stack.frames (numbers_of b) _ c.requires.framed.entered (λ ok. ap reverse c.deref.ensures.value)
    (λ ok kind arc.
    omega (arith, c.requires.fits kind arc, closings_costs kind b.total arc (frames_of b) c.requires.starts))

pub returns-clause-lines : goal.returns-clause-lines
returns-clause-lines c =
    let b = c.args.self.now in
    let all = has_opened b.total b.stack.frames (numbers_of b) _ c.tell_open.new.sink c.requires.framed.entered
    (λ ok. ap reverse c.deref.ensures.value) c.tell_open.ensures in
    let loan = sym all.loan in
    let left = λ (rows : Contents). lines_opened _ c.tell_open.new.sink _ rows all in
    search (rules, left)

pub returns-clause-stands : goal.returns-clause-stands
returns-clause-stands c =
    let b = c.args.self.now in
    let all = has_opened b.total b.stack.frames (numbers_of b) _ c.tell_open.new.sink c.requires.framed.entered
    (λ ok. ap reverse c.deref.ensures.value) c.tell_open.ensures in
    let loan = sym all.loan in
    let left = λ (rows : Contents). stands_opened _ c.tell_open.new.sink _ rows all in
    search (rules, left)
