use Rattle.std.proofs.Common.{ap, arith, length}
use Rattle.shadow_stack.specs.Arenas.{frames}
use Rattle.shadow_stack.specs.Frames.{count_pushed}
use Rattle.shadow_stack.specs.declared.frame.Frame.{Frame}
use Rattle.recorder.proofs.Others.{none_gone, none_pushed, same_frames}
use Rattle.recorder.proofs.BookLemmas as book
use Rattle.recorder.proofs.StayLemmas.{nothing_noted, rows_untold}
use Rattle.recorder.proofs.book.change.Goals as goal

pub returns-in-None-clause-frames : goal.returns-in-None-clause-frames
returns-in-None-clause-frames c =
    let fs = frames c.args.arena.now.slots c.args.head in
    let is = c.requires.stays c.in-None.is in
    same_frames c.args.step.now.syms.now c.args.total.now c.args.step.now.event.now fs is

pub returns-in-None-clause-told : goal.returns-in-None-clause-told
returns-in-None-clause-told c =
    let fs = frames c.args.arena.now.slots c.args.head in
    let is = c.requires.stays c.in-None.is in
    rows_untold c.args.step.now.syms.now c.args.total.now c.args.step.now.event.now fs c.args.rows.now is

pub returns-in-None-clause-answer : goal.returns-in-None-clause-answer
returns-in-None-clause-answer c =
    let fs = frames c.args.arena.now.slots c.args.head in
    let is = c.requires.stays c.in-None.is in
    nothing_noted c.args.step.now.syms.now c.args.step.now.watched.now c.args.step.now.event.now fs is

pub returns-in-None-clause-room : goal.returns-in-None-clause-room
returns-in-None-clause-room c =
    let fs = frames c.args.arena.now.slots c.args.head in
    let is = c.requires.stays c.in-None.is in
    omega (
      arith,
      none_gone c.args.step.now.syms.now c.args.step.now.event.now fs is,
      ap count_pushed (none_pushed c.args.step.now.syms.now c.args.step.now.event.now fs is),
    )

pub overflow_add-live : goal.overflow_add-live
overflow_add-live c =
    let fs = frames c.args.arena.now.slots c.args.head in
    let changed = c.change_frames-noted in
    let after = book.depth_after c.args.step.now.syms.now c.args.total.now c.args.step.now.event.now fs in
    let now = book.depth_is changed.new.arena.slots changed.new.head changed.ensures.lies in
    let was = book.depth_is c.args.arena.now.slots c.args.head c.requires.lies in
    let same = ap (length {A = Frame}) changed.ensures.frames in
    omega (
      arith,
      after,
      now,
      was,
      same,
      c.requires.few,
      c.requires.some,
      c.saturating_sub.ensures,
      c.saturating_sub-in-Some.ensures,
    )
