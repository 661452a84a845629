use Rattle.std.proofs.Common.{[], ◌∷◌, ◌+◌, ◌∙◌, arith, length-append}
use Rattle.cg_lines.specs.Lines.{lines}
use Rattle.cg_lines.specs.Shapes.{line_of}
use Rattle.cg_read.specs.Reading.{history_of}
use Rattle.cg_read.proofs.HistoryLemmas.{texts_so_far, split_here, split_more, history_seen, number_seen, number_within}
use Rattle.cg_read.proofs.ReadingLemmas.{sound_more, refused_line, last_more}
use Rattle.cg_read.proofs.read.take_lines.Goals as goal

pub overflow_add-number : goal.overflow_add-number
overflow_add-number c =
    let here = split_here (lines c.args.bytes.now) c.lines.yielded _ c.next.new.self c.in-Some.text.now
    c.lines.invariant.split c.in-Some.ensures.steps in
    omega (
      arith,
      number_within c.args.bytes.now c.lines.yielded c.next.new.self c.in-Some.text.now c.lines.number here
          c.lines.invariant.number,
    )

pub returns-in-Err-clause-err : goal.returns-in-Err-clause-err
returns-in-Err-clause-err c =
    let here = split_here (lines c.args.bytes.now) c.lines.yielded _ c.next.new.self c.in-Some.text.now
    c.lines.invariant.split c.in-Some.ensures.steps in
    rw c.at.ensures
    (refused_line c.args.bytes.now (texts_so_far c.lines.yielded) c.in-Some.text.now c.next.new.self _ c.in-Err.fault here
    c.lines.invariant.sound (number_seen c.lines.yielded c.lines.number c.lines.invariant.number)
    (rw c.line_of-line.ensures at (c.in-Err.ensures (history_of (texts_so_far c.lines.yielded)) c.lines.invariant.knows)))

pub lines-preserved : goal.lines-preserved
lines-preserved c =
    let here = split_here (lines c.args.bytes.now) c.lines.yielded _ c.next.new.self c.in-Some.text.now
    c.lines.invariant.split c.in-Some.ensures.steps in
    let more = history_seen line_of c.lines.yielded c.in-Some.text in
    let read = rw c.line_of-line.ensures at
    (c.in_default.ensures (history_of (texts_so_far c.lines.yielded)) c.lines.invariant.knows) in
    record {
      can = tt;
      ends = tt;
      split = split_more (lines c.args.bytes.now) c.lines.yielded c.next.new.self c.in-Some.text here;
      knows = rw more read.0;
      sound =
          rw more
          (sound_more (history_of (texts_so_far c.lines.yielded)) (line_of c.in-Some.text.now) c.lines.invariant.sound read.1);
      number = omega (arith, length-append c.lines.yielded (c.in-Some.text ∷ []), c.lines.invariant.number);
      last =
          rw more
          (rw c.line_of-line.ensures at c.last_number-last.ensures
          ∙ last_more (texts_so_far c.lines.yielded) c.in-Some.text.now c.lines.last (c.lines.number + 1) c.lines.invariant.last
          (number_seen c.lines.yielded c.lines.number c.lines.invariant.number));
    }
