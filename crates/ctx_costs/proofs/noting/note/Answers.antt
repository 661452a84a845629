use Rattle.ctx_costs.proofs.StepLemmas as step
use Rattle.ctx_costs.proofs.StepLemmas.{Noted}
use Rattle.ctx_costs.proofs.noting.note.Goals as goal
use Rattle.ctx_costs.proofs.noting.note.Goals.{After-count-row}

-- what holds once the event is counted
abbrev noted : After-count-row → Noted
noted c = record {
  callers = c.args.callers;
  contexts = c.args.contexts.now.contexts;
  syms = c.args.syms.now;
  event = c.args.event.now;
  cost = c.args.cost.now;
  at = c.place.result;
  old = c.args.track.now;
  mid = c.count-row.new.self;
  kept = c.requires.kept;
  live = c.requires.live;
  can = c.requires.sums;
  at_is = c.place.ensures.place;
  is = record {
    lines = c.count-row.ensures.lines;
    line_sums = c.count-row.ensures.line_sums;
    total = c.count-row.ensures.total;
    whole = c.count-row.ensures.whole;
    arcs = c.count-row.ensures.arcs;
    arc_room = c.count-row.ensures.arc_room;
    stack = c.count-row.ensures.stack;
    numbers = c.count-row.ensures.numbers;
    thread = c.count-row.ensures.thread;
  };
}

pub top-requires : goal.top-requires
top-requires c = step.numbers_live c.args.track.now c.requires.kept.framed c.requires.live

pub count-row-requires-clause-live : goal.count-row-requires-clause-live
count-row-requires-clause-live c = step.numbers_live c.args.track.now c.requires.kept.framed c.requires.live

pub change-requires : goal.change-requires
change-requires c =
    let n = noted (goal.at.change-requires c).After-count-row in
    record {
      few = c.requires.few;
      room = step.mid_enter n c.requires.room.enter;
      context_room = c.requires.context_room;
      live = step.mid_live n;
      rooted = step.mid_rooted n;
      framed = step.mid_framed n;
      numbered = step.mid_numbered n;
      can = step.mid_can n;
      calls = step.mid_calls n;
    }

pub returns : goal.returns
returns c =
    let n = noted (goal.at.returns c).After-count-row in
    let more = c.change.new.contexts.contexts in
    record {
      track = step.new_track n more c.change.new.self c.change.ensures;
      contexts = step.new_contexts n more c.change.new.self c.change.ensures;
      kept = step.new_kept n more c.change.new.self c.change.ensures;
    }
