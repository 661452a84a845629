use Rattle.std.proofs.Common.{◌≡◌, ℕ, List, true, ap, subst, sym}
use Rattle.event_costs.specs.Keys.{Place}
use Rattle.arc_costs.specs.Lines.{has_line}
use Rattle.contexts.specs.Contexts.{Context}
use Rattle.ctx_rows.specs.States.{contexts_after}
use Rattle.ctx_costs.specs.inner.Frames.{first_number}
use Rattle.ctx_costs.specs.inner.Tracks.{IsKept, numbers_of}
use Rattle.ctx_costs.proofs.StepLemmas as step
use Rattle.ctx_costs.proofs.StepLemmas.{Noted}
use Rattle.ctx_costs.proofs.noting.note_plain.Goals as goal
use Rattle.ctx_costs.proofs.noting.note_plain.Goals.{After-count}

-- what holds once the event is counted
abbrev noted : (c : After-count) (callers : ℕ) (contexts : List Context) → IsKept callers contexts c.args.track.now
    → Noted
noted c callers contexts kept = record {
  callers = callers;
  contexts = contexts;
  syms = c.args.syms.now;
  event = c.args.event.now;
  cost = c.args.ones.now;
  at = c.place.result;
  old = c.args.track.now;
  mid = c.count.new.self;
  kept = kept;
  live = c.requires.live;
  can = c.requires.sums;
  at_is = c.place.ensures.place;
  is = record {
    lines = c.count.ensures.lines;
    line_sums = c.count.ensures.line_sums;
    total = c.count.ensures.total;
    whole = c.count.ensures.whole;
    arcs = c.count.ensures.arcs;
    arc_room = c.count.ensures.arc_room;
    stack = c.count.ensures.stack;
    numbers = c.count.ensures.numbers;
    thread = c.count.ensures.thread;
  };
}

pub returns-clause-track : goal.returns-clause-track
returns-clause-track c = λ callers contexts kept.
    let n = noted (goal.at.returns-clause-track c).After-count callers contexts kept in
    step.new_track n contexts c.count.new.self (step.plain_done n c.requires.stays)

pub returns-clause-contexts : goal.returns-clause-contexts
returns-clause-contexts c = λ callers contexts. sym (ap (contexts_after callers contexts) c.requires.stays)

pub returns-clause-kept : goal.returns-clause-kept
returns-clause-kept c = λ callers contexts kept.
    let n = noted (goal.at.returns-clause-kept c).After-count callers contexts kept in
    step.new_kept n contexts c.count.new.self (step.plain_done n c.requires.stays)

pub returns-clause-room : goal.returns-clause-room
returns-clause-room c =
    step.plain_room c.args.track.now c.count.new.self _ c.count.ensures.stack c.count.ensures.numbers
    c.count.ensures.line_room
    (subst (λ (p : Place). has_line (record {
      func = first_number (numbers_of c.args.track.now);
      file = p.file;
      line = p.line;
    }) c.args.track.now.rows.lines ≡ true) (sym c.place.ensures.place) c.requires.there)
    c.count.ensures.arc_room c.requires.room
