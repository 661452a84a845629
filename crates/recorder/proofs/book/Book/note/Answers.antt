use Rattle.std.proofs.Common.{◌≡◌, ◌+◌, ◌*◌, ◌<◌, if◌then◌else◌, length, ap, sym}
use Rattle.std.proofs.Common.{subst, ◌∙◌, arith, List, ℕ, get_or, rules, Some}
use Rattle.event_costs.specs.Costs.{IsWhole, sum_of_costs}
use Rattle.event_costs.specs.Keys.{Place}
use Rattle.sym_map.specs.SymbolMap.{place_of}
use Rattle.sym_map.specs.declared.symbol_map.Way.{Way}
use Rattle.arc_costs.specs.Lines.{line_sum}
use Rattle.event_costs.specs.Order.{same_place}
use Rattle.recorder.specs.Sums.{entered_by, pushes}
use Rattle.recorder.proofs.SumLemmas.{open_sum-grown}
use Rattle.shadow_stack.specs.Arenas.{frames}
use Rattle.shadow_stack.specs.Frames.{pushed_activation, stack, StartWithin, tellings, frames_after}
use Rattle.shadow_stack.specs.declared.frame.Frame.{Frame}
use Rattle.arc_costs.specs.Arcs.{arc_sum, call_sum}
use Rattle.arc_costs.specs.Rows.{ArcRow}
use Rattle.arc_costs.proofs.FitLemmas.{fits_from_numbers}
use Rattle.recorder.proofs.Others.{number_of_sum}
use Rattle.recorder.specs.Notes.{open_sum}
use Rattle.recorder.specs.inner.Books.{AreEntered, AreKeyed}
use Rattle.recorder.specs.inner.Tellers.{RowsAfterTellings}
use Rattle.recorder.proofs.BookLemmas as book
use Rattle.recorder.proofs.EnteredLemmas.{AreEntered-after}
use Rattle.recorder.proofs.book.Book.note.Goals as goal
use Rattle.recorder.proofs.book.Book.note.Goals.{then-stays, else-stays}

pub add_total-requires : goal.add_total-requires
add_total-requires g c = fits_from_numbers c.args.self.now.total (g.C.EventCost.numbers c.args.cost.now)
    c.requires.can.total

pub change-changed-requires-clause-starts : goal.change-changed-requires-clause-starts
change-changed-requires-clause-starts g c =
    subst (λ (total : List ℕ). StartWithin total (frames c.args.arena.now.slots c.args.self.now.head))
    (sym c.add_total.ensures.sum)
    (book.starts_grown c.args.self.now.total (g.C.EventCost.numbers c.args.cost.now)
    (frames c.args.arena.now.slots c.args.self.now.head) c.requires.kept.sound.whole c.add_total.ensures.whole
    c.requires.kept.sound.starts)

pub change-changed-requires-clause-stays : goal.change-changed-requires-clause-stays
change-changed-requires-clause-stays g c =
    λ none. elim c.if-stays.branch [
      | then-stays w ↦ c.goes_on-stays.ensures.change w.if-stays.true c.args.step.now.syms.now
          (stack (frames c.args.arena.now.slots c.args.self.now.head))
          (ap (λ (w : Way). w.next_func) c.way.view_is ∙ c.way-way.ensures.next_func)
          (c.requires.can.top
          ∙ ap (λ (p : Place). Some p.func)
          (sym (ap (λ (w : Way). w.place) c.way.view_is ∙ c.way-way.ensures.place)))
      | else-stays w ↦ search (rules, sym w.leading-is ∙ none)
    ]

pub change-changed-requires-clause-tellings : goal.change-changed-requires-clause-tellings
change-changed-requires-clause-tellings g c =
    let fs = frames c.args.arena.now.slots c.args.self.now.head in
    let can = c.requires.can in
    let sound = c.requires.kept.sound in
    book.can_tell_event c.args.step.now.syms.now c.add_total.new.total c.args.step.now.event.now fs c.add_line-row.new.rows
    (change-changed-requires-clause-starts g c)
    (subst (λ (arcs : List ArcRow). AreKeyed arcs fs) (sym c.add_line-row.ensures.arcs) sound.keyed)
    (omega (arith, c.requires.arc_room, c.add_line-row.ensures.arc_room))
    (λ kind arc. omega (
      arith,
      can.arcs kind arc,
      ap (arc_sum kind arc) c.add_line-row.ensures.arcs,
      ap (λ (total : List ℕ). open_sum kind total arc fs) c.add_total.ensures.sum,
    ))
    (λ arc. omega (arith, can.calls arc, ap (call_sum arc) c.add_line-row.ensures.arcs))

pub returns-clause-adds : goal.returns-clause-adds
returns-clause-adds g c =
    let fs = frames c.args.arena.now.slots c.args.self.now.head in
    let sound = c.requires.kept.sound in
    let told =
    subst (λ (total : List ℕ). RowsAfterTellings c.add_line-row.new.rows
    (tellings c.args.step.now.syms.now total fs c.args.step.now.event.now) c.change-changed.new.rows) c.add_total.ensures.sum
    c.change-changed.ensures.told in
    let now : frames c.change-changed.new.arena.slots c.change-changed.result.head
    ≡ frames_after c.args.step.now.syms.now (sum_of_costs c.args.self.now.total (g.C.EventCost.numbers c.args.cost.now)) fs
    c.args.step.now.event.now
    = c.change-changed.ensures.frames
    ∙ ap (λ (total : List ℕ). frames_after c.args.step.now.syms.now total fs c.args.step.now.event.now) c.add_total.ensures.sum in
    record {
      total = λ kind. ap (λ (total : List ℕ). get_or total kind 0) c.add_total.ensures.sum
          ∙ number_of_sum c.args.self.now.total (g.C.EventCost.numbers c.args.cost.now) kind (sound.whole
          ∙ sym c.add_total.ensures.whole);
      lines = λ kind place.
          ap (line_sum kind place) c.change-changed.ensures.told.lines
          ∙ book.line_more c.args.self.now.rows.lines c.add_line-row.new.rows.lines c.way-way.result.place
          (g.C.EventCost.numbers c.args.cost.now)
          c.add_line-row.ensures.stands kind place
          ∙ ap (λ p. line_sum kind place c.args.self.now.rows.lines
          + (if same_place place p then get_or (g.C.EventCost.numbers c.args.cost.now) kind 0 else 0))
          c.way-way.ensures.place;
      arcs = λ kind arc.
          ap (λ (total : List ℕ). arc_sum kind arc c.change-changed.new.rows.arcs + open_sum kind total arc
          (frames c.change-changed.new.arena.slots c.change-changed.result.head)) c.add_total.ensures.sum
          ∙ ap (λ (gs : List Frame). arc_sum kind arc c.change-changed.new.rows.arcs + open_sum kind
          (sum_of_costs c.args.self.now.total (g.C.EventCost.numbers c.args.cost.now)) arc gs) now
          ∙ book.event_arcs c.args.step.now.syms.now c.args.self.now.total (g.C.EventCost.numbers c.args.cost.now)
          c.args.step.now.event.now fs
          c.add_line-row.new.rows c.change-changed.new.rows kind arc sound.whole c.add_total.ensures.whole
          sound.starts told
          ∙ ap (λ (rs : List ArcRow). arc_sum kind arc rs + open_sum kind c.args.self.now.total arc fs
          + get_or (g.C.EventCost.numbers c.args.cost.now) kind 0 * entered_by arc (stack fs))
          c.add_line-row.ensures.arcs;
      calls = λ arc.
          book.event_calls c.args.step.now.syms.now c.add_total.new.total c.args.step.now.event.now fs c.add_line-row.new.rows
          c.change-changed.new.rows arc c.change-changed.ensures.told
          ∙ ap (λ (rs : List ArcRow). call_sum arc rs + pushes arc
          (pushed_activation c.args.step.now.syms.now c.args.step.now.event.now fs)) c.add_line-row.ensures.arcs;
    }

pub returns-clause-kept : goal.returns-clause-kept
returns-clause-kept g c =
    let fs = frames c.args.arena.now.slots c.args.self.now.head in
    let sound = c.requires.kept.sound in
    let adds = returns-clause-adds g c in
    let live : 0 < c.args.self.now.head.depth
    = book.live_chain c.args.arena.now.slots c.args.self.now.head
    (place_of c.args.step.now.syms.now c.args.step.now.event.now.done.pc).func c.requires.can.top in
    record {
      lies = c.change-changed.ensures.lies;
      sound = record {
        whole =
            subst (λ (total : List ℕ). IsWhole total) (sym c.add_total.ensures.sum)
            (book.whole_sum c.args.self.now.total (g.C.EventCost.numbers c.args.cost.now) sound.whole
            c.add_total.ensures.whole);
        starts = c.change-changed.ensures.starts;
        entered = subst (λ (gs : List Frame). AreEntered gs) (sym c.change-changed.ensures.frames)
            (AreEntered-after c.args.step.now.syms.now c.add_total.new.total c.args.step.now.event.now fs
            (c.requires.kept.lies.rooted live) sound.entered);
        keyed =
            subst (λ (gs : List Frame). AreKeyed c.change-changed.new.rows.arcs gs)
            (sym c.change-changed.ensures.frames)
            (book.keyed_after c.args.step.now.syms.now c.add_total.new.total c.args.step.now.event.now fs c.add_line-row.new.rows
            c.change-changed.new.rows
            (subst (λ (arcs : List ArcRow). AreKeyed arcs fs)
            (sym c.add_line-row.ensures.arcs) sound.keyed) c.change-changed.ensures.told);
        within =
            λ kind arc. omega (
              arith,
              adds.arcs kind arc,
              c.requires.can.arcs kind arc,
              open_sum-grown kind c.args.self.now.total (g.C.EventCost.numbers c.args.cost.now) arc fs sound.whole
                  c.add_total.ensures.whole
                  sound.starts,
            );
        counted = λ arc. omega (arith, adds.calls arc, c.requires.can.calls arc);
      };
    }

pub returns-clause-arc_room : goal.returns-clause-arc_room
returns-clause-arc_room g c =
    omega (
      arith,
      c.change-changed.ensures.told.arc_room,
      c.add_line-row.ensures.arc_room,
      book.tellings_pushes c.args.step.now.syms.now c.add_total.new.total c.args.step.now.event.now
          (frames c.args.arena.now.slots c.args.self.now.head),
    )

pub returns-clause-entered : goal.returns-clause-entered
returns-clause-entered g c =
    let fs = frames c.args.arena.now.slots c.args.self.now.head in
    let after = book.depth_after c.args.step.now.syms.now c.add_total.new.total c.args.step.now.event.now fs in
    let now = book.depth_is c.change-changed.new.arena.slots c.change-changed.result.head
    c.change-changed.ensures.lies in
    let was = book.depth_is c.args.arena.now.slots c.args.self.now.head c.requires.kept.lies in
    let same = ap (length {A = Frame}) c.change-changed.ensures.frames in
    let live = book.live_chain c.args.arena.now.slots c.args.self.now.head
    (place_of c.args.step.now.syms.now c.args.step.now.event.now.done.pc).func c.requires.can.top in
    omega (arith, after, now, was, same, live)
