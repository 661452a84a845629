use Rattle.std.proofs.Common.{refl, ap, sym, subst, ◌∙◌, arith, List}
use Rattle.shadow_stack.specs.Arenas.{frames}
use Rattle.shadow_stack.specs.Frames.{StartWithin}
use Rattle.shadow_stack.specs.declared.frame.Frame.{Frame}
use Rattle.recorder.proofs.Others.{StartWithin-restarted}
use Rattle.arc_costs.specs.Arcs.{cleared_arcs}
use Rattle.recorder.specs.Notes.{open_sum}
use Rattle.recorder.specs.inner.Books.{AreEntered, AreKeyed}
use Rattle.recorder.proofs.BookLemmas as book
use Rattle.recorder.proofs.SumLemmas.{closings_pushes, open_sum-restarted}
use Rattle.recorder.proofs.book.Book.cut.Goals as goal

pub restart-requires-clause-tellings : goal.restart-requires-clause-tellings
restart-requires-clause-tellings c =
    let sound = c.requires.kept.sound in
    book.can_tell_cut c.args.self.now.total
    (frames c.args.arena.now.slots c.args.self.now.head) c.args.self.now.rows sound.starts sound.keyed sound.within
    sound.counted

pub returns-clause-gives : goal.returns-clause-gives
returns-clause-gives c =
    let fs = frames c.args.arena.now.slots c.args.self.now.head in
    let sound = c.requires.kept.sound in
    let told = c.restart.ensures.told in
    record {
      thread = refl;
      frames = c.restart.ensures.frames;
      total = refl;
      lines = told.lines;
      cleared = ap cleared_arcs told.arcs
          ∙ book.cleared_closings c.args.self.now.total fs c.args.self.now.rows.arcs sound.keyed;
      arcs =
          λ kind arc.
          book.cut_arcs c.args.self.now.total fs c.args.self.now.rows c.restart.new.rows kind arc sound.starts told;
      calls = λ arc. book.cut_calls c.args.self.now.total fs c.args.self.now.rows c.restart.new.rows arc told;
      had_event = refl;
    }

pub returns-clause-kept : goal.returns-clause-kept
returns-clause-kept c =
    let fs = frames c.args.arena.now.slots c.args.self.now.head in
    let sound = c.requires.kept.sound in
    let told = c.restart.ensures.told in
    let gives = returns-clause-gives c in
    let total = c.args.self.now.total in
    record {
      lies = c.restart.ensures.lies;
      sound = record {
        whole = sound.whole;
        starts = subst (λ (gs : List Frame). StartWithin total gs) (sym c.restart.ensures.frames)
            (StartWithin-restarted total fs);
        entered = subst (λ (gs : List Frame). AreEntered gs) (sym c.restart.ensures.frames)
            (book.entered_restarted total fs sound.entered);
        keyed = subst (λ (gs : List Frame). AreKeyed c.restart.new.rows.arcs gs) (sym c.restart.ensures.frames)
            (book.keyed_restarted total fs c.args.self.now.rows c.restart.new.rows sound.keyed told);
        within =
            λ kind arc. omega (
              arith,
              gives.arcs kind arc,
              sound.within kind arc,
              ap (λ (gs : List Frame). open_sum kind total arc gs) c.restart.ensures.frames,
              open_sum-restarted kind total arc fs,
            );
        counted = λ arc. omega (arith, gives.calls arc, sound.counted arc);
      };
    }

pub returns-clause-arc_room : goal.returns-clause-arc_room
returns-clause-arc_room c =
    omega (
      arith,
      c.restart.ensures.told.arc_room,
      closings_pushes c.args.self.now.total (frames c.args.arena.now.slots c.args.self.now.head),
    )
