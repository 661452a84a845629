use Rattle.std.proofs.Common.{◌≡◌, List, [], ap, arith, length, refl, reverse, ◌∙◌}
use Rattle.std.proofs.lemmas.Bool.Decides.{nat_tests}
use Rattle.std.proofs.lemmas.List.{nil_from_length}
use Rattle.arc_costs.specs.Arcs.{arc_sum, call_sum}
use Rattle.arc_costs.specs.Lines.{line_sum}
use Rattle.arc_costs.specs.Rows.{ArcRow}
use Rattle.recorder.specs.Notes.{open_sum, rows_of_tellings}
use Rattle.recorder.specs.inner.TellerLaws.{arc_sum-append, call_sum-append}
use Rattle.shadow_stack.specs.Frames.{closings}
use Rattle.shadow_stack.specs.declared.frame.Frame.{Frame}
use Rattle.ctx_costs.proofs.Others.{closings_calls, closings_costs}
use Rattle.ctx_costs.specs.inner.Frames.{numbered_frames}
use Rattle.ctx_costs.specs.inner.Tracks.{frames_of, track_of}
use Rattle.ctx_costs.proofs.NumberedLemmas.{none_numbered}
use Rattle.ctx_rows.specs.Tracks.{account_of}
use Rattle.ctx_costs.proofs.OpenLemmas.{cut_of}
use Rattle.ctx_costs.proofs.OpeningLemmas.{own_sums}
use Rattle.ctx_costs.proofs.track.Track.rows.Goals as goal

pub merge-requires-clause-line_costs : goal.merge-requires-clause-line_costs
merge-requires-clause-line_costs c event place =
    let b = c.args.self.now in
    omega (
      arith,
      ap (line_sum event place) c.new-all.ensures.lines,
      c.in_ok-sorted.ensures.lines_stand b.rows.lines (λ k p. refl) event place,
      c.requires.lines event place,
    )

pub merge-requires-clause-arc_costs : goal.merge-requires-clause-arc_costs
merge-requires-clause-arc_costs c event arc =
    let b = c.args.self.now in
    let counted = c.in_ok-sorted.ensures.arcs_stand b.rows.arcs (own_sums b.rows.arcs) in
    omega (
      arith,
      ap (arc_sum event arc) c.new-all.ensures.arcs,
      counted.costs event arc,
      c.requires.arcs event arc,
    )

pub merge-requires-clause-calls : goal.merge-requires-clause-calls
merge-requires-clause-calls c arc =
    let b = c.args.self.now in
    let counted = c.in_ok-sorted.ensures.arcs_stand b.rows.arcs (own_sums b.rows.arcs) in
    omega (arith, ap (call_sum arc) c.new-all.ensures.arcs, counted.calls arc, c.requires.calls arc)

pub add_open-requires-clause-fits : goal.add_open-requires-clause-fits
add_open-requires-clause-fits c kind arc =
    let b = c.args.self.now in
    let counted = c.in_ok-sorted.ensures.arcs_stand b.rows.arcs (own_sums b.rows.arcs) in
    let merged = c.in_ok-merge.ensures.arcs_stand [] (record {
      calls = λ key. ap (call_sum key) c.new-all.ensures.arcs;
      costs = λ k key. ap (arc_sum k key) c.new-all.ensures.arcs;
    }) in
    omega (
      arith,
      merged.costs kind arc,
      counted.costs kind arc,
      c.requires.arcs kind arc,
    )

pub returns-clause-rows : goal.returns-clause-rows
returns-clause-rows c =
    let b = c.args.self.now in
    let open_frames = frames_of b in
    let added : List ArcRow = rows_of_tellings (closings b.total open_frames) in
    let counted = c.in_ok-sorted.ensures.arcs_stand b.rows.arcs (own_sums b.rows.arcs) in
    let merged = c.in_ok-merge.ensures.arcs_stand [] (record {
      calls = λ key. ap (call_sum key) c.new-all.ensures.arcs;
      costs = λ kind key. ap (arc_sum kind key) c.new-all.ensures.arcs;
    }) in
    let all = c.in_ok-add_open.ensures.stands c.merge.new.self.arcs (own_sums c.merge.new.self.arcs) in
    cut_of c.sorted-3.result (account_of (track_of b)) c.add_open.new.rows.lines c.add_open.new.rows.arcs
    (λ kind place.
    ap (line_sum kind place) c.in_ok-add_open.ensures.lines
    ∙ c.in_ok-merge.ensures.lines_stand [] (λ k p. ap (line_sum k p) c.new-all.ensures.lines) kind place
    ∙ c.in_ok-sorted.ensures.lines_stand b.rows.lines (λ k p. refl) kind place)
    (λ kind arc. omega (
      arith,
      all.costs kind arc,
      arc_sum-append kind arc c.merge.new.self.arcs added,
      merged.costs kind arc,
      counted.costs kind arc,
      closings_costs kind b.total arc open_frames c.requires.starts,
    ))
    (λ arc. omega (
      arith,
      all.calls arc,
      call_sum-append arc c.merge.new.self.arcs added,
      merged.calls arc,
      counted.calls arc,
      closings_calls b.total arc open_frames,
    ))
    c.sorted-3.ensures.lines c.sorted-3.ensures.arcs c.sorted-3.ensures.lines_rise c.sorted-3.ensures.arcs_rise
    c.sorted-3.ensures.lines_stand c.sorted-3.ensures.arcs_stand

-- where no frame is open
pub returns-then-is_empty-clause-rows : goal.returns-then-is_empty-clause-rows
returns-then-is_empty-clause-rows c =
    let b = c.args.self.now in
    let count : length b.numbers.items ≡ 0 = grind (arith, nat_tests, c.is_empty.ensures, c.if-is_empty.true) in
    let none : frames_of b ≡ []
    = ap (λ ns. numbered_frames b.stack.frames (reverse ns)) (nil_from_length b.numbers.items count)
    ∙ none_numbered b.stack.frames in
    cut_of c.sorted.result (account_of (track_of b)) b.rows.lines b.rows.arcs
    (λ kind place. refl)
    (λ kind arc. omega (arith, ap (λ (fs : List Frame). open_sum kind b.total arc fs) none))
    (λ arc. refl)
    c.sorted.ensures.lines c.sorted.ensures.arcs c.sorted.ensures.lines_rise c.sorted.ensures.arcs_rise
    c.sorted.ensures.lines_stand c.sorted.ensures.arcs_stand
