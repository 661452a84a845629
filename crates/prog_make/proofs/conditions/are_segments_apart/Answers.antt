-- An address lies in as many spans as segments.
use Rattle.std.proofs.Common.{◌≡◌, map, rules}
use Rattle.std.proofs.lemmas.List.{take_all}
use Rattle.prog_make.proofs.SpanLemmas.{segment_span, segments-apart}
use Rattle.prog_make.proofs.conditions.are_segments_apart.Goals as goal

pub returns : goal.returns
returns c =
    let all : c.segments.spans.items ≡ map segment_span c.args.segments.now =
    rw (take_all c.segments.segment-index c.args.segments.now c.segments-test.false) at c.segments.invariant in
    let spans : c.deref.result.now ≡ map segment_span c.args.segments.now = search rules in
    segments-apart c.args.segments.now c.deref.result.now c.are_apart.result spans c.are_apart.ensures.apart
    c.are_apart.ensures.shared
