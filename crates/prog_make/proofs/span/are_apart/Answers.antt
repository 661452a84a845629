-- Each span is apart from those before it.
use Rattle.std.proofs.Common.{◌≡◌, ◌+◌, take, get_or, true, false, max, rules}
use Rattle.std.specs.List.{list_any}
use Rattle.std.proofs.lemmas.List.{take_all}
use Rattle.prog_make.specs.declared.span.Span.{Span}
use Rattle.prog_make.specs.inner.Spans.{overlaps}
use Rattle.prog_make.proofs.SpanLemmas.{shares, apart_more, reached_more}
use Rattle.prog_make.proofs.span.are_apart.Goals as goal

no_span : Span
no_span = record { start = 0; len = 0 }

pub returns-then-meets-clause-shared : goal.returns-then-meets-clause-shared
unfolding no_span
returns-then-meets-clause-shared c =
    let found : list_any (overlaps (get_or c.args.spans.now c.spans.i no_span)) (take c.spans.i c.args.spans.now)
    ≡ true = search rules in
    λ apart. absurd (shares c.args.spans.now c.spans.i no_span c.spans-test.true found apart)

pub spans-preserved : goal.spans-preserved
unfolding no_span
spans-preserved c =
    let none : list_any (overlaps (get_or c.args.spans.now c.spans.i no_span)) (take c.spans.i c.args.spans.now)
    ≡ false = search rules in
    let reach : c.max-reach.result
    ≡ max c.spans.reach ((get_or c.args.spans.now c.spans.i no_span).start +
    (get_or c.args.spans.now c.spans.i no_span).len) = search rules in
    record {
      apart = apart_more c.args.spans.now c.spans.i no_span c.spans-test.true none c.spans.invariant.apart;
      reached = rw reach (reached_more c.args.spans.now c.spans.i c.spans.reach no_span c.spans-test.true
          c.spans.invariant.reached);
    }

pub returns-clause-apart : goal.returns-clause-apart
returns-clause-apart c = λ h. rw (take_all c.spans.i c.args.spans.now c.spans-test.false) at c.spans.invariant.apart
