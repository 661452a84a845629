-- The spans so far are apart, and end at `reach` at most.
use Rattle.std.proofs.Common.{◌+◌, ◌≤◌, take}
use Rattle.std.specs.List.{All}
use Rattle.prog_make.specs.inner.Spans.{AreSpansApart}
use Rattle.prog_make.proofs.span.are_apart.Given as goal

abbrev pub invariant-spans : goal.invariant-spans
invariant-spans l = record {
  apart : AreSpansApart (take l.i l.spans);
  reached : All (λ s. s.start + s.len ≤ l.reach) (take l.i l.spans);
}
