use Rattle.std.proofs.Common.{◌≤◌, sym, arith}
use Rattle.prog_make.proofs.SpanLemmas.{none_overlap}
use Rattle.prog_make.proofs.span.meets.Goals as goal

pub returns-then-from-reach : goal.returns-then-from-reach
returns-then-from-reach c = let behind : c.args.reach ≤ c.args.span.now.start =
    omega arith in sym (none_overlap c.args.span.now c.args.reach c.args.before.now behind c.requires)
