use Rattle.std.proofs.Common.{arith}
use Rattle.sym_map.proofs.Ranges.{passed, at_passed}
use Rattle.sym_map.proofs.merge.Passed.pass.Goals as goal

pub returns-in-Some-clause-passed : goal.returns-in-Some-clause-passed
returns-in-Some-clause-passed c =
    let l = c.in-Some.ensures.lookup in
    passed c.args.ranges.now c.args.self.next c.args.self.cover c.in-Some.range.now c.args.start c.requires.rise
    c.requires.passed l.3.0 (l.3.1 c.in-Some.range.now) c.if-range-start.true

pub returns-in-Some-clause-here : goal.returns-in-Some-clause-here
returns-in-Some-clause-here c = λ a le.
    let l = c.in-Some.ensures.lookup in
    at_passed c.args.ranges.now c.args.self.next c.in-Some.range.now a l.3.0 (l.3.1 c.in-Some.range.now) (omega arith)
