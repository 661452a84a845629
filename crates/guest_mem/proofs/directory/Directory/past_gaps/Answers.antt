use Rattle.std.proofs.Common.{◌*◌, arith}
use Rattle.std.specs.Prelude.{is_some}
use Rattle.guest_mem.specs.inner.Directory.{page_at}
use Rattle.guest_mem.proofs.Gaps.{gaps-passed}
use Rattle.guest_mem.proofs.directory.Directory.past_gaps.Goals.{in-Some+else-at-from+else-from-pages, in_default}
use Rattle.guest_mem.proofs.directory.Directory.past_gaps.Goals as goal

pub tables-preserved : goal.tables-preserved
tables-preserved c = elim c.match-gaps.branch [
  | in-Some+else-at-from+else-from-pages w ↦
      let start = w.start-is in
      let past = w.from-in-Some.ensures in
      let ends = w.in-Some.ensures.ends in
      let before = c.tables.invariant.border in
      let test = c.tables-test.true in
      record {
        low = omega (arith, start, c.tables.invariant.low, before);
        border = omega (arith, start, past, ends);
        high = omega (arith, start, past, ends, test);
        none = λ p l h.
            gaps-passed (λ q. is_some (page_at c.args.self.now q)) c.args.from c.tables.start (c.tables.high * 1024)
            c.args.pages c.args.end w.in-Some.gaps c.tables.invariant.none before (omega (arith, test))
            (omega (arith, w.if-at-from.false, w.from.ensures, before))
            (omega (arith, w.if-from-pages.false, w.from-else-at-from.ensures)) w.in-Some.ensures p l
            (omega (arith, h, start, past));
      }
  | in_default w ↦ record {
    low = omega (arith, w.start-is, c.tables.invariant.low);
    border = omega (arith, w.start-is, c.tables.invariant.border);
    high = omega (arith, w.start-is, c.tables.invariant.high);
    none = λ p l h. c.tables.invariant.none p l (omega (arith, w.start-is, h));
  }
]
