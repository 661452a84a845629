use Rattle.std.proofs.Common.{ℕ, arith}
use Rattle.std.specs.Prelude.{is_some}
use Rattle.guest_mem.specs.inner.Directory.{page_at}
use Rattle.guest_mem.proofs.Firsts.{first_later, first_not_yet}
use Rattle.guest_mem.proofs.directory.Directory.first.Goals as goal

pub returns-then-found-border : goal.returns-then-found-border
returns-then-found-border c =
    first_later
    (λ p. is_some (page_at c.args.self.now p)) c.args.wanted c.args.from c.tables.at c.min-border.result c.args.end
    c.first_in_table-found.result c.tables.invariant.passed c.tables.invariant.low
    (omega arith) c.if-found-border.true c.first_in_table-found.ensures

pub tables-preserved : goal.tables-preserved
tables-preserved c = record {
  low = omega arith;
  high = omega arith;
  passed =
      first_not_yet
      (λ p. is_some (page_at c.args.self.now p)) c.args.wanted c.args.from c.tables.at c.min-border.result
      c.first_in_table-found.result c.tables.invariant.passed c.if-found-border.false c.first_in_table-found.ensures;
}
