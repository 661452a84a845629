use Rattle.std.proofs.Common.{◌≡◌, ◌-◌, ◌+◌, ◌∙◌, ap, subst, arith, refl}
use Rattle.std.specs.Prelude.{None, is_some}
use Rattle.guest_mem.specs.inner.Table.{AltersRange}
use Rattle.guest_mem.specs.inner.Directory.{page_at, page_total}
use Rattle.guest_mem.proofs.Mapped.{total_same}
use Rattle.guest_mem.proofs.Places.{range_absent, range_taken}
use Rattle.guest_mem.proofs.directory.Directory.clear.Goals as goal

pub there-init : goal.there-init
there-init c = record {
  low = c.first-at.ensures.low;
  high = c.first-at.ensures.high;
  after = range_absent (page_at c.args.self.now) c.args.first c.first-at.result c.first-at.ensures.passed;
  taken = omega arith;
  bound = omega arith;
}

pub there-preserved : goal.there-preserved
there-preserved c = record {
  low = omega (arith, c.there.invariant.low, c.first-at-in-there.ensures.low);
  high = c.first-at-in-there.ensures.high;
  after =
      range_taken (page_at c.args.self.now) (page_at c.there.self)
      (page_at c.remove-taken.new.self) c.args.first c.there.at c.first-at-in-there.result c.there.invariant.low
      (omega (arith, c.first-at-in-there.ensures.low)) c.there.invariant.after c.remove-taken.ensures.after
      c.first-at-in-there.ensures.passed;
  taken = omega (arith, c.there.invariant.taken, c.remove-taken.ensures.taken);
  bound =
      omega (
        arith,
        c.there.invariant.low,
        c.there.invariant.bound,
        c.remove-taken.ensures.one,
        c.first-at-in-there.ensures.low,
      );
}

pub returns-clause-taken : goal.returns-clause-taken
returns-clause-taken c =
    ap (λ n. c.there.taken + n) (total_same c.there.self c.settle.new.self (λ p. ap is_some (c.settle.ensures p)))
    ∙ c.there.invariant.taken
