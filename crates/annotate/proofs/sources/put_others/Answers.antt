use Rattle.std.proofs.Common.{ℕ, Vec, sym, subst}
use Rattle.std.specs.declared.alloc.Global.{Global}
use Rattle.report_rows.specs.Entries.{AreWithin, entry_values}
use Rattle.report_rows.specs.declared.entries.Entry.{Entry}
use Rattle.annotate.proofs.sources.put_others.Goals as goal

pub push_sums-requires : goal.push_sums-requires
push_sums-requires c =
    let e = c.lines-item.result in
    let P : ℕ × Vec Entry Global → Type 0 = λ x. AreWithin c.args.events (entry_values x.1.items) in
    let there = subst P (sym c.lines-item.is) (c.requires c.lines.line-index e c.lines-test.true) in
    subst (λ es. AreWithin c.args.events (entry_values es)) (sym c.deref.ensures.value) there
