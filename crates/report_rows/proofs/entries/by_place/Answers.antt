use Rattle.std.proofs.Common.{take, sym, subst}
use Rattle.report_rows.specs.Entries.{AreAtPlaces, entry_values}
use Rattle.report_rows.proofs.EntryLemmas.{said_more}
use Rattle.report_rows.proofs.entries.by_place.Goals as goal

pub entries-preserved : goal.entries-preserved
entries-preserved c =
    let e = c.entry-item.result in
    let i = c.entries.entry-index in
    let es = c.args.entries.now in
    subst (λ ks. AreAtPlaces ks c.put_at.new.places) (sym (said_more es i e c.entries-test.true c.entry-item.is))
    (c.in_ok-put_at.ensures (entry_values (take i es)) c.entries.invariant)
