use Rattle.std.proofs.Common.{◌<◌, sym, ap, ◌∙◌, arith}
use Rattle.std.proofs.lemmas.List.{length-map, get_or-map}
use Rattle.report_rows.specs.Entries.{EntryValue, entry_value}
use Rattle.report_rows.proofs.EntryLemmas.{said_lists_more}
use Rattle.report_rows.proofs.entries.lists_of.Goals as goal

pub index_mut-requires : goal.index_mut-requires
index_mut-requires c =
    let e = c.entry-item.result in
    let i = c.entries.entry-index in
    let es = c.args.entries.now in
    let at = get_or-map entry_value es i e (entry_value e) c.entries-test.true ∙ ap entry_value (sym c.entry-item.is) in
    let low = c.requires i (entry_value e) (omega (arith, c.entries-test.true, length-map es entry_value)) in
    omega (arith, low, ap (λ (k : EntryValue). k.list) at, c.entries.invariant.size)

pub entries-preserved : goal.entries-preserved
entries-preserved c =
    let e = c.entry-item.result in
    let i = c.entries.entry-index in
    let es = c.args.entries.now in
    let at = get_or-map entry_value es i e (entry_value e) c.entries-test.true ∙ ap entry_value (sym c.entry-item.is) in
    let low = c.requires i (entry_value e) (omega (arith, c.entries-test.true, length-map es entry_value)) in
    let within : e.list < c.args.count = omega (arith, low, ap (λ (k : EntryValue). k.list) at) in
    said_lists_more c.args.count es i e c.entries.lists.items c.index_mut.result.now
    c.push.new.self c.entries-test.true c.entry-item.is within c.entries.invariant
    c.index_mut.ensures.value c.in_ok-push.ensures.items
