use Rattle.std.proofs.Common.{◌<◌, ◌∙◌, ap, sym, arith, length}
use Rattle.report_rows.specs.Entries.{entry_values}
use Rattle.report_rows.proofs.EntryLemmas.{list_at_read}
use Rattle.annotate.proofs.FileLemmas.{no_rows, rows_there}
use Rattle.annotate.proofs.sources.rows_of.Goals as goal

pub offset_bounds-rows-number : goal.offset_bounds-rows-number
offset_bounds-rows-number c =
    let here = c.requires.files.there c.in-Some.number.now c.args.name.now
    (sym (rw c.as_ref.ensures at c.in-Some.ensures.value)) in
    let inside : c.in-Some.number.now < length c.args.rows.now = omega (arith, here.0, c.requires.rows.size) in
    omega arith

pub bounds-rows-number : goal.bounds-rows-number
bounds-rows-number c =
    let here = c.requires.files.there c.in-Some.number.now c.args.name.now
    (sym (rw c.as_ref.ensures at c.in-Some.ensures.value)) in
    omega (arith, here.0, c.requires.rows.size)

pub returns-in-Some : goal.returns-in-Some
returns-in-Some c =
    let p = c.args.profile.now in
    let name = c.args.name.now in
    let n = c.in-Some.number.now in
    let here = c.requires.files.there n name (sym (rw c.as_ref.ensures at c.in-Some.ensures.value)) in
    let inside : n < length c.args.rows.now = omega (arith, here.0, c.requires.rows.size) in
    ap entry_values (c.as_slice.ensures.value ∙ list_at_read c.args.rows.now n c.index-rows-number.result inside
    c.index-rows-number.is)
    ∙ rows_there p c.requires.profile name c.args.rows.now n c.requires.rows here

pub returns-in-None : goal.returns-in-None
returns-in-None c =
    let name = c.args.name.now in
    no_rows c.args.profile.now c.requires.profile name (c.requires.files.absent name (sym (rw c.as_ref.ensures at c.in-None.ensures.value)))
