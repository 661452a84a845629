use Rattle.std.proofs.Common.{◌≡◌, ◌<◌, All, length, map, sym, ap, subst, ◌∙◌, arith}
use Rattle.std.specs.List.{filter}
use Rattle.std.proofs.lemmas.List.Elements.{All-map}
use Rattle.cg_read.specs.Profiles.{Contents, IsProfile}
use Rattle.report_rows.specs.Entries.{HaveValues, EntryValue, of_list, entry_values, self_entry}
use Rattle.report_rows.specs.declared.entries.By.TheVariants as by
use Rattle.report_rows.proofs.lists.file_lists.Goals as goal

pub lists_of-requires : goal.lists_of-requires
lists_of-requires c =
    let p = c.args.profile.now in
    let same = c.profile.view_is in
    let profile = subst IsProfile same c.profile.invariant in
    let is = ap entry_values c.deref-2.ensures.value ∙ c.in_ok-entries.ensures
    ∙ ap (map (self_entry by.File)) (c.deref.ensures.value ∙ ap (λ (q : Contents). q.self_rows) same) in
    let P : EntryValue → Type 0 = λ k. k.list < c.len.result in
    let count = ap (λ (q : Contents). length q.files) same in
    subst (All P) (sym is) (All-map P (self_entry by.File) p.self_rows (λ i d lt.
    omega (arith, (profile.self_rows_fit i d lt).file, c.len.ensures, count)))

pub returns : goal.returns
returns c =
    let p = c.args.profile.now in
    let same = c.profile.view_is in
    let lists = c.in_ok-lists.lists.items in
    let is = ap entry_values c.deref-2.ensures.value ∙ c.in_ok-entries.ensures
    ∙ ap (map (self_entry by.File)) (c.deref.ensures.value ∙ ap (λ (q : Contents). q.self_rows) same) in
    let count : c.len.result ≡ length p.files =
    omega (arith, c.len.ensures, ap (λ (q : Contents). length q.files) same) in
    subst (λ n. HaveValues n (λ k. filter (of_list k) (map (self_entry by.File) p.self_rows)) lists) count
    (subst (λ ks. HaveValues c.len.result (λ k. filter (of_list k) ks) lists) is c.in_ok-lists.ensures)
