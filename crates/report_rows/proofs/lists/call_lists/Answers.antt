use Rattle.std.proofs.Common.{◌≡◌, ◌<◌, ℕ, All, length, map, get_or, sym, ap, subst, ◌∙◌, arith}
use Rattle.std.specs.List.{filter}
use Rattle.std.proofs.lemmas.List.Elements.{All-map}
use Rattle.cg_read.specs.Profiles.{Contents, IsProfile}
use Rattle.cg_read.specs.declared.rows.CallRow.{CallRow}
use Rattle.report_rows.specs.Entries.{HaveValues, EntryValue, call_entry, far_end, near_end, of_list, entry_values}
use Rattle.report_rows.specs.declared.entries.End.{End}
use Rattle.report_rows.specs.declared.entries.End.TheVariants.{Caller, Callee}
use Rattle.report_rows.proofs.lists.call_lists.Goals as goal

far_low : (n : ℕ) (e : End) (row : CallRow) → row.caller < n → row.callee < n → far_end e row < n
far_low n Caller row a b = b
far_low n Callee row a b = a

near_low : (n : ℕ) (e : End) (row : CallRow) → row.caller < n → row.callee < n → near_end e row < n
near_low n Caller row a b = a
near_low n Callee row a b = b

pub call_entries-requires : goal.call_entries-requires
call_entries-requires c =
    let p = c.args.profile.now in
    let same = c.profile.view_is in
    let profile = subst IsProfile same c.profile.invariant in
    let is = c.deref.ensures.value ∙ ap (λ (q : Contents). q.call_rows) same in
    let P : CallRow → Type 0 = λ row. far_end c.args.end row < length c.args.places.now in
    subst (All P) (sym is) (λ i d lt.
    let fit = profile.call_rows_fit i d lt in
    let low = far_low (length p.functions) c.args.end (get_or p.call_rows i d) fit.caller fit.callee in
    omega (arith, low, c.requires))

pub lists_of-requires : goal.lists_of-requires
lists_of-requires c =
    let p = c.args.profile.now in
    let same = c.profile.view_is in
    let profile = subst IsProfile same c.profile.invariant in
    let is = ap entry_values c.deref-2.ensures.value ∙ c.in_ok-entries.ensures
    ∙ ap (map (call_entry c.args.places.now c.args.end))
    (c.deref.ensures.value ∙ ap (λ (q : Contents). q.call_rows) same) in
    let P : EntryValue → Type 0 = λ k. k.list < c.len.result in
    let count = ap (λ (q : Contents). length q.functions) same in
    subst (All P) (sym is) (All-map P (call_entry c.args.places.now c.args.end) p.call_rows (λ i d lt.
    let fit = profile.call_rows_fit i d lt in
    let low = near_low (length p.functions) c.args.end (get_or p.call_rows i d) fit.caller fit.callee in
    omega (arith, low, c.len.ensures, count)))

pub returns : goal.returns
returns c =
    let p = c.args.profile.now in
    let same = c.profile.view_is in
    let is = ap entry_values c.deref-2.ensures.value ∙ c.in_ok-entries.ensures
    ∙ ap (map (call_entry c.args.places.now c.args.end))
    (c.deref.ensures.value ∙ ap (λ (q : Contents). q.call_rows) same) in
    let count : c.len.result ≡ length p.functions =
    omega (arith, c.len.ensures, ap (λ (q : Contents). length q.functions) same) in
    subst (λ n. HaveValues n (λ k. filter (of_list k)
    (map (call_entry c.args.places.now c.args.end) p.call_rows)) c.in_ok-lists.lists.items) count
    (subst (λ ks. HaveValues c.len.result (λ k. filter (of_list k) ks) c.in_ok-lists.lists.items) is c.in_ok-lists.ensures)
