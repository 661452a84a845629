use Rattle.std.proofs.Common.{◌≡◌, ◌<◌, ℕ, Vec, All, length, map, sym, ap, subst, ◌∙◌, arith}
use Rattle.std.specs.List.{filter}
use Rattle.std.specs.declared.alloc.Global.{Global}
use Rattle.std.proofs.lemmas.List.Elements.{All-map}
use Rattle.cg_read.specs.Profiles.{Contents, IsProfile}
use Rattle.annotate.specs.Names.{costs_text}
use Rattle.report_rows.specs.Entries.{HaveValues, AreWithin, EntryValue, costs_of, of_list, entry_values, self_entry}
use Rattle.report_rows.specs.declared.entries.Entry.{Entry}
use Rattle.report_rows.proofs.RowLemmas.{lists_within}
use Rattle.annotate.proofs.SelfLemmas.{texts_there}
use Rattle.annotate.proofs.reporting.list_texts.Goals as goal

pub lists_of-requires : goal.lists_of-requires
lists_of-requires c =
    let p = c.args.profile.now in
    let is = ap entry_values c.deref-2.ensures.value ∙ c.in_ok-entries.ensures
    ∙ ap (map (self_entry c.args.by)) (c.deref.ensures.value ∙ ap (λ (q : Contents). q.self_rows) c.profile.view_is) in
    let P : EntryValue → Type 0 = λ k. k.list < c.args.count in
    subst (All P) (sym is) (All-map P (self_entry c.args.by) p.self_rows c.requires.below)

pub sum_texts-requires : goal.sum_texts-requires
sum_texts-requires c =
    let p = c.args.profile.now in
    let same = c.profile.view_is in
    let is = ap entry_values c.deref-2.ensures.value ∙ c.in_ok-entries.ensures
    ∙ ap (map (self_entry c.args.by)) (c.deref.ensures.value ∙ ap (λ (q : Contents). q.self_rows) same) in
    let events : c.len.result ≡ length p.events =
    omega (arith, c.len.ensures, ap (λ (q : Contents). length q.events) same) in
    let stands = subst (λ ks. HaveValues c.args.count
    (λ n. filter (of_list n) ks) c.in_ok-lists.lists.items) is c.in_ok-lists.ensures in
    subst (λ n. All (λ (entries : Vec Entry Global). AreWithin n (entry_values entries.items)) c.deref-3.result.now)
    (sym events)
    (subst (All (λ (entries : Vec Entry Global). AreWithin (length p.events) (entry_values entries.items)))
    (sym c.deref-3.ensures.value)
    (lists_within p (subst IsProfile same c.profile.invariant) c.requires.within c.args.by c.args.count
    c.in_ok-lists.lists.items stands))

pub returns : goal.returns
returns c test agree =
    let p = c.args.profile.now in
    let same = c.profile.view_is in
    let is = ap entry_values c.deref-2.ensures.value ∙ c.in_ok-entries.ensures
    ∙ ap (map (self_entry c.args.by)) (c.deref.ensures.value ∙ ap (λ (q : Contents). q.self_rows) same) in
    let events : c.len.result ≡ length p.events =
    omega (arith, c.len.ensures, ap (λ (q : Contents). length q.events) same) in
    let stands = subst (λ ks. HaveValues c.args.count
    (λ n. filter (of_list n) ks) c.in_ok-lists.lists.items) is c.in_ok-lists.ensures in
    let text = λ (n : ℕ) (entries : Vec Entry Global). costs_text (costs_of n (entry_values entries.items)) in
    texts_there p (subst IsProfile same c.profile.invariant) c.requires.within c.args.by c.args.count
    c.in_ok-lists.lists.items
    c.in_ok-texts.texts.items test stands
    (c.in_ok-texts.ensures
    ∙ ap (λ n. map (λ (entries : Vec Entry Global). costs_text
    (costs_of n (entry_values entries.items))) c.deref-3.result.now) events
    ∙ ap (map (λ (entries : Vec Entry Global). costs_text
    (costs_of (length p.events) (entry_values entries.items)))) c.deref-3.ensures.value)
    agree
