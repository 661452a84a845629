use Rattle.std.proofs.Common.{◌≡◌, ◌++◌, ◌+◌, ℕ, List, [], All, Vec, Bor, length, get_or, map, filter, flat_map, codes}
use Rattle.std.proofs.Common.{sym, ap, subst, ◌∙◌, arith}
use Rattle.std.specs.Prelude.{IfSome, OnOk}
use Rattle.std.specs.declared.alloc.Global.{Global}
use Rattle.std.proofs.lemmas.List.{length-map}
use Rattle.cg_read.specs.Profiles.{Contents, IsProfile}
use Rattle.annotate.specs.Files.{is_in_file}
use Rattle.report_rows.specs.Orders.{numbers}
use Rattle.annotate.specs.Sources.{lines_text, others_text, shown_byte, text_lines}
use Rattle.report_rows.specs.Entries.{AreAtPlaces, AreWithin, is_at, entry_values, values_at, self_entry}
use Rattle.annotate.specs.inner.SourceRows.{costs_or_dot, is_outside, other_with, pieces}
use Rattle.report_rows.specs.declared.entries.By.TheVariants as by
use Rattle.report_rows.specs.declared.entries.Entry.{Entry}
use Rattle.report_rows.proofs.ListLemmas.{two_pieces}
use Rattle.annotate.proofs.SourceLemmas.{entries_within, if_any_all, line_within, lines_there, others_there}
use Rattle.annotate.proofs.sources.put_found.Goals as goal

pub put_lines-requires : goal.put_lines-requires
put_lines-requires c n =
    let p = c.args.profile.now in
    let name = c.args._name.now in
    let same = c.profile.view_is in
    let profile = subst IsProfile same c.profile.invariant in
    let places = c.in_ok-rows.rows in
    let ks = map (self_entry by.File) (filter (is_in_file p name) p.self_rows) in
    let stands = subst (λ xs. AreAtPlaces xs places) c.requires.rows c.in_ok-rows.ensures in
    let events : c.len-events.result ≡ length p.events =
    omega (arith, c.len-events.ensures, ap (λ (q : Contents). length q.events) same) in
    subst (λ e. IfSome (values_at places n) (AreWithin e)) (sym events)
    (subst (λ o. IfSome o (AreWithin (length p.events))) (sym (stands.exact n))
    (if_any_all (AreWithin (length p.events)) (filter (is_at n) ks) (line_within p profile name c.requires.within n)))

pub put_others-requires : goal.put_others-requires
put_others-requires c =
    let p = c.args.profile.now in
    let name = c.args._name.now in
    let same = c.profile.view_is in
    let profile = subst IsProfile same c.profile.invariant in
    let places = c.in_ok-rows.rows in
    let stands = subst (λ xs. AreAtPlaces xs places) c.requires.rows c.in_ok-rows.ensures in
    let events : c.len-events.result ≡ length p.events =
    omega (arith, c.len-events.ensures, ap (λ (q : Contents). length q.events) same) in
    let entries = c.deref-2.ensures.value ∙ c.in_ok-into_list.ensures in
    subst (λ n. All (λ (e : ℕ × Vec Entry Global). AreWithin n (entry_values e.1.items)) c.deref-2.result.now) (sym events)
    (subst (All (λ (e : ℕ × Vec Entry Global). AreWithin (length p.events) (entry_values e.1.items))) (sym entries)
    (entries_within p profile name places stands c.requires.within))

pub returns : goal.returns
returns c =
    let p = c.args.profile.now in
    let name = c.args._name.now in
    let same = c.profile.view_is in
    let profile = subst IsProfile same c.profile.invariant in
    let places = c.in_ok-rows.rows in
    let stands = subst (λ xs. AreAtPlaces xs places) c.requires.rows c.in_ok-rows.ensures in
    let events : c.len-events.result ≡ length p.events =
    omega (arith, c.len-events.ensures, ap (λ (q : Contents). length q.events) same) in
    let entries = c.deref-2.ensures.value ∙ c.in_ok-into_list.ensures in
    let lines = text_lines c.args.source.now in
    let size : length c.in_ok-lines.lines.items ≡ length lines =
    sym (length-map c.in_ok-lines.lines.items (λ (l : Bor (List ℕ)). l.now)) ∙ ap length c.in_ok-lines.ensures in
    let count : c.len.result ≡ length lines = omega (arith, c.len.ensures, size) in
    let text = λ (e : ℕ) (ls : List (List ℕ)) (n : ℕ). flat_map
    (λ i. costs_or_dot e (values_at places (i + 1)) ++ codes " | "
    ++ map shown_byte (get_or ls i []) ++ codes "\n") (numbers n) in
    let first =
    ap (λ e. text e (pieces c.deref.result.now) (length c.deref.result.now)) events
    ∙ ap (λ ls. text (length p.events) ls (length c.deref.result.now))
    (ap pieces c.deref.ensures.value ∙ c.in_ok-lines.ensures)
    ∙ ap (text (length p.events) lines) (ap length c.deref.ensures.value ∙ size)
    ∙ lines_there p profile name places stands lines in
    let other = λ (e n : ℕ) (es : List (ℕ × Vec Entry Global)). flat_map
    (λ (x : ℕ × Vec Entry Global). other_with e x.0 (entry_values x.1.items))
    (filter (λ (x : ℕ × Vec Entry Global). is_outside n x.0) es) in
    let second =
    ap (λ e. other e c.len.result c.deref-2.result.now) events
    ∙ ap (λ n. other (length p.events) n c.deref-2.result.now) count
    ∙ ap (other (length p.events) (length lines)) entries
    ∙ others_there p profile name places stands (length lines) in
    let t1 = c.put_lines.new.text in
    subst (λ t. OnOk c.put_others.result (c.put_others.new.text ≡ t))
    (two_pieces c.args.text.now t1 (t1 ++ other c.len-events.result c.len.result c.deref-2.result.now)
    (lines_text p name lines)
    (others_text p name (length lines)) (c.in_ok-put_lines.ensures ∙ ap (λ t. c.args.text.now ++ t) first)
    (ap (λ t. t1 ++ t) second))
    c.put_others.ensures
