use Rattle.std.proofs.Common.{◌≡◌, ◌<◌, ◌++◌, ℕ, Bool, List, [], Vec, All, length, sym, ap, subst, ◌∙◌, arith}
use Rattle.std.specs.Prelude.{flat_map, if◌then◌else◌}
use Rattle.std.specs.List.{filter}
use Rattle.std.specs.declared.alloc.Global.{Global}
use Rattle.std.proofs.lemmas.List.FromFn.{length-map-range_with_len}
use Rattle.std.proofs.lemmas.List.{append-nil}
use Rattle.cg_read.specs.Totals.{total}
use Rattle.annotate.specs.Calls.{calls_text}
use Rattle.annotate.specs.Functions.{functions_text, heading}
use Rattle.report_rows.specs.Orders.{is_shown}
use Rattle.annotate.specs.Sources.{source_text}
use Rattle.report_rows.specs.Ranks.{AreShown}
use Rattle.report_rows.specs.Tables.{lists}
use Rattle.report_rows.proofs.OrderLemmas.{count_of}
use Rattle.annotate.proofs.WholeLemmas.{falling_there, four_parts, members_below, shown_below, shown_there}
use Rattle.annotate.proofs.WholeLemmas.{total_read}
use Rattle.annotate.proofs.reporting.write_report.Goals as goal
use Rattle.annotate.proofs.reporting.write_report.Goals.{then-options+in_ok-put_sources, else-options}

pub index-requires : goal.index-requires
index-requires c =
    let p = c.args.profile.now in
    omega (
      arith,
      c.requires.sort,
      ap length c.in_ok-totals.ensures,
      length-map-range_with_len (total p) 0 (length p.events),
    )

pub groups_shown-requires-clause-places : goal.groups_shown-requires-clause-places
groups_shown-requires-clause-places c =
    let order = c.in_ok-order.order.functions.items in
    let n = length c.args.profile.now.functions in
    let same = c.in_ok-order.ensures.functions.same in
    let size : n ≡ length c.deref-2.result.now =
    sym (ap length c.deref-2.ensures.value ∙ c.in_ok-order.ensures.places.size ∙ count_of n order same) in
    subst (λ m. All (λ fs. All (λ f. f < m) fs) (lists c.deref.result.now)) size
    (subst (λ (rows : List (Vec ℕ Global)). All (λ fs. All (λ f. f < n) fs) (lists rows)) (sym c.deref.ensures.value)
    (members_below n (length c.args.groups.now.cyclic) c.args.groups.now order c.in_ok-order.order.members.items same
    c.in_ok-order.ensures.members))

pub put_groups-requires-clause-groups : goal.put_groups-requires-clause-groups
put_groups-requires-clause-groups c =
    subst (All (λ g. g < length c.args.groups.now.cyclic)) (sym c.deref-6.ensures.value)
    (subst (λ n. All (λ g. g < n) c.in_ok-shown.shown.items) c.requires.costs.count
    (shown_below _ _ _ _ _ _ c.in_ok-shown.ensures))

pub put_calls-requires-clause-each : goal.put_calls-requires-clause-each
put_calls-requires-clause-each c =
    ap length c.deref-7.ensures.value ∙ c.in_ok-order.ensures.places.size
    ∙ count_of (length c.args.profile.now.functions) c.in_ok-order.order.functions.items
    c.in_ok-order.ensures.functions.same

pub put_calls-requires-clause-shown : goal.put_calls-requires-clause-shown
put_calls-requires-clause-shown c =
    subst (All (λ g. g < length c.args.groups.now.cyclic)) (sym c.deref-8.ensures.value)
    (subst (λ n. All (λ g. g < n) c.in_ok-shown.shown.items) c.requires.costs.count
    (shown_below _ _ _ _ _ _ c.in_ok-shown.ensures))

pub returns : goal.returns
returns c =
    let p = c.args.profile.now in
    let groups = c.args.groups.now in
    let costs = c.args.costs.now in
    let options = c.args.options.now in
    let texts = c.args.texts.now in
    let stands = c.in_ok-order.ensures in
    let order = c.in_ok-order.order.functions.items in
    let places = c.in_ok-order.order.places.items in
    let rows = c.in_ok-order.order.members.items in
    let shown = c.in_ok-shown.shown.items in
    let t = c.index.result.now in
    let count = length groups.cyclic in
    let chosen = subst (λ ps. AreShown costs options t (lists rows) ps shown) c.deref-2.ensures.value
    (subst (λ (rs : List (Vec ℕ Global)). AreShown costs options t (lists rs) c.deref-2.result.now shown)
    c.deref.ensures.value c.in_ok-shown.ensures) in
    let sum : t ≡ total p options.sort =
    total_read p c.in_ok-totals.totals.items options.sort t c.requires.sort c.in_ok-totals.ensures c.index.ensures in
    let these = shown_there p costs options t (lists rows) places shown sum chosen in
    let functions = ap (λ o. functions_text p groups costs o c.deref-6.result.now) c.deref-3.ensures.value
    ∙ ap (functions_text p groups costs order) (c.deref-6.ensures.value ∙ these) in
    let calls = ap (λ o. calls_text p groups o c.deref-8.result.now options.tree) c.deref-3.ensures.value
    ∙ ap (λ s. calls_text p groups order s options.tree) (c.deref-8.ensures.value ∙ these) in
    let t1 = c.put_heading.new.text in
    let t2 = c.put_groups.new.text in
    let t3 = c.put_calls.new.text in
    let source_texts : Bool → List ℕ = λ b. if b then flat_map (λ t. source_text p t.0 t.1) texts else [] in
    let sources : c.if-options.text ≡ t3 ++ source_texts options.auto =
    elim c.if-options.branch [
      | then-options+in_ok-put_sources w ↦
          w.text-is ∙ w.in_ok-put_sources.ensures ∙ ap (λ b. t3 ++ source_texts b) (sym w.if-options.true)
      | else-options w ↦
          w.text-is ∙ sym (append-nil t3) ∙ ap (λ b. t3 ++ source_texts b) (sym w.if-options.false)
    ] in
    let final = filter (is_shown p costs options) chosen.ranked in
    record {
      functions = order;
      in_order = stands.functions;
      ranked = chosen.ranked;
      falling = falling_there groups costs order places rows count stands.places stands.members options t shown
          c.requires.costs.count chosen;
      files = c.requires.files;
      is = four_parts c.new-text.result t1 t2 t3 c.if-options.text (heading p options)
          (functions_text p groups costs order final) (calls_text p groups order final options.tree)
          (source_texts options.auto) c.new-text.ensures c.in_ok-put_heading.ensures
          (c.in_ok-put_groups.ensures ∙ ap (λ x. t1 ++ x) functions)
          (c.in_ok-put_calls.ensures ∙ ap (λ x. t2 ++ x) calls) sources;
    }
