use Rattle.std.proofs.Common.{ℕ, ◌<◌, ◌++◌, List, [], length, codes, decimal, ap, ◌∙◌, arith}
use Rattle.std.specs.Prelude.{slice_index_or}
use Rattle.std.specs.List.{join_by}
use Rattle.std.proofs.lemmas.List.{get_or_default}
use Rattle.cg_read.specs.Profiles.{Contents}
use Rattle.cg_read.specs.Totals.{total}
use Rattle.annotate.specs.Functions.{command_line}
use Rattle.annotate.specs.Names.{costs_text}
use Rattle.report_rows.specs.Lists.{each_event}
use Rattle.report_rows.proofs.ListLemmas.{four_pieces}
use Rattle.annotate.proofs.heading.put_heading.Goals as goal

pub returns : goal.returns
returns c =
    let p = c.args.profile.now in
    let o = c.args.options.now in
    let same = c.profile.view_is in
    let events = c.profile.inside.events.items in
    let events_line : Contents → List ℕ
    = λ q. codes "events: " ++ join_by (λ n. n) (codes " ") q.events ++ codes "\n" in
    let totals_line : Contents → List ℕ = λ q. codes "totals: " ++ costs_text (each_event q (total q)) ++ codes "\n" in
    let sort_line : Contents → List ℕ
    = λ q. codes "sort: " ++ slice_index_or q.events o.sort [] ++ codes " threshold: " ++ decimal o.threshold
    ++ codes "\n" in
    let inside : o.sort < length events =
    omega (arith, c.requires.sort, ap (λ (q : Contents). length q.events) same) in
    four_pieces c.args.text.now c.put_command.new.text c.put_events.new.text c.put_totals.new.text c.put_sort.new.text
    (command_line p) (events_line p) (totals_line p) (sort_line p)
    (c.in_ok-put_command.ensures ∙ ap (λ (q : Contents). c.args.text.now ++ command_line q) same)
    (c.in_ok-put_events.ensures
    ∙ ap (λ ns. c.put_command.new.text ++ (codes "events: " ++ join_by (λ n. n) (codes " ") ns ++ codes "\n"))
    c.deref.ensures.value
    ∙ ap (λ (q : Contents). c.put_command.new.text ++ events_line q) same)
    (c.in_ok-put_totals.ensures
    ∙ ap (λ xs. c.put_events.new.text ++ (codes "totals: " ++ costs_text xs ++ codes "\n")) c.requires.totals)
    (c.in_ok-put_sort.ensures
    ∙ ap (λ e. c.put_totals.new.text ++ (codes "sort: " ++ e ++ codes " threshold: " ++ decimal o.threshold
    ++ codes "\n"))
    (c.index.ensures ∙ get_or_default events o.sort c.index.result.now [] inside)
    ∙ ap (λ (q : Contents). c.put_totals.new.text ++ sort_line q) same)
