use Rattle.std.proofs.Common.{◌≡◌, IfOk, ap, subst, sym, ◌∙◌}
use Rattle.std.specs.Option.{option_map}
use Rattle.arc_costs.specs.Contents.{Listed}
use Rattle.addr_rows.specs.EventRows.{located_rows}
use Rattle.addr_costs.proofs.ShellLemmas.{rows_given}
use Rattle.addr_costs.proofs.watch.AddrCosts.rows.Goals as goal

pub returns : goal.returns
returns c =
    rows_given c.located_rows.result c.args.thread c.in-Some.maps.places c.self.inside.costs c.args.self.now
    c.in_ok-rows.rows.rows
    (sym c.self.view_is
    ∙ ap (λ maps. record { first_syms = option_map (λ o. o.places) maps; watched = c.self.inside.costs }) c.in-Some.is)
    c.requires.known (ap (λ r. r.rows) c.in_ok-rows.ensures.rows)
    (subst (λ (rows : Listed). IfOk c.located_rows.result
    (λ r. r ≡ record { thread = c.args.thread; rows = located_rows c.in-Some.maps.places rows })) c.in_ok-rows-2.ensures
    c.located_rows.ensures)
