use Rattle.std.proofs.Common.{ap, ◌∙◌}
use Rattle.std.specs.Option.{option_map}
use Rattle.addr_costs.proofs.ShellLemmas.{on_err}
use Rattle.addr_costs.proofs.watch.AddrCosts.begin.Goals as goal

pub returns-in_err-ready-clause-err : goal.returns-in_err-ready-clause-err
returns-in_err-ready-clause-err c =
    on_err c.from_residual-in_err-ready.result
    (ap (λ costs. record { first_syms = option_map (λ o. o.places) c.self.inside.first_syms; watched = costs })
    c.in_err-ready.ensures.err ∙ c.self.view_is)
