use Rattle.std.proofs.Common.{Bor, List, ℕ, Option, option_map, subst, sym}
use Rattle.command_steps.specs.inner.ReportStages.{FindsSort}
use Rattle.command_steps.proofs.LookupLemmas.{FindsSort-index}
use Rattle.command_steps.proofs.reporting.sort_place.Goals as goal

pub returns-in-Some : goal.returns-in-Some
returns-in-Some c =
    subst (λ (e : Option (Bor (List ℕ))). FindsSort (option_map (λ x. x.now) e) c.args.profile.now c.event_index.result)
    (sym c.in-Some.is)
    (FindsSort-index c.in-Some.event.now c.args.profile.now c.event_index.result c.event_index.ensures.found
    c.event_index.ensures.none)
