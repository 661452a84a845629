use Rattle.std.proofs.Common.{◌≡◌, ◌≤◌, ◌^◌, List, sym, subst}
use Rattle.event_costs.specs.declared.event.Event.{Event}
use Rattle.profile_run.specs.Program.{Program}
use Rattle.profile_run.specs.Trace.{RunStep, run_step}
use Rattle.profile_run.specs.inner.Standing.{CanCount, IsCounted, IsMade}
use Rattle.profile_run.proofs.counting.Counting.count_shell.Goals as goal

pub count_cold-noted-requires : goal.count_cold-noted-requires
count_cold-noted-requires g c =
    subst (λ (e : Event). CanCount g.W.Watch.meaning g.W.Watch.fresh c.args.syms.now e c.args.self.now.machine
    c.args.self.now.costs c.args.self.now.recorder c.args.watch.now) (sym c.copied-event.ensures) c.requires

pub returns-clause-counted : goal.returns-clause-counted
returns-clause-counted g c =
    subst (λ (e : Event). (guest : Program) (first : _) (past : List RunStep)
    → (made : IsMade g.W.Watch.meaning guest first past e c.args.self.now.machine c.args.self.now.costs
    c.args.self.now.recorder c.args.watch.now)
    → guest.syms ≡ c.args.syms.now → guest.options.budget ≤ 10 ^ 12
    → IsCounted g.W.Watch.meaning guest first past (run_step guest past made.outcome) c.args.rule.now.after
    c.count_cold-noted.result c.count_cold-noted.new.self.machine c.count_cold-noted.new.self.costs
    c.count_cold-noted.new.self.recorder c.count_cold-noted.new.watch) c.copied-event.ensures
    c.count_cold-noted.ensures.counted
