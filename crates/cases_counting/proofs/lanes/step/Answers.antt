use Rattle.std.proofs.Common.{[]}
use Rattle.std.specs.Prelude.{None}
use Rattle.shadow_stack.specs.declared.frame.Kind.TheVariants.{Root}
use Rattle.cases_counting.proofs.LaneLemmas.{root_lane}
use Rattle.cases_counting.proofs.lanes.step.Goals as goal

pub returns-then-lane-eq0-clause-lane : goal.returns-then-lane-eq0-clause-lane
returns-then-lane-eq0-clause-lane c =
    root_lane c.root-lane.new.self.slots c.args.total.now c.root-lane.result
    (record { func = c.place-then-lane-eq0.inside.func; from = None; kind = Root; start = [] }) c.root-lane.ensures.lies
    c.root-lane.ensures.frames
