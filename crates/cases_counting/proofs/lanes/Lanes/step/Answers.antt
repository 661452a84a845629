use Rattle.cases_counting.proofs.LaneLemmas.{first_changed, lanes_grown, second_changed, third_changed}
use Rattle.cases_counting.proofs.lanes.Lanes.step.Goals as goal

pub step-requires : goal.step-requires
step-requires c =
    (lanes_grown c.self.inside.arena.slots c.self.inside.total c.raise-self-inside.result c.self.inside.one.head
    c.self.inside.two.head c.self.inside.three.head c.raise-self-inside.ensures c.self.invariant).first

pub step-requires-in-1 : goal.step-requires-in-1
step-requires-in-1 c =
    (lanes_grown c.self.inside.arena.slots c.self.inside.total c.raise-self-inside.result c.self.inside.one.head
    c.self.inside.two.head c.self.inside.three.head c.raise-self-inside.ensures c.self.invariant).second

pub step-requires-in_default : goal.step-requires-in_default
step-requires-in_default c =
    (lanes_grown c.self.inside.arena.slots c.self.inside.total c.raise-self-inside.result c.self.inside.one.head
    c.self.inside.two.head c.self.inside.three.head c.raise-self-inside.ensures c.self.invariant).third

pub invariant_of-self : goal.invariant_of-self
invariant_of-self c =
    first_changed c.self.inside.arena.slots c.step.new.arena.slots c.raise-self-inside.result c.self.inside.one.head
    c.self.inside.two.head c.self.inside.three.head c.step.new.lane.head
    (lanes_grown c.self.inside.arena.slots c.self.inside.total c.raise-self-inside.result c.self.inside.one.head
    c.self.inside.two.head c.self.inside.three.head c.raise-self-inside.ensures c.self.invariant)
    c.step.ensures.lane c.step.ensures.others

pub invariant_of-self-in-1 : goal.invariant_of-self-in-1
invariant_of-self-in-1 c =
    second_changed c.self.inside.arena.slots c.step-in-1.new.arena.slots c.raise-self-inside.result
    c.self.inside.one.head c.self.inside.two.head c.self.inside.three.head c.step-in-1.new.lane.head
    (lanes_grown c.self.inside.arena.slots c.self.inside.total c.raise-self-inside.result c.self.inside.one.head
    c.self.inside.two.head c.self.inside.three.head c.raise-self-inside.ensures c.self.invariant)
    c.step-in-1.ensures.lane c.step-in-1.ensures.others

pub invariant_of-self-in_default : goal.invariant_of-self-in_default
invariant_of-self-in_default c =
    third_changed c.self.inside.arena.slots c.step-in_default.new.arena.slots c.raise-self-inside.result
    c.self.inside.one.head c.self.inside.two.head c.self.inside.three.head c.step-in_default.new.lane.head
    (lanes_grown c.self.inside.arena.slots c.self.inside.total c.raise-self-inside.result c.self.inside.one.head
    c.self.inside.two.head c.self.inside.three.head c.raise-self-inside.ensures c.self.invariant)
    c.step-in_default.ensures.lane c.step-in_default.ensures.others
