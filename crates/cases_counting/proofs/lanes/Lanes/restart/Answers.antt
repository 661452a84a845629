use Rattle.cases_counting.proofs.LaneLemmas.{first_changed, second_changed, third_changed}
use Rattle.cases_counting.proofs.lanes.Lanes.restart.Goals as goal

pub invariant_of-self : goal.invariant_of-self
invariant_of-self c =
    first_changed c.self.inside.arena.slots c.restart.new.arena.slots c.self.inside.total c.self.inside.one.head
    c.self.inside.two.head c.self.inside.three.head c.restart.new.lane.head
    c.self.invariant c.restart.ensures.lane c.restart.ensures.others

pub invariant_of-self-in-1 : goal.invariant_of-self-in-1
invariant_of-self-in-1 c =
    second_changed c.self.inside.arena.slots c.restart-in-1.new.arena.slots c.self.inside.total c.self.inside.one.head
    c.self.inside.two.head c.self.inside.three.head c.restart-in-1.new.lane.head
    c.self.invariant c.restart-in-1.ensures.lane c.restart-in-1.ensures.others

pub invariant_of-self-in_default : goal.invariant_of-self-in_default
invariant_of-self-in_default c =
    third_changed c.self.inside.arena.slots c.restart-in_default.new.arena.slots c.self.inside.total
    c.self.inside.one.head c.self.inside.two.head c.self.inside.three.head c.restart-in_default.new.lane.head
    c.self.invariant c.restart-in_default.ensures.lane c.restart-in_default.ensures.others
