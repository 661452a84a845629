use Rattle.std.proofs.Common.{arith}
use Rattle.recorder.proofs.ThreadBounds.{all_within}
use Rattle.unit_notes.proofs.track.Track.take_rows.Goals as goal

pub invariant_of-self : goal.invariant_of-self
invariant_of-self c =
    all_within c.self.inside.steps c.self.inside.steps c.self.inside.recorder c.take_rows.new.self
    (record { 0 = c.args.thread }) (omega arith) c.self.invariant
    (c.take_rows.ensures.bounds c.self.inside.steps (c.self.invariant (record { 0 = c.args.thread })))
    c.take_rows.ensures.others

pub invariant_of-self-2 : goal.invariant_of-self-2
invariant_of-self-2 c =
    all_within c.self.inside.steps c.self.inside.steps c.self.inside.recorder c.take_rows.new.self
    (record { 0 = c.args.thread }) (omega arith) c.self.invariant
    (c.take_rows.ensures.bounds c.self.inside.steps (c.self.invariant (record { 0 = c.args.thread })))
    c.take_rows.ensures.others
