use Rattle.recorder.proofs.ThreadBounds.{begun_within}
use Rattle.unit_notes.proofs.track.Track.start.Goals as goal

pub invariant_of-self : goal.invariant_of-self
invariant_of-self c =
    begun_within c.start.result c.self.inside.steps c.self.inside.recorder c.start.new.self
    (record {
      0 = c.args.thread;
    }) c.self.invariant c.start.ensures.bounds c.start.ensures.others c.start.ensures.err
