use Rattle.std.proofs.Common.{List, ap, subst, sym, ◌∙◌}
use Rattle.shadow_stack.specs.declared.frame.Frame.{Frame}
use Rattle.ctx_costs.specs.inner.Frames.{AreOpen, numbered_frames}
use Rattle.ctx_costs.specs.inner.Tracks.{numbers_of}
use Rattle.ctx_costs.proofs.NumberedLemmas.{open_restarted, restarted_numbered}
use Rattle.ctx_costs.proofs.track.Track.cut.Goals as goal

pub returns-clause-frames : goal.returns-clause-frames
returns-clause-frames c =
    let b = c.args.self.now in
    ap (λ (fs : List Frame). numbered_frames fs (numbers_of b)) c.restart.ensures.frames
    ∙ restarted_numbered b.total b.stack.frames (numbers_of b)

pub returns-clause-framed : goal.returns-clause-framed
returns-clause-framed c =
    let b = c.args.self.now in
    record {
      starts = c.restart.ensures.starts;
      entered =
          subst (λ (fs : List Frame). AreOpen fs (numbers_of b)) (sym c.restart.ensures.frames)
          (open_restarted b.total b.stack.frames (numbers_of b) c.requires.framed.entered);
    }
