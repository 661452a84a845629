use Rattle.std.proofs.Common.{Ok, ◌∙◌}
use Rattle.profile_run.proofs.started_run.StartedRun.answer.Goals as goal

pub returns-clause-end : goal.returns-clause-end
returns-clause-end c =
    λ last is.
    c.answer_of.ensures.end last is
    ∙ (λ i. Ok (record {
      end = last;
      steps = c.steps-steps.ensures i;
      threads = c.threads-threads.ensures i;
      parts = c.args.self.parts.put.items;
    }))
