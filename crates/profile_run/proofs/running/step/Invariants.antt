use Rattle.profile_run.proofs.running.step.Given as goal

abbrev pub ghost-finish_step : goal.ghost-finish_step
ghost-finish_step g a = g.job

abbrev pub ghost-step_halted : goal.ghost-step_halted
ghost-step_halted g a = g.job
