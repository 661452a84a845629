use Rattle.profile_run.proofs.running.step_halted_cold.Given as goal

abbrev pub ghost-finish_step : goal.ghost-finish_step
ghost-finish_step g a = g.job
