use Rattle.profile_run.proofs.running.step_halted.Given as goal

abbrev pub ghost-step_halted_cold : goal.ghost-step_halted_cold
ghost-step_halted_cold g a = g.job
