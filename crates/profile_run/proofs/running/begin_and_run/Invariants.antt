use Rattle.profile_run.proofs.running.begin_and_run.Given as goal

abbrev pub ghost-run_to_end : goal.ghost-run_to_end
ghost-run_to_end g a = g.job
