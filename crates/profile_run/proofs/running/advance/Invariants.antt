use Rattle.profile_run.proofs.running.advance.Given as goal

abbrev pub ghost-run_stretch : goal.ghost-run_stretch
ghost-run_stretch g a = g.job
