use Rattle.std.proofs.Common.{map, string_bytes, sym, subst}
use Rattle.profile_run.specs.inner.Begun.{Stops}
use Rattle.profile_run.proofs.JobLemmas as jobs
use Rattle.profile_run.proofs.running.begin_and_run.Goals as goal

pub returns-in_err-begun : goal.returns-in_err-begun
returns-in_err-begun g c =
    let given = c.requires.1.1.1.1 in
    jobs.stops g.W.Watch.meaning g.job _ _ _ _ _ given.1.1.1.1.1.0 c.args.watch.now _ given.1.1.1.1.1.1.1
    c.from_residual-in_err-begun.result c.in_err-begun.field-0.0 c.from_residual-in_err-begun.ensures.1
    c.in_err-begun.ensures.stops

pub returns-in_err-rule_of : goal.returns-in_err-rule_of
returns-in_err-rule_of g c =
    let given = c.requires.1.1.1.1 in
    jobs.stops g.W.Watch.meaning g.job _ _ _ _ _ given.1.1.1.1.1.0 c.args.watch.now _ given.1.1.1.1.1.1.1
    c.from_residual.result c.in_err-rule_of.field-0.0 c.from_residual.ensures.1
    (subst (Stops c.args.program.elf.now (map string_bytes c.args.program.args.now)) (sym c.in_err-rule_of.ensures.stops) tt)

pub run_to_end-end-requires : goal.run_to_end-end-requires
run_to_end-end-requires g c κs within =
    let m = g.W.Watch.meaning in
    let given = c.requires.1.1.1.1 in
    let program = given.1.1.1.1.1.0 in
    let untold = given.1.1.1.1.1.1.0 in
    let before = given.1.1.1.1.1.1.1 in (
      within.0,
      (
        within.1.0,
        (
          within.1.1.0,
          (
            within.1.1.1,
            (
              jobs.is_job g.job _ _ _ _ program g.W.Watch.fresh c.args.watch.now untold given.1.1.1.1.0
                  c.in_ok-begun.ensures.few c.in_ok-begun.ensures.small given.1.0 c.maps_are_sound.ensures
                  c.in_ok-rule_of.ensures.rule,
              jobs.begins m g.job _ _ _ _ _ program c.args.watch.now _ untold before c.in_ok-begun.ensures.lawful
                  c.in_ok-begun.begun.counting c.in_ok-begun.begun.parts c.in_ok-begun.ensures.machine
                  c.in_ok-begun.ensures.costs c.in_ok-begun.ensures.recorder c.in_ok-begun.ensures.head
                  c.in_ok-begun.ensures.put,
            ),
          ),
        ),
      ),
    )

pub returns : goal.returns
returns g c =
    jobs.answered g.W.Watch.meaning g.job c.run_to_end-end.new.begun.counting c.run_to_end-end.new.begun.parts
    c.run_to_end-end.new.watch _
    c.run_to_end-end.result c.answer.result c.run_to_end-end.ensures c.answer.ensures.end c.answer.ensures.fault
