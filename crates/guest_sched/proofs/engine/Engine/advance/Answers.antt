use Rattle.std.proofs.Common.{[]}
use Rattle.guest_sched.specs.declared.turns.Fate.TheVariants as fate
use Rattle.guest_sched.specs.inner.Sound.{engine_of}
use Rattle.guest_sched.proofs.CodeLemmas.{code-turned}
use Rattle.guest_sched.proofs.EngineLemmas.{advanced_otherwise, advanced_retired, runner_is, sound_executed}
use Rattle.guest_sched.proofs.engine.Engine.advance.Goals as goal

pub pass-requires-clause-sound : goal.pass-requires-clause-sound
pass-requires-clause-sound c =
    let ran = c.execute_in-stepped in
    sound_executed c.args.self.now ran.new.kernel ran.new.held c.requires.sound ran.ensures.numbers ran.ensures.waits

pub returns-in-Retired-clause-code : goal.returns-in-Retired-clause-code
returns-in-Retired-clause-code c =
    let ran = c.execute_in-stepped in
    code-turned ran.new.code fate.Runs [] _ (engine_of c.pass.new.self) c.pass.ensures.turn ran.ensures.code

pub returns-in-Retired-clause-step : goal.returns-in-Retired-clause-step
returns-in-Retired-clause-step c =
    let ran = c.execute_in-stepped in
    λ d is.
    let runs = runner_is c.args.self.now d c.requires.sound ran.ensures.lawful.rising c.requires.runs is in
    advanced_retired c.args.self.now d ran.result c.in-Retired.field-0 ran.new.kernel ran.new.held _ c.in-Retired.is
    (ran.ensures.executed d runs.caller runs.place) ran.ensures.waits c.pass.ensures.turn

pub returns-in_default : goal.returns-in_default
returns-in_default c =
    let ran = c.execute_in-stepped in
    record {
      step = λ d is.
          let runs = runner_is c.args.self.now d c.requires.sound ran.ensures.lawful.rising c.requires.runs is in
          advanced_otherwise c.args.self.now d ran.result ran.new.kernel ran.new.held c.in_default.not-Retired
          (ran.ensures.executed d runs.caller runs.place) ran.ensures.waits;
      sound =
          sound_executed c.args.self.now ran.new.kernel ran.new.held c.requires.sound ran.ensures.numbers
          ran.ensures.waits;
      code = ran.ensures.code;
    }
