use Rattle.std.proofs.Common.{map}
use Rattle.std.specs.Prelude.{string_bytes}
use Rattle.profile_run.specs.Program.{Program}
use Rattle.profile_run.proofs.PlainLemmas.{plain_answers}
use Rattle.profile_run.proofs.running.run.Goals as goal

pub returns-clause-answer : goal.returns-clause-answer
returns-clause-answer g c =
    let guest : Program =
    record {
      image = c.args.elf.now;
      syms = c.args.syms.now;
      args = map string_bytes c.args.args.now;
      input = c.args.input.items;
      options = c.args.options.now;
    } in
    plain_answers guest c.new-watch.result _ _ c.run_watched.result c.run_watched.ensures.answer
