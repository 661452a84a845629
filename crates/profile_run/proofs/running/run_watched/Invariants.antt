use Rattle.std.specs.Prelude.{map, string_bytes}
use Rattle.outside.specs.Outside.{outside_with, stream_of}
use Rattle.profile_run.proofs.running.run_watched.Given as goal

-- what is run, where the outside stands and what the watch is before it
abbrev pub ghost-begin_and_run : goal.ghost-begin_and_run
ghost-begin_and_run g a = record {
  guest = record {
    image = a.program.elf.now;
    syms = a.program.syms.now;
    args = map string_bytes a.program.args.now;
    input = a.program.input.items;
    options = a.program.options.now;
  };
  old =
      outside_with g.F.Folder a.folder.now (stream_of g.O.Sink a.out.now)
      (stream_of g.E.Sink a.err.now);
  first = a.watch.now;
}
