use Rattle.std.proofs.Common.{arith}
use Rattle.part_dump.proofs.NameLemmas.{names_apart}
use Rattle.part_dump.proofs.name.part_name.Goals as goal

pub returns-clause-apart : goal.returns-clause-apart
returns-clause-apart c part thread part-fits thread-fits same =
    names_apart c.args.base.now part thread c.args.part c.args.thread.0 part-fits thread-fits (omega arith)
    (omega arith) same
