use Rattle.cg_read.proofs.ReadingLemmas.{only_reads}
use Rattle.cg_read.proofs.read.read_file.Goals as goal

pub returns-clause-only : goal.returns-clause-only
returns-clause-only c = only_reads c.read_lines.result c.args.bytes.now c.read_lines.ensures
