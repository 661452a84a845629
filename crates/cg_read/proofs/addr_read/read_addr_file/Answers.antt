use Rattle.cg_read.proofs.AddressLemmas.{only_reads}
use Rattle.cg_read.proofs.addr_read.read_addr_file.Goals as goal

pub returns-clause-only : goal.returns-clause-only
returns-clause-only c = only_reads c.read_addr_lines.result c.args.bytes.now c.read_addr_lines.ensures
