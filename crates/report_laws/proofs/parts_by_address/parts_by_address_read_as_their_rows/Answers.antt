use Rattle.report_laws.proofs.AddrPartLemmas.{events_are, is_file, no_bad, only_lines, only_text, reads_text}
use Rattle.report_laws.proofs.parts_by_address.parts_by_address_read_as_their_rows.Goals as goal

pub returns : goal.returns
returns c = record {
  two_parts = λ head rows m sound entries fits. is_file head rows m sound entries fits;
  sound = λ head rows m sound entries fits. no_bad head rows m sound entries fits;
  events = λ head rows m sound entries fits. events_are head rows m sound entries fits;
  reads = λ head rows m p sound entries fits profile of_rows.
      reads_text head rows m sound entries fits p profile of_rows;
  only = λ head rows m p sound entries fits reads. only_text head rows m sound entries fits p reads;
  without = λ head rows m p sound entries fits reads. only_lines head rows m sound entries fits p reads;
}
