use Rattle.reads_back.proofs.JoinedLemmas.{own_texts}
use Rattle.reads_back.proofs.parts.functions_and_files_have_their_own_texts.Goals as goal

pub returns : goal.returns
returns c = own_texts
