use Rattle.reads_back.proofs.ExistsLemmas.{there_is}
use Rattle.reads_back.proofs.PartLemmas.{alike, only_part, reads_part, sound_part}
use Rattle.reads_back.proofs.parts.parts_read_as_their_rows.Goals as goal

pub returns-clause-sound : goal.returns-clause-sound
returns-clause-sound c = sound_part

pub returns-clause-reads : goal.returns-clause-reads
returns-clause-reads c = λ head rows m p sound fits. reads_part head rows m sound fits p

pub returns-clause-only : goal.returns-clause-only
returns-clause-only c = λ head rows m p sound fits. only_part head rows m sound fits p

pub returns-clause-alike : goal.returns-clause-alike
returns-clause-alike c = alike

pub returns-clause-exists : goal.returns-clause-exists
returns-clause-exists c = there_is
