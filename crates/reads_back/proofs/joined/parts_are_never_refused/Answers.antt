use Rattle.reads_back.proofs.AllPartsLemmas.{none_refused, none_refused_unnamed}
use Rattle.reads_back.proofs.joined.parts_are_never_refused.Goals as goal

pub returns-clause-all : goal.returns-clause-all
returns-clause-all c = λ head m parts files sound are long. none_refused head m sound parts files long are

pub returns-clause-unnamed : goal.returns-clause-unnamed
returns-clause-unnamed c = λ head m parts files sound are long. none_refused_unnamed head m sound parts files long are
