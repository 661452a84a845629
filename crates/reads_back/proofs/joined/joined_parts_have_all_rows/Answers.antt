use Rattle.reads_back.proofs.AllPartsLemmas.{all_alike, all_joined, all_joined_unnamed, joins_exist}
use Rattle.reads_back.proofs.ExistsLemmas.{no_rows_profile}
use Rattle.reads_back.specs.Joined.{no_rows_of}
use Rattle.std.proofs.Common.{refl}
use Rattle.reads_back.proofs.joined.joined_parts_have_all_rows.Goals as goal

pub returns-clause-all : goal.returns-clause-all
returns-clause-all c = λ head m parts p sound. all_joined head m sound parts p

pub returns-clause-unnamed : goal.returns-clause-unnamed
returns-clause-unnamed c = λ head m parts p sound are some. all_joined_unnamed head m sound parts p some are

pub returns-clause-exists : goal.returns-clause-exists
returns-clause-exists c = λ head m parts sound.
    joins_exist head m sound (no_rows_of head) parts (no_rows_profile head) refl

pub returns-clause-alike : goal.returns-clause-alike
returns-clause-alike c = λ head m parts p q sound. all_alike head m sound parts p q
