use Rattle.std.proofs.Common.{◌∙◌, ap}
use Rattle.clap.specs.Matches.{found_of}
use Rattle.sorted_words.specs.SortedWords.{or_none}
use Rattle.sorted_words.specs.inner.Builder.{values_id}
use Rattle.sorted_words.proofs.RowLemmas.{strs_found}
use Rattle.sorted_words.proofs.sorted.SortedWords.values.Goals as goal

pub returns : goal.returns
returns c =
    rw (← c.self.view_is) (ap or_none (c.get_strs.ensures ∙ strs_found (found_of c.self.inside.found) values_id))
