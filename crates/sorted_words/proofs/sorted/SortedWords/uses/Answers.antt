use Rattle.std.proofs.Common.{◌∙◌}
use Rattle.clap.specs.Matches.{found_of}
use Rattle.sorted_words.proofs.RowLemmas.{strs_found}
use Rattle.sorted_words.proofs.sorted.SortedWords.uses.Goals as goal

pub returns : goal.returns
returns c = rw (← c.self.view_is) (c.get_strs.ensures ∙ strs_found (found_of c.self.inside.found) c.args.name.now)
