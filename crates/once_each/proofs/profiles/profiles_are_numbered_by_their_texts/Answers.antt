use Rattle.once_each.proofs.TextLemmas.{numbered_apart, numbered_own, numbered_parts, read_is}
use Rattle.once_each.proofs.profiles.profiles_are_numbered_by_their_texts.Goals as goal

pub returns-clause-rows : goal.returns-clause-rows
returns-clause-rows c = read_is

pub returns-clause-apart : goal.returns-clause-apart
returns-clause-apart c = numbered_apart

pub returns-clause-own : goal.returns-clause-own
returns-clause-own c = λ syms trace names p f read own known within.
    numbered_own syms trace names p read f own known within

pub returns-clause-parts : goal.returns-clause-parts
returns-clause-parts c = λ syms trace names p read own of_map. numbered_parts syms trace names p read own of_map
