use Rattle.std.proofs.Common.{length, refl}
use Rattle.name_numbers.specs.Texts.{IsInFile}
use Rattle.name_numbers.proofs.Members.{All-alike}
use Rattle.name_numbers.proofs.NameRanks.{all_there}
use Rattle.name_numbers.proofs.names.rank_texts.Goals as goal

pub at-requires : goal.at-requires
at-requires c =
    rw c.deref.ensures.value
    (All-alike (IsInFile c.args.bytes.now) c.args.places.items c.in_ok-apart.apart.keys.items
    c.in_ok-apart.ensures.same c.requires)

pub rank_apart-requires-clause-in_file : goal.rank_apart-requires-clause-in_file
rank_apart-requires-clause-in_file c =
    rw c.in_ok-texts.ensures
    (All-alike (IsInFile c.args.bytes.now) c.args.places.items c.in_ok-apart.apart.keys.items
    c.in_ok-apart.ensures.same c.requires)

pub rank_apart-requires-clause-numbers : goal.rank_apart-requires-clause-numbers
rank_apart-requires-clause-numbers c =
    all_there c.in_ok-apart.apart.keys.items c.in_ok-apart.apart.numbers.items c.args.places.items
    (length c.in_ok-apart.apart.keys.items) c.in_ok-apart.ensures.each refl
