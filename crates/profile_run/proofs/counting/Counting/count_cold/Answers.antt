use Rattle.profile_run.proofs.CountLemmas as counts
use Rattle.profile_run.proofs.counting.Counting.count_cold.Goals as goal

pub ones-ones-requires-clause-fetch : goal.ones-ones-requires-clause-fetch
ones-ones-requires-clause-fetch g c =
    counts.fetched g.W.Watch.meaning c.requires.guest c.requires.first c.requires.past c.args.event.now
    c.args.self.now.machine c.args.self.now.costs c.args.self.now.recorder c.args.watch.now c.requires.made

pub ones-ones-requires-clause-data : goal.ones-ones-requires-clause-data
ones-ones-requires-clause-data g c =
    counts.referred g.W.Watch.meaning c.requires.guest c.requires.first c.requires.past c.args.event.now
    c.args.self.now.machine c.args.self.now.costs c.args.self.now.recorder c.args.watch.now c.requires.made

pub tell-requires : goal.tell-requires
tell-requires g c = record {
  before = c.args.self.now.costs;
  can = c.requires;
  costed = record { is = c.ones-ones.ensures.cost; stands = c.ones-ones.ensures.stands; ones = c.ones-ones.ensures.ones };
}

pub tell-requires-2 : goal.tell-requires-2
tell-requires-2 g c = record {
  before = c.args.self.now.costs;
  can = c.requires;
  costed = record { is = c.ones-ones.ensures.cost; stands = c.ones-ones.ensures.stands; ones = c.ones-ones.ensures.ones };
}

pub returns-then-is_plain-clause-counted : goal.returns-then-is_plain-clause-counted
returns-then-is_plain-clause-counted g c = λ guest first past made.
    c.tell.ensures.counted c.args.self.now.costs guest first past made
    (record { is = c.ones-ones.ensures.cost; stands = c.ones-ones.ensures.stands; ones = c.ones-ones.ensures.ones })

pub returns-clause-counted : goal.returns-clause-counted
returns-clause-counted g c = λ guest first past made.
    c.tell-2.ensures.counted c.args.self.now.costs guest first past made
    (record { is = c.ones-ones.ensures.cost; stands = c.ones-ones.ensures.stands; ones = c.ones-ones.ensures.ones })
