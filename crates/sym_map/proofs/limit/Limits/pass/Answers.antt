use Rattle.sym_map.specs.inner.Limits.{limit_of}
use Rattle.sym_map.proofs.Limits.{lowest_at, lowest_more}
use Rattle.sym_map.proofs.limit.Limits.pass.Goals as goal

pub returns-clause-next : goal.returns-clause-next
returns-clause-next c = λ limits are below.
    c.next_value-next.ensures limits c.args.symbol.now.section
    (lowest_at limits c.args.self.now.sections.items c.args.symbol.now.section c.from-section.result c.index.result.now
    c.from-section.ensures c.requires are c.index.ensures) below

pub returns-clause-passed : goal.returns-clause-passed
returns-clause-passed c = λ limits are below.
    rw c.from-section.ensures
    (lowest_more limits (limit_of c.args.symbol.now) c.args.self.now.sections.items c.next_value-next.result c.requires
    are below
    (c.next_value-next.ensures limits c.args.symbol.now.section
    (lowest_at limits c.args.self.now.sections.items c.args.symbol.now.section c.from-section.result c.index.result.now
    c.from-section.ensures c.requires are c.index.ensures) below))
