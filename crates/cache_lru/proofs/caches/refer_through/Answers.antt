use Rattle.std.proofs.Common.{◌≡◌, true, sym, ◌∙◌}
use Rattle.cache_lru.specs.History.{Access, history_of, access_misses}
use Rattle.cache_lru.proofs.HistoryLemmas.{StandsFor-access}
use Rattle.cache_lru.proofs.caches.refer_through.Goals as goal

pub returns-then-not-refer-clause-first_stands : goal.returns-then-not-refer-clause-first_stands
returns-then-not-refer-clause-first_stands c =
    λ shape earlier stands. StandsFor-access shape _ earlier (record { addr = c.args.addr; len = c.args.len })
    (c.refer.ensures.stands shape (history_of shape earlier) stands)

pub returns-then-refer-clause-first_stands : goal.returns-then-refer-clause-first_stands
returns-then-refer-clause-first_stands c =
    λ shape earlier stands. StandsFor-access shape _ earlier (record { addr = c.args.addr; len = c.args.len })
    (c.refer.ensures.stands shape (history_of shape earlier) stands)

pub returns-then-refer-clause-last_stands : goal.returns-then-refer-clause-last_stands
returns-then-refer-clause-last_stands c =
    λ shape last_shape earlier last_earlier stands last_stands. let access : Access
    = record { addr = c.args.addr; len = c.args.len } in
    let missed : access_misses shape earlier access ≡ true =
    sym (c.refer.ensures.miss shape (history_of shape earlier) stands) ∙ c.if-not-refer.false in
    rw missed (StandsFor-access last_shape _ last_earlier access
    (c.refer-2.ensures.stands last_shape (history_of last_shape last_earlier) last_stands))

pub returns-else-refer-clause-first_stands : goal.returns-else-refer-clause-first_stands
returns-else-refer-clause-first_stands c =
    λ shape earlier stands. StandsFor-access shape _ earlier (record { addr = c.args.addr; len = c.args.len })
    (c.refer.ensures.stands shape (history_of shape earlier) stands)

pub returns-else-refer-clause-last_stands : goal.returns-else-refer-clause-last_stands
returns-else-refer-clause-last_stands c =
    λ shape last_shape earlier last_earlier stands last_stands. let access : Access
    = record { addr = c.args.addr; len = c.args.len } in
    let missed : access_misses shape earlier access ≡ true =
    sym (c.refer.ensures.miss shape (history_of shape earlier) stands) ∙ c.if-not-refer.false in
    rw missed (StandsFor-access last_shape _ last_earlier access
    (c.refer-2.ensures.stands last_shape (history_of last_shape last_earlier) last_stands))
