use Rattle.std.proofs.Common.{◌++◌, List, ap, sym, subst, ◌∙◌}
use Rattle.std.specs.List.{list_any}
use Rattle.cache_lru.specs.Costs.{onward_of}
use Rattle.cache_lru.specs.History.{Access, history_of, access_misses}
use Rattle.cache_lru.specs.Lines.{StandsFor}
use Rattle.cache_lru.proofs.HistoryLemmas.{list_any-if, one_access, onward_of-one}
use Rattle.cache_lru.proofs.caches.refer_data.Goals as goal

pub returns-in-Read-clause-first_stands : goal.returns-in-Read-clause-first_stands
returns-in-Read-clause-first_stands c =
    λ shape earlier stands.
    let one = one_access c.args.touch c.in-Read.addr c.in-Read.len c.from.result c.from.ensures c.in-Read.is in
    subst (λ (accesses : List Access). StandsFor shape c.refer_through.new.first
    (history_of shape (earlier ++ accesses))) (sym one)
    (c.refer_through.ensures.first_stands shape earlier stands)

pub returns-in-Read-clause-last_misses : goal.returns-in-Read-clause-last_misses
returns-in-Read-clause-last_misses c =
    λ shape last_shape earlier last_earlier stands last_stands.
    let one = one_access c.args.touch c.in-Read.addr c.in-Read.len c.from.result c.from.ensures c.in-Read.is in
    let access : Access = record { addr = c.in-Read.addr; len = c.from.result } in
    let last = access_misses last_shape last_earlier in
    c.refer_through.ensures.last_misses shape last_shape earlier last_earlier stands last_stands
    ∙ sym (
    ap (λ (accesses : List Access). list_any last (onward_of shape earlier accesses)) one
    ∙ ap (list_any last) (onward_of-one shape earlier access)
    ∙ list_any-if last (access_misses shape earlier access) access
    )

pub returns-in-Read-clause-last_stands : goal.returns-in-Read-clause-last_stands
returns-in-Read-clause-last_stands c =
    λ shape last_shape earlier last_earlier stands last_stands.
    let one = one_access c.args.touch c.in-Read.addr c.in-Read.len c.from.result c.from.ensures c.in-Read.is in
    let access : Access = record { addr = c.in-Read.addr; len = c.from.result } in
    let same = ap (onward_of shape earlier) one ∙ onward_of-one shape earlier access in
    subst (λ (accesses : List Access). StandsFor last_shape c.refer_through.new.last
    (history_of last_shape (last_earlier ++ accesses))) (sym same)
    (c.refer_through.ensures.last_stands shape last_shape earlier last_earlier stands last_stands)
