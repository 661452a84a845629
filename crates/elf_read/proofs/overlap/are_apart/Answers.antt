use Rattle.std.proofs.Common.{◌<◌, List, sym, subst, rules}
use Rattle.std.specs.List.Sorted.{IsNonDecreasingBy}
use Rattle.std.proofs.lemmas.List.Sorted.{All-permutation, IsNonDecreasingBy-from_sort_by_key, IsPermutation-sym}
use Rattle.elf_read.specs.declared.program.Segment.{Segment}
use Rattle.elf_read.proofs.OverlapLemmas.{IsApart-permutation, moved_between}
use Rattle.elf_read.proofs.overlap.are_apart.Goals as goal

pub is_spread-requires-clause-sorted : goal.is_spread-requires-clause-sorted
is_spread-requires-clause-sorted c =
    let up = IsNonDecreasingBy-from_sort_by_key (λ (s : Segment). s.addr) _ c.sort_unstable_by_key.ensures.sorted
    (λ a r q k. search rules) in
    subst (λ (xs : List Segment). IsNonDecreasingBy (λ (s : Segment). s.addr) xs) (sym c.deref.ensures.value) up

pub is_spread-requires-clause-loaded : goal.is_spread-requires-clause-loaded
is_spread-requires-clause-loaded c =
    let moved =
    moved_between _ _ _ _ c.in_ok-sorted.ensures.items c.deref.ensures.value
    c.sort_unstable_by_key.ensures.permutation in
    All-permutation (λ (s : Segment). 0 < s.mem_len) _ _ moved c.requires

pub returns-clause-apart : goal.returns-clause-apart
returns-clause-apart c are =
    let moved =
    moved_between _ _ _ _ c.in_ok-sorted.ensures.items c.deref.ensures.value
    c.sort_unstable_by_key.ensures.permutation in
    IsApart-permutation _ _ (IsPermutation-sym _ _ moved) (c.is_spread.ensures.apart are)

pub returns-clause-shared : goal.returns-clause-shared
returns-clause-shared c apart =
    let moved =
    moved_between _ _ _ _ c.in_ok-sorted.ensures.items c.deref.ensures.value
    c.sort_unstable_by_key.ensures.permutation in
    c.is_spread.ensures.shared (IsApart-permutation _ _ moved apart)
