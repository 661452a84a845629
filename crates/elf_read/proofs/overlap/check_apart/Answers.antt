use Rattle.std.proofs.Common.{length, sym, subst, ◌∙◌, arith}
use Rattle.elf_read.specs.Overlaps.{IsApart}
use Rattle.std.proofs.lemmas.List.{take_all}
use Rattle.elf_read.proofs.OverlapLemmas.{apart-no_fault, apart-first_fault, apart_goes_on, no_segment}
use Rattle.elf_read.proofs.overlap.check_apart.Goals as goal

pub returns-then-branch-clause-fault : goal.returns-then-branch-clause-fault
returns-then-branch-clause-fault c =
    let xs = c.args.segments.now in
    let all = sym (take_all (length xs) xs (omega arith)) in
    apart-no_fault xs (length xs) (omega arith) (subst IsApart all (c.in_ok-are_apart.ensures.apart c.if-branch.true))

pub unreachable-requires : goal.unreachable-requires
unreachable-requires c =
    let xs = c.args.segments.now in
    let j = c.in_ok-j.j in
    let none = sym c.first_shared.ensures ∙ c.in-None.is in
    c.in_ok-j.ensures.shared (apart_goes_on xs j no_segment c.in_ok-j.ensures.below c.in_ok-j.ensures.apart none)

pub returns-clause-fault : goal.returns-clause-fault
returns-clause-fault c =
    let xs = c.args.segments.now in
    let j = c.in_ok-j.j in
    let first = sym c.first_shared.ensures ∙ c.in-Some.is in
    apart-first_fault xs c.in-Some.i j no_segment c.in_ok-j.ensures.below c.in_ok-j.ensures.apart first

pub returns-then-branch-clause-apart : goal.returns-then-branch-clause-apart
returns-then-branch-clause-apart c = c.in_ok-are_apart.ensures.apart c.if-branch.true
