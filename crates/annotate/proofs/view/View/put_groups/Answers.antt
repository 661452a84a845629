use Rattle.std.proofs.Common.{◌≡◌, ◌<◌, ◌≤◌, ◌+◌, ◌++◌, ℕ, nat_lt, true, false, List, length, get_or, take, count_by}
use Rattle.std.proofs.Common.{codes, flat_map, sym, ap, ◌∙◌, arith}
use Rattle.std.proofs.lemmas.Bool.Decides.{nat_tests}
use Rattle.std.proofs.lemmas.List.Sums.{count_by_more_yes, count_by_more_no}
use Rattle.annotate.specs.Functions.{group_text, is_large}
use Rattle.report_rows.specs.Orders.{numbers}
use Rattle.report_rows.proofs.ListLemmas.{numbers_text_more, two_pieces}
use Rattle.annotate.proofs.view.View.put_groups.Goals as goal
use Rattle.annotate.proofs.view.View.put_groups.Goals.{then-members_of-gt1, else-members_of-gt1}

large_yes : (xs : List ℕ) → 1 < length xs → nat_lt 1 (length xs) ≡ true
large_yes xs lt = grind (arith, nat_tests)

large_no : (xs : List ℕ) → length xs ≤ 1 → nat_lt 1 (length xs) ≡ false
large_no xs le = grind (arith, nat_tests)

pub groups-preserved : goal.groups-preserved
groups-preserved c =
    let v = c.args.self.now in
    let p = v.profile.now in
    let groups = v.groups.now in
    let fs = v.functions.now in
    let costs = v.costs.now in
    let shown = c.args.shown.now in
    let i = c.groups.group-index in
    let large = is_large groups fs in
    let f : ℕ → List ℕ = λ k. group_text p groups costs fs (count_by large (take k shown) + 1) (get_or shown k 0) in
    let size = ap length c.members_of.ensures.members in
    record {
      text = numbers_text_more f c.push.new.self c.groups.text c.put_group.new.text i c.groups.invariant.text
          (c.in_ok-put_group.ensures
          ∙ ap (λ n. c.groups.text ++ group_text p groups costs fs (n + 1)
          (get_or shown i 0)) c.groups.invariant.cycles);
      cycles =
          elim c.if-members_of-gt1.branch [
            | then-members_of-gt1 w ↦
                w.cycles-is ∙ ap (λ n. n + 1) c.groups.invariant.cycles
                ∙ sym (count_by_more_yes large shown i 0 c.groups-test.true
                (ap (nat_lt 1) (sym size) ∙ large_yes c.members_of.result.now w.if-members_of-gt1.true))
            | else-members_of-gt1 w ↦
                w.cycles-is ∙ c.groups.invariant.cycles
                ∙ sym (count_by_more_no large shown i 0 c.groups-test.true
                (ap (nat_lt 1) (sym size) ∙ large_no c.members_of.result.now w.if-members_of-gt1.false))
          ];
      small =
          elim c.if-members_of-gt1.branch [
            | then-members_of-gt1 w ↦ omega (arith, w.cycles-is, c.groups.invariant.small)
            | else-members_of-gt1 w ↦ omega (arith, w.cycles-is, c.groups.invariant.small)
          ];
    }

pub returns : goal.returns
returns c =
    let v = c.args.self.now in
    let shown = c.args.shown.now in
    let large = is_large v.groups.now v.functions.now in
    let f : ℕ → List ℕ = λ k. group_text v.profile.now v.groups.now v.costs.now v.functions.now
    (count_by large (take k shown) + 1) (get_or shown k 0) in
    let all : c.groups.group-index ≡ length shown = omega (arith, c.groups-test.false, c.groups.auto.group-index-end) in
    two_pieces c.args.text.now c.push.new.self c.groups.text (codes "\n-- functions\n")
    (flat_map f (numbers (length shown)))
    c.in_ok-push.ensures.ok
    (c.groups.invariant.text ∙ ap (λ n. c.push.new.self ++ flat_map f (numbers n)) all)
