use Rattle.std.proofs.Common.{◌≡◌, ◌++◌, None, sym, ◌∙◌, ap, subst}
use Rattle.std.specs.Option.{option_to_list}
use Rattle.std.specs.Map.{lookup}
use Rattle.std.proofs.lemmas.Option.{MatchOption-at_some}
use Rattle.std.proofs.lemmas.List.{append-nil}
use Rattle.arc_costs.specs.inner.Shape.{all_rows, AllWhole, IsSound}
use Rattle.arc_costs.proofs.table.Table.make_slot.Goals as goal
use Rattle.arc_costs.proofs.table.Table.make_slot.Goals.{In_ok-push}

pub push-requires : goal.push-requires
push-requires g c =
    MatchOption-at_some _ (λ row. lookup (g.K.PartialEq.eq row.0) c.self.inside.known.entries ≡ None) _ c.in-Some.is
    c.self.invariant.apart

pub invariant_of-self : goal.invariant_of-self
invariant_of-self g c =
    subst (λ es. IsSound g.K.PartialEq.eq g.A.Amount.is_whole es c.self.inside.newest) (sym c.in_err-push.ensures.err)
    c.self.invariant

-- the map holds all rows now
moved : (g : _) (c : In_ok-push g)
    → c.push.new.self.entries ≡ all_rows c.self.inside.known.entries c.self.inside.newest
moved g c =
    c.in_ok-push.ensures.entries ∙ ap (λ o. c.self.inside.known.entries ++ option_to_list o) (sym c.in-Some.is)

pub invariant_of-self-2 : goal.invariant_of-self-2
invariant_of-self-2 g c = record {
  apart = tt;
  whole =
      subst (AllWhole g.A.Amount.is_whole)
      (sym (append-nil c.push.new.self.entries ∙ moved g (goal.at.invariant_of-self-2 g c).In_ok-push)) c.self.invariant.whole;
}

pub returns-clause-rows : goal.returns-clause-rows
returns-clause-rows g c =
    append-nil c.push.new.self.entries ∙ moved g (goal.at.returns-clause-rows g c).In_ok-push ∙ ap (λ v. v.rows) c.self.view_is
