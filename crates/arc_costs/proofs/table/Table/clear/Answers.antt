use Rattle.std.proofs.Common.{◌≡◌, Some, is_some, sym, ◌∙◌, ap, subst, if◌then◌else◌}
use Rattle.std.specs.Option.{option_to_list}
use Rattle.arc_costs.specs.inner.Shape.{IsSound, all_rows}
use Rattle.arc_costs.specs.Amounts.{clear_amounts}
use Rattle.arc_costs.proofs.ClearLemmas.{cleared_room, cleared_rows, cleared_slot, sound-cleared}
use Rattle.arc_costs.proofs.SomeLemmas.{whole_front}
use Rattle.arc_costs.proofs.table.Table.clear.Goals as goal
use Rattle.arc_costs.proofs.table.Table.clear.Goals.{Joined-self, in-Some, in_default}

pub clear-requires : goal.clear-requires
clear-requires g c =
    whole_front g.A.Amount.is_whole c.self.inside.known.entries (option_to_list c.self.inside.newest)
    c.self.invariant.whole

parts : (g : _) (c : Joined-self g)
    → (c.match-self.self-inside.known.entries ≡ clear_amounts g.A.Amount.nothing c.self.inside.known.entries)
    × (c.match-self.self-inside.newest ≡ cleared_slot g.A.Amount.nothing c.self.inside.newest)
parts g c =
    elim c.match-self.branch [
      | in-Some w ↦ (
        ap (λ s. s.known.entries) w.self-inside-is ∙ c.clear.ensures.entries,
        ap (λ s. s.newest) w.self-inside-is ∙ ap (λ v. Some (w.in-Some.row.0, v)) w.zero-row.ensures
            ∙ sym (ap (cleared_slot g.A.Amount.nothing) (w.in-Some.is)),
      )
      | in_default w ↦ (
        ap (λ s. s.known.entries) w.self-inside-is ∙ c.clear.ensures.entries,
        ap (λ s. s.newest) w.self-inside-is ∙ w.in_default.is
            ∙ sym (ap (cleared_slot g.A.Amount.nothing) (w.in_default.is)),
      )
    ]

pub invariant_of-self : goal.invariant_of-self
invariant_of-self g c =
    let p = parts g c in
    subst (λ known. IsSound g.K.PartialEq.eq g.A.Amount.is_whole known c.match-self.self-inside.newest) (sym p.0)
    (subst (IsSound g.K.PartialEq.eq g.A.Amount.is_whole (clear_amounts g.A.Amount.nothing c.self.inside.known.entries))
    (sym p.1)
    (sound-cleared g.A.Amount.nothing g.K.PartialEq.eq g.A.Amount.is_whole g.met.A.Amount.nothing_whole
    c.self.inside.known.entries c.self.inside.newest c.self.invariant))

pub returns-clause-rows : goal.returns-clause-rows
returns-clause-rows g c =
    let p = parts g c in
    (λ i. all_rows (p.0 i) (p.1 i)) ∙ cleared_rows g.A.Amount.nothing c.self.inside.known.entries c.self.inside.newest
    ∙ ap (λ v. clear_amounts g.A.Amount.nothing v.rows) c.self.view_is

pub returns-clause-room : goal.returns-clause-room
returns-clause-room g c =
    let p = parts g c in
    ap (λ o. if is_some o then 0 else 1) p.1 ∙ cleared_room g.A.Amount.nothing c.self.inside.newest
    ∙ ap (λ v. v.room) c.self.view_is
