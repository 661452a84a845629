use Rattle.std.proofs.Common.{◌*◌, ◌/◌, ◌≤◌, ℕ, List, length, drop, sym, ap, subst, ◌∙◌}
use Rattle.std.specs.List.{position_or_len}
use Rattle.std.proofs.Math.Nat.{div-mul-le_self}
use Rattle.text_ends.specs.inner.Ends.{IsEndFrom}
use Rattle.text_ends.proofs.EndLemmas.{end_from_start, is_zero, kept_end, len_to_end}
use Rattle.text_ends.proofs.texts.Texts.len_at.Goals as goal
use Rattle.text_ends.proofs.texts.Texts.len_at.Goals.{then-place-first, else-place-first}

pub returns : goal.returns
returns c =
    let bytes : List ℕ = c.self.inside.bytes.now in
    let place : ℕ = c.args.place in
    let within : place ≤ length bytes = subst (λ xs. place ≤ length xs) (sym c.self.view_is) c.requires in
    let end : IsEndFrom bytes place c.if-place-first.end =
    elim c.if-place-first.branch [
      | then-place-first w ↦ subst (IsEndFrom bytes place) (sym w.end-is)
          (end_from_start bytes (place / 32 * 32) place c.index.result.now
          (kept_end bytes c.self.inside.ends.items place c.index.result.now c.self.invariant within c.index.ensures)
          (div-mul-le_self place 32) w.if-place-first.true)
      | else-place-first w ↦ subst (IsEndFrom bytes place) (sym w.end-is) w.end_from-end.ensures
    ] in
    len_to_end bytes place c.if-place-first.end end within
    ∙ ap (λ xs. position_or_len is_zero (drop place xs)) c.self.view_is
