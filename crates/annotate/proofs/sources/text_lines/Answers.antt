use Rattle.std.proofs.Common.{◌-◌, ℕ, List, Vec, Bor, Option, Bool, slice_get, length, sym, ap, ◌∙◌}
use Rattle.std.specs.Option.{option_copied, option_map}
use Rattle.std.specs.declared.alloc.Global.{Global}
use Rattle.annotate.specs.Sources.{without_last_empty}
use Rattle.annotate.specs.inner.SourceRows.{pieces}
use Rattle.annotate.proofs.TextLemmas.{empty_piece, last_stays, last_piece, last_goes}
use Rattle.annotate.proofs.sources.text_lines.Goals as goal
use Rattle.annotate.proofs.sources.text_lines.Goals.{in-Some+then-is_empty, in-Some+else-is_empty, in_default}

abbrev ends_empty : Option (Bor (Bor (List ℕ))) → Bool
ends_empty r = empty_piece (option_map (λ (l : Bor (List ℕ)). l.now) (option_copied r))

pub returns : goal.returns
returns c =
    let v = c.in_ok-lines.lines in
    let ls = v.items in
    let last = last_piece ls (option_copied c.last.result)
    (c.last.ensures.value ∙ ap (λ xs. slice_get xs (length xs - 1)) c.deref.ensures.value) in
    elim c.match-last.branch [
      | in-Some+then-is_empty w ↦
          ap (λ (u : Vec (Bor (List ℕ)) Global). pieces u.items) w.lines-is
          ∙ last_goes v w.pop.new.self w.pop.result w.pop.ensures.items w.pop.ensures.cases
          (last ∙ ap ends_empty w.in-Some.is ∙ sym w.is_empty.ensures ∙ w.if-is_empty.true)
          ∙ ap without_last_empty c.in_ok-lines.ensures
      | in-Some+else-is_empty w ↦
          ap (λ (u : Vec (Bor (List ℕ)) Global). pieces u.items) w.lines-is
          ∙ last_stays ls (last ∙ ap ends_empty w.in-Some.is ∙ sym w.is_empty.ensures ∙ w.if-is_empty.false)
          ∙ ap without_last_empty c.in_ok-lines.ensures
      | in_default w ↦
          ap (λ (u : Vec (Bor (List ℕ)) Global). pieces u.items) w.lines-is
          ∙ last_stays ls (last ∙ ap ends_empty w.in_default.is)
          ∙ ap without_last_empty c.in_ok-lines.ensures
    ]
