-- Of an event that leaves its stack as it is nothing is told to tables, and nothing is noted.
use Rattle.std.proofs.Common.{◌≡◌, ◌<◌, ℕ, zero, suc, Bool, false, ◌||◌, List}
use Rattle.std.proofs.Common.{[], ◌∷◌, length, take, get_or}
use Rattle.std.proofs.Common.{Option, None, Some}
use Rattle.std.proofs.Common.{sym, ap, subst, true, ◌∙◌, arith}
use Rattle.std.specs.List.{list_any}
use Rattle.std.specs.Option.{option_map}
use Rattle.std.proofs.lemmas.Bool.{or_right}
use Rattle.std.proofs.lemmas.List.Quantifiers.{position-Some}
use Rattle.event_costs.specs.Arcs.{Telling}
use Rattle.event_costs.specs.declared.event.Event.{Event}
use Rattle.event_costs.specs.declared.numbers.FuncId.{FuncId}
use Rattle.event_costs.specs.Keys.{Place}
use Rattle.sym_map.specs.SymbolMap.{SymbolMap}
use Rattle.shadow_stack.specs.declared.frame.Frame.{Frame}
use Rattle.shadow_stack.specs.Stacks.{Activation}
use Rattle.shadow_stack.specs.Frames.{dropped_frames, tellings}
use Rattle.recorder.proofs.Others.{Stays, none_gone, none_pushed, nothing_told}
use Rattle.arc_costs.specs.Contents.{Contents}
use Rattle.arc_costs.specs.Lines.{has_line, line, line_index}
use Rattle.event_costs.specs.Order.{same_place}
use Rattle.arc_costs.specs.Rows.{LineRow}
use Rattle.event_costs.specs.FuncSet.{is_among}
use Rattle.recorder.specs.Notes.{noted_answer}
use Rattle.recorder.specs.inner.Tellers.{RowsAfterTellings}
use Rattle.recorder.proofs.TellingLemmas.{none_told}

pub rows_untold : (syms : SymbolMap) (total : List ℕ) (e : Event) (fs : List Frame) (rows : Contents)
    → Stays syms e fs → RowsAfterTellings rows (tellings syms total fs e) rows
rows_untold syms total e fs rows is =
    subst (λ (ts : List Telling). RowsAfterTellings rows ts rows) (sym (nothing_told syms total e fs is)) (none_told rows)

pub nothing_noted : (syms : SymbolMap) (watched : List FuncId) (e : Event) (fs : List Frame) → Stays syms e fs
    → record { pushed = None; left = false } ≡ noted_answer syms watched e fs
nothing_noted syms watched e fs is =
    sym (ap (λ (p : Option Activation). record {
      pushed = option_map (λ (a : Activation). a.func) p;
      left = list_any (λ (f : Frame). is_among watched f.func) (dropped_frames syms e fs);
    }) (none_pushed syms e fs is)
    ∙ ap (λ n. record { pushed = None; left = list_any (λ (f : Frame). is_among watched f.func) (take n fs) })
    (none_gone syms e fs is))

-- ---- a place whose row is found

pub any_there : {X : Type 0} (p : X → Bool) (xs : List X) (i : ℕ) (d : X) → i < length xs → p (get_or xs i d) ≡ true
    → list_any p xs ≡ true
any_there p [] i d less is = absurd (omega (arith, less))
any_there p (x ∷ xs) zero d less is = ap (λ b. b || list_any p xs) is
any_there p (x ∷ xs) (suc i) d less is =
    or_right (p x) (list_any p xs) (any_there p xs i d (omega (arith, less)) is)

pub known_line : (place : Place) (lines : List LineRow) (i : ℕ) → line_index place lines ≡ Some i
    → has_line place lines ≡ true
known_line place lines i at =
    let found = position-Some (λ (row : LineRow). same_place place row.place) lines i (line place []) at in
    any_there (λ (row : LineRow). same_place place row.place) lines i (line place []) found.0 found.1
