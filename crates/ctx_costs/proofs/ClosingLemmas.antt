-- What a sink that counts by numbers can be told of the frames that go, and what it has counted then.
use Rattle.std.proofs.Common.{◌≡◌, ℕ, zero, suc, List, [], ◌∷◌, ◌++◌, Option, None, Some}
use Rattle.std.proofs.Common.{take, refl, sym, ap, subst, ◌∙◌}
use Rattle.std.specs.Option.{option_map, option_map_or}
use Rattle.event_costs.specs.Arcs.{Closed, Pushed, Telling, TakesAll}
use Rattle.event_costs.specs.Costs.{difference_of_costs}
use Rattle.event_costs.specs.Keys.{ArcKey}
use Rattle.event_costs.specs.declared.numbers.FuncId.{FuncId}
use Rattle.arc_costs.specs.Contents.{Contents}
use Rattle.shadow_stack.specs.Frames.{closings, pushing}
use Rattle.shadow_stack.specs.Stacks.{Activation}
use Rattle.shadow_stack.specs.declared.frame.Frame.{Frame}
use Rattle.recorder.specs.inner.Tellers.{CanTell, RowsAfterTellings}
use Rattle.recorder.specs.inner.TellerLaws as teller
use Rattle.ctx_costs.specs.inner.Frames.{AreOpen, arc_between, by_number, numbered_frames}
use Rattle.ctx_costs.specs.inner.Frames.{entry_of, numbers_left, pushed_entry}
use Rattle.ctx_costs.specs.inner.Tellings.{CanTake, Tells, numbers_in}
use Rattle.ctx_costs.specs.declared.closing.Closing.{Closing}
use Rattle.ctx_costs.specs.declared.closing.Entry.{Entry}
use Rattle.ctx_costs.proofs.Others.{more_told, none_told}
use Rattle.ctx_costs.proofs.NumberedLemmas.{closing_by, closing_numbered, none_from, some_from}

-- what a frame on others is told as, and the lowest
upper_told : (total : List ℕ) (f : Frame) (arc : ArcKey) (fs : List Frame) (k : ℕ) (p : Option Activation)
    → f.from ≡ Some arc → Closed arc (difference_of_costs total f.start) ∷ (closings total (take k fs) ++ pushing p)
    ≡ closings total (take (suc k) (f ∷ fs)) ++ pushing p
upper_told total f arc fs k p is =
    ap (λ ts. (ts ++ closings total (take k fs)) ++ pushing p) (sym (closing_by total f (Some arc) is))

upper_numbered : (total : List ℕ) (f : Frame) (arc : ArcKey) (fs : List Frame) (n m : FuncId) (ns : List FuncId) (k : ℕ)
    → f.from ≡ Some arc
    → Closed (arc_between arc m n) (difference_of_costs total f.start)
    ∷ closings total (take k (numbered_frames fs (m ∷ ns)))
    ≡ closings total (take (suc k) (numbered_frames (f ∷ fs) (n ∷ (m ∷ ns))))
upper_numbered total f arc fs n m ns k is =
    ap (λ ts. ts ++ closings total (take k (numbered_frames fs (m ∷ ns))))
    (sym (closing_numbered total f n (m ∷ ns) (Some arc) is))

lowest_told : (total : List ℕ) (f : Frame) (fs : List Frame) (k : ℕ) (p : Option Activation) → f.from ≡ None
    → AreOpen fs [] → pushing p ≡ closings total (take (suc k) (f ∷ fs)) ++ pushing p
lowest_told total f [] zero p none all = ap (λ ts. (ts ++ []) ++ pushing p) (sym (closing_by total f None none))
lowest_told total f [] (suc k) p none all = ap (λ ts. (ts ++ []) ++ pushing p) (sym (closing_by total f None none))
lowest_told total f (g ∷ fs) k p none all = absurd all

lowest_numbered : (total : List ℕ) (f : Frame) (fs : List Frame) (n : FuncId) (k : ℕ) → f.from ≡ None → AreOpen fs []
    → [] ≡ closings total (take (suc k) (numbered_frames (f ∷ fs) (n ∷ [])))
lowest_numbered total f [] n zero none all = ap (λ ts. ts ++ []) (sym (closing_numbered total f n [] None none))
lowest_numbered total f [] n (suc k) none all = ap (λ ts. ts ++ []) (sym (closing_numbered total f n [] None none))
lowest_numbered total f (g ∷ fs) n k none all = absurd all

-- ---- what can be told

can_push : (s : Closing) (p : Option Activation) → CanTell s.rows.now [] → CanTake s (pushing p)
can_push s None can = tt
can_push s (Some a) can = by a.arc
  where
    by : (from : Option ArcKey) → CanTake s (option_map_or (λ arc. Pushed arc ∷ []) from [])
    by None = tt
    by (Some arc) = (can, λ new told. tt)

pub can_take : (total : List ℕ) (p : Option Activation) (k : ℕ) (fs : List Frame) (ns : List FuncId) (s : Closing)
    → AreOpen fs ns → numbers_in s ≡ ns → CanTell s.rows.now (closings total (take k (numbered_frames fs ns)))
    → CanTake s (closings total (take k fs) ++ pushing p)
can_take total p zero fs ns s entered is can = can_push s p can
can_take total p (suc k) [] [] s entered is can = can_push s p can
can_take total p (suc k) [] (n ∷ ns) s entered is can = absurd entered
can_take total p (suc k) (f ∷ fs) [] s entered is can = absurd entered
can_take total p (suc k) (f ∷ fs) (n ∷ []) s entered is can =
    let none = none_from f entered.0 in
    subst (CanTake s) (lowest_told total f fs k p none entered.1)
    (can_push s p (subst (CanTell s.rows.now) (sym (lowest_numbered total f fs n k none entered.1)) can))
can_take total p (suc k) (f ∷ fs) (n ∷ (m ∷ ns)) s entered is can =
    let arc = some_from f entered.0 in
    let cost = difference_of_costs total f.start in
    let told : Telling = Closed arc.0 cost in
    let all : CanTell s.rows.now (Closed (arc_between arc.0 m n) cost ∷ closings total (take k (numbered_frames fs (m ∷ ns))))
    = subst (CanTell s.rows.now) (sym (upper_numbered total f arc.0 fs n m ns k arc.1)) can in
    subst (CanTake s) (upper_told total f arc.0 fs k p arc.1) (
      subst (λ ls. CanTell s.rows.now (by_number told ls)) (sym is)
          (teller.takes_front s.rows.now (Closed (arc_between arc.0 m n) cost ∷ [])
          (closings total (take k (numbered_frames fs (m ∷ ns)))) all),
      λ new tells.
          can_take total p k fs (m ∷ ns) new entered.1 (tells.numbers ∙ ap (numbers_left told) is)
          (teller.takes_rest s.rows.now new.rows.now (Closed (arc_between arc.0 m n) cost)
          (closings total (take k (numbered_frames fs (m ∷ ns)))) all
          (subst (λ ls. RowsAfterTellings s.rows.now (by_number told ls) new.rows.now) is tells.rows)),
    )

-- ---- what was told

-- once these were told, and then how one was entered
pub record HasTaken (s : Closing) (gone : List Telling) (entry : Option Entry) (new : Closing) : Type 0 where
  pub loan : new.rows.ghost_name ≡ s.rows.ghost_name
  pub rows : RowsAfterTellings s.rows.now gone new.rows.now
  pub pushed : s.pushed ≡ None → new.pushed ≡ entry

pushed_told : (s : Closing) (p : Option Activation) (new : Closing) → TakesAll Tells s (pushing p) new
    → HasTaken s [] (pushed_entry p) new
pushed_told s None new told =
    subst (HasTaken s [] None) told (record { loan = refl; rows = none_told s.rows.now; pushed = λ none. none })
pushed_told s (Some a) new told = by a.arc told
  where
    by : (from : Option ArcKey) → TakesAll Tells s (option_map_or (λ arc. Pushed arc ∷ []) from []) new
        → HasTaken s [] (option_map entry_of from) new
    by None told_ =
        subst (HasTaken s [] None) told_ (record { loan = refl; rows = none_told s.rows.now; pushed = λ none. none })
    by (Some arc) told_ =
        subst (HasTaken s [] (Some (entry_of arc))) told_.2
        (record { loan = told_.1.loan; rows = told_.1.rows; pushed = λ none. told_.1.pushed })

pub has_taken : (total : List ℕ) (p : Option Activation) (k : ℕ) (fs : List Frame) (ns : List FuncId) (s new : Closing)
    → AreOpen fs ns → numbers_in s ≡ ns → TakesAll Tells s (closings total (take k fs) ++ pushing p) new
    → HasTaken s (closings total (take k (numbered_frames fs ns))) (pushed_entry p) new
has_taken total p zero fs ns s new entered is told = pushed_told s p new told
has_taken total p (suc k) [] [] s new entered is told = pushed_told s p new told
has_taken total p (suc k) [] (n ∷ ns) s new entered is told = absurd entered
has_taken total p (suc k) (f ∷ fs) [] s new entered is told = absurd entered
has_taken total p (suc k) (f ∷ fs) (n ∷ []) s new entered is told =
    let none = none_from f entered.0 in
    subst (λ (ts : List Telling). HasTaken s ts (pushed_entry p) new)
    (lowest_numbered total f fs n k none entered.1)
    (pushed_told s p new (subst (λ ts. TakesAll Tells s ts new) (sym (lowest_told total f fs k p none entered.1)) told))
has_taken total p (suc k) (f ∷ fs) (n ∷ (m ∷ ns)) s new entered is told =
    let arc = some_from f entered.0 in
    let cost = difference_of_costs total f.start in
    let here : Telling = Closed arc.0 cost in
    let all = subst (λ ts. TakesAll Tells s ts new) (sym (upper_told total f arc.0 fs k p arc.1)) told in
    let one = all.1 in
    let more = has_taken total p k fs (m ∷ ns) all.0 new entered.1 (one.numbers ∙ ap (numbers_left here) is) all.2 in
    subst (λ (ts : List Telling). HasTaken s ts (pushed_entry p) new)
    (upper_numbered total f arc.0 fs n m ns k arc.1)
    (record {
      loan = more.loan ∙ one.loan;
      rows =
          more_told s.rows.now all.0.rows.now new.rows.now (Closed (arc_between arc.0 m n) cost)
          (closings total (take k (numbered_frames fs (m ∷ ns))))
          (subst (λ ls. RowsAfterTellings s.rows.now (by_number here ls) all.0.rows.now) is one.rows) more.rows;
      pushed = λ none. more.pushed (one.pushed ∙ none);
    })

-- the tables that are left then
pub rows_left : (old : Contents) (new : Closing) (ts : List Telling) (rows : Contents) → RowsAfterTellings old ts new.rows.now
    → rows ≡ new.rows.now → RowsAfterTellings old ts rows
rows_left old new ts rows told is = subst (RowsAfterTellings old ts) (sym is) told
