-- What open frames are told as to rows beside their thread's, and what stands there then.
use Rattle.std.proofs.Common.{◌≡◌, ℕ, true, List, [], ◌∷◌, ◌++◌, None, Some, append_assoc, is_ok}
use Rattle.std.proofs.Common.{refl, sym, ap, subst, ◌∙◌, arith, Err, Ok, OnOk, Result}
use Rattle.std.proofs.lemmas.List.{append-nil}
use Rattle.byte_text.specs.declared.memory.OutOfMemory.{OutOfMemory}
use Rattle.event_costs.specs.Arcs.{Closed, Telling, TakesAll}
use Rattle.event_costs.specs.Costs.{difference_of_costs}
use Rattle.event_costs.specs.Keys.{ArcKey}
use Rattle.event_costs.specs.declared.numbers.FuncId.{FuncId}
use Rattle.arc_costs.specs.Arcs.{ArcsStandFor}
use Rattle.arc_costs.specs.Contents.{Contents}
use Rattle.arc_costs.specs.Rows.{ArcRow}
use Rattle.shadow_stack.specs.Frames.{closings}
use Rattle.shadow_stack.specs.declared.frame.Frame.{Frame}
use Rattle.recorder.specs.Notes.{rows_of_tellings}
use Rattle.recorder.specs.inner.TellerLaws.{arc_sum-append, telling_costs-append}
use Rattle.ctx_costs.specs.inner.Frames.{AreOpen, arc_between, by_number, numbered_frames, numbers_left}
use Rattle.ctx_costs.specs.inner.Tellings.{AddsRows, CanOpen, HaveRoom, Opens, numbers_to}
use Rattle.ctx_costs.specs.declared.closing.Opening.{Opening}
use Rattle.ctx_costs.proofs.NumberedLemmas.{closing_by, closing_numbered, none_from, some_from}

-- rows stand for themselves
pub own_sums : (rows : List ArcRow) → ArcsStandFor rows rows
own_sums rows = record { calls = λ arc. refl; costs = λ kind arc. refl }

lowest : (total : List ℕ) (f : Frame) (fs : List Frame) → f.from ≡ None → AreOpen fs [] → [] ≡ closings total (f ∷ fs)
lowest total f [] none all = ap (λ ts. ts ++ []) (sym (closing_by total f None none))
lowest total f (g ∷ fs) none all = absurd all

lowest_numbered : (total : List ℕ) (f : Frame) (fs : List Frame) (n : FuncId) → f.from ≡ None → AreOpen fs []
    → [] ≡ closings total (numbered_frames (f ∷ fs) (n ∷ []))
lowest_numbered total f [] n none all = ap (λ ts. ts ++ []) (sym (closing_numbered total f n [] None none))
lowest_numbered total f (g ∷ fs) n none all = absurd all

upper : (total : List ℕ) (f : Frame) (arc : ArcKey) (fs : List Frame) → f.from ≡ Some arc
    → Closed arc (difference_of_costs total f.start) ∷ closings total fs ≡ closings total (f ∷ fs)
upper total f arc fs is = ap (λ ts. ts ++ closings total fs) (sym (closing_by total f (Some arc) is))

upper_numbered : (total : List ℕ) (f : Frame) (arc : ArcKey) (fs : List Frame) (n m : FuncId) (ns : List FuncId)
    → f.from ≡ Some arc
    → Closed (arc_between arc m n) (difference_of_costs total f.start) ∷ closings total (numbered_frames fs (m ∷ ns))
    ≡ closings total (numbered_frames (f ∷ fs) (n ∷ (m ∷ ns)))
upper_numbered total f arc fs n m ns is =
    ap (λ ts. ts ++ closings total (numbered_frames fs (m ∷ ns))) (sym (closing_numbered total f n (m ∷ ns) (Some arc) is))

abbrev open_rows : List ℕ → List Frame → List FuncId → List ArcRow
open_rows total fs ns = rows_of_tellings (closings total (numbered_frames fs ns))

pub can_open : (total : List ℕ) (fs : List Frame) (ns : List FuncId) (s : Opening) → AreOpen fs ns
    → (is_ok s.memory ≡ true → numbers_to s ≡ ns)
    → (is_ok s.memory ≡ true → HaveRoom s.rows.now (rows_of_tellings (closings total (numbered_frames fs ns))))
    → CanOpen s (closings total fs)
can_open total [] [] s entered is room = tt
can_open total [] (n ∷ ns) s entered is room = absurd entered
can_open total (f ∷ fs) [] s entered is room = absurd entered
can_open total (f ∷ fs) (n ∷ []) s entered is room = subst (CanOpen s) (lowest total f fs (none_from f entered.0) entered.1) tt
can_open total (f ∷ fs) (n ∷ (m ∷ ns)) s entered is room =
    let arc = some_from f entered.0 in
    let cost = difference_of_costs total f.start in
    let told : Telling = Closed arc.0 cost in
    let one : Telling = Closed (arc_between arc.0 m n) cost in
    let rest : List Telling = closings total (numbered_frames fs (m ∷ ns)) in
    let all : is_ok s.memory ≡ true → HaveRoom s.rows.now (rows_of_tellings (one ∷ rest))
    = λ ok. subst (λ ts. HaveRoom s.rows.now (rows_of_tellings ts)) (sym (upper_numbered total f arc.0 fs n m ns arc.1))
    (room ok) in
    subst (CanOpen s) (upper total f arc.0 fs arc.1) (
      λ ok.
          subst (λ ls. HaveRoom s.rows.now (rows_of_tellings (by_number told ls))) (sym (is ok))
          (λ kind key. omega (arith, all ok kind key, telling_costs-append kind key (one ∷ []) rest)),
      λ new tells.
          can_open total fs (m ∷ ns) new entered.1
          (λ ok. tells.numbers ok ∙ ap (numbers_left told) (is (tells.memory ok)))
          (λ ok kind key.
          let before = tells.memory ok in
          let added = subst (λ ls. AddsRows s.rows.now (rows_of_tellings (by_number told ls)) new.rows.now) (is before)
          (tells.rows ok) in
          let sums = added.stands s.rows.now.arcs (own_sums s.rows.now.arcs) in
          omega (
            arith,
            all before kind key,
            telling_costs-append kind key (one ∷ []) rest,
            sums.costs kind key,
            arc_sum-append kind key s.rows.now.arcs (rows_of_tellings (one ∷ [])),
          )),
    )

pub record HasOpened (s : Opening) (added : List ArcRow) (new : Opening) : Type 0 where
  pub loan : new.rows.ghost_name ≡ s.rows.ghost_name
  pub memory : is_ok new.memory ≡ true → is_ok s.memory ≡ true
  pub rows : is_ok new.memory ≡ true → AddsRows s.rows.now added new.rows.now

none_opened : (s new : Opening) → s ≡ new → HasOpened s [] new
none_opened s new same =
    subst (HasOpened s []) same
    (record {
      loan = refl;
      memory = λ ok. ok;
      rows = λ ok. record {
        lines = refl;
        stands = λ additions stand. subst (ArcsStandFor s.rows.now.arcs) (sym (append-nil additions)) stand;
      };
    })

both_added : (old mid new : Contents) (row : ArcRow) (more : List ArcRow) → AddsRows old (row ∷ []) mid
    → AddsRows mid more new → AddsRows old (row ∷ more) new
both_added old mid new row more one rest = record {
  lines = rest.lines ∙ one.lines;
  stands = λ additions stand.
      subst (ArcsStandFor new.arcs) (append_assoc additions (row ∷ []) more)
      (rest.stands (additions ++ row ∷ []) (one.stands additions stand));
}

pub has_opened : (total : List ℕ) (fs : List Frame) (ns : List FuncId) (s new : Opening) → AreOpen fs ns
    → (is_ok s.memory ≡ true → numbers_to s ≡ ns) → TakesAll Opens s (closings total fs) new
    → HasOpened s (rows_of_tellings (closings total (numbered_frames fs ns))) new
has_opened total [] [] s new entered is told = none_opened s new told
has_opened total [] (n ∷ ns) s new entered is told = absurd entered
has_opened total (f ∷ fs) [] s new entered is told = absurd entered
has_opened total (f ∷ fs) (n ∷ []) s new entered is told =
    let none = none_from f entered.0 in
    subst (λ (ts : List Telling). HasOpened s (rows_of_tellings ts) new) (lowest_numbered total f fs n none entered.1)
    (none_opened s new (subst (λ ts. TakesAll Opens s ts new) (sym (lowest total f fs none entered.1)) told))
has_opened total (f ∷ fs) (n ∷ (m ∷ ns)) s new entered is told =
    let arc = some_from f entered.0 in
    let cost = difference_of_costs total f.start in
    let here : Telling = Closed arc.0 cost in
    let all = subst (λ ts. TakesAll Opens s ts new) (sym (upper total f arc.0 fs arc.1)) told in
    let one = all.1 in
    let more =
    has_opened total fs (m ∷ ns) all.0 new entered.1
    (λ ok. one.numbers ok ∙ ap (numbers_left here) (is (one.memory ok))) all.2 in
    subst (λ (ts : List Telling). HasOpened s (rows_of_tellings ts) new) (upper_numbered total f arc.0 fs n m ns arc.1)
    (record {
      loan = more.loan ∙ one.loan;
      memory = λ ok. one.memory (more.memory ok);
      rows = λ ok.
          let mid = more.memory ok in
          both_added s.rows.now all.0.rows.now new.rows.now _ (open_rows total fs (m ∷ ns))
          (subst (λ ls. AddsRows s.rows.now (rows_of_tellings (by_number here ls)) all.0.rows.now) (is (one.memory mid))
          (one.rows mid)) (more.rows ok);
    })

-- the tables that are left then
pub lines_opened : (s new : Opening) (added : List ArcRow) (rows : Contents) → HasOpened s added new
    → rows ≡ new.rows.now → OnOk new.memory (rows.lines ≡ s.rows.now.lines)
lines_opened s new added rows all is = by new.memory refl
  where
    by : (memory : Result (Unit {0}) OutOfMemory) → new.memory ≡ memory → OnOk memory (rows.lines ≡ s.rows.now.lines)
    by (Ok done) ok = ap (λ (r : Contents). r.lines) is ∙ (all.rows (ap is_ok ok)).lines
    by (Err lack) ok = tt

pub stands_opened : (s new : Opening) (added : List ArcRow) (rows : Contents) → HasOpened s added new
    → rows ≡ new.rows.now → OnOk new.memory ((additions : List ArcRow) → ArcsStandFor s.rows.now.arcs additions
    → ArcsStandFor rows.arcs (additions ++ added))
stands_opened s new added rows all is = by new.memory refl
  where
    by : (memory : Result (Unit {0}) OutOfMemory) → new.memory ≡ memory
        → OnOk memory ((additions : List ArcRow) → ArcsStandFor s.rows.now.arcs additions
        → ArcsStandFor rows.arcs (additions ++ added))
    by (Ok done) ok = λ additions stand.
        subst (λ (r : Contents). ArcsStandFor r.arcs (additions ++ added)) (sym is)
        ((all.rows (ap is_ok ok)).stands additions stand)
    by (Err lack) ok = tt
