-- Steps of a pass, over what the functions promise of them.
use Rattle.std.proofs.Common.{◌≡◌, ◌≢◌, ℕ, zero, suc, ◌+◌, ◌-◌, ◌<◌, ◌≤◌, List, [], ◌∷◌, ◌++◌, length, get_or, set, map}
use Rattle.std.proofs.Common.{take, drop, replicate, Option, None, All, Vec, refl, sym, ap, subst, ◌∙◌, inl, inr, arith}
use Rattle.std.specs.declared.alloc.Global.{Global}
use Rattle.std.proofs.lemmas.List.{length_push, length-append, length-map, get_or-map, take_all}
use Rattle.std.proofs.lemmas.List.{get_or-replicate, get_or_default, get_or_past, length-replicate}
use Rattle.std.proofs.lemmas.List.Elements.{All-set, All-replicate}
use Rattle.std.proofs.lemmas.Bool.{cases_lt}
use Rattle.call_graph.specs.Reach.{Reach, one, more}
use Rattle.call_graph.specs.inner.Rows.{Calls, StayWithin}
use Rattle.call_graph.specs.inner.Pass.{unmet_weight, rank_of, ranks, mark, start, height, IsTaken, Leads, IsPass, IsFair}
use Rattle.call_graph.specs.inner.Pass.{IsEntered, IsCut, IsRanked, IsShut, Stands, IsLater, CanLook, CanStep, IsClosed}
use Rattle.call_graph.specs.inner.Pass.{IsFinished, group_in, remaining}
use Rattle.call_graph.specs.declared.visit_state.Mark.{Mark}
use Rattle.call_graph.specs.declared.visit_state.VisitState.{VisitState}
use Rattle.call_graph.specs.declared.visit_state.VisitState.TheVariants.{New, Open, Closed}
use Rattle.call_graph.specs.declared.pass.Pass.{Pass}
use Rattle.call_graph.proofs.RankLemmas.{inside, write_cases, unmet_weight-set_new, length-ranks, ranks-set, rank_at}
use Rattle.call_graph.proofs.PassLemmas.{at, pass_after_enter, pass_after_pop, popped_reached}
use Rattle.call_graph.proofs.JoinLemmas.{pass_after_join}
use Rattle.call_graph.proofs.ShutLemmas.{pass_after_close, shut_met}
use Rattle.call_graph.proofs.GiveLemmas.{ranked_along}

-- a function's rank, by its state
pub rank_by : {rows : List (List ℕ)} {taken : Option ℕ} {pass : Pass} (f : ℕ) (s t : VisitState) → Stands rows taken pass
    → f < length rows → s ≡ get_or pass.states.items f s → s ≡ t
    → at (ranks pass.states.items) f ≡ rank_of (length rows) t
rank_by {rows = rows} {pass = pass} f s t stands lt is same =
    let size : length pass.states.items ≡ length rows = sym (length-ranks pass.states.items) ∙ stands.holds.size in
    rank_at pass.states.items f s (omega arith) is ∙ ap (λ n. rank_of n s) size ∙ ap (rank_of (length rows)) same

pass_along : {n : ℕ} {Step : ℕ → ℕ → Type 0} {taken : Option ℕ} {rank rank' path path' work work' : List ℕ}
    {marks marks' : List Mark} {count count' : ℕ}
    → rank ≡ rank' → path ≡ path' → work ≡ work' → marks ≡ marks' → count ≡ count'
    → IsPass n Step taken rank path work marks count → IsPass n Step taken rank' path' work' marks' count'
pass_along {n = n} {Step = S} {taken = t} {rank = r} {rank' = r'} {path = p} {path' = p'} {work = w} {work' = w'}
    {marks = m} {marks' = m'} {count = c} {count' = c'} re pe we me ce pass =
    subst (λ x. IsPass n S t x p' w' m' c') re
    (subst (λ x. IsPass n S t r x w' m' c') pe (subst (λ x. IsPass n S t r p x m' c') we
    (subst (λ x. IsPass n S t r p w x c') me (subst (λ x. IsPass n S t r p w m x) ce pass))))

-- A function is entered.
module _ (rows : List (List ℕ)) {taken : Option ℕ} (old : Pass) (f : ℕ) (new : Pass) (stands : Stands rows taken old)
    (done : IsEntered old (get_or rows f []) f new) where
  entered_ranks : set (ranks old.states.items) f (length old.path.items + 1) ≡ ranks new.states.items
  entered_ranks = sym (ap ranks done.states ∙ ranks-set old.states.items f (Open (length old.path.items)))

  pub entered_later : ((g : ℕ) → IsTaken taken g → g ≡ f) → f < length rows → at (ranks old.states.items) f ≡ 0
      → ((q : ℕ) → q < length old.path.items → Leads (Calls rows) (at old.path.items q) f) → IsLater rows old new
  entered_later only within fresh leads =
      let pass = pass_after_enter f (get_or rows f []) stands.holds only within fresh leads (λ g. (λ x. x, λ x. x)) in
      let now = pass_along entered_ranks (sym done.path) (sym done.work) (sym done.marks) (sym done.count) pass in
      record {
        stands = record {
          holds = now;
          fair = subst (All (IsFair (length rows))) (sym done.states)
              (All-set (IsFair (length rows)) old.states.items f (Open (length old.path.items))
              (omega (arith, pass.room, length_push old.path.items f)) stands.fair);
        };
        met = λ g lt. subst (λ r. 0 < at r g) entered_ranks
            (elim (write_cases (ranks old.states.items) f (length old.path.items + 1) g
            (omega (arith, stands.holds.size, within))) [
              | inl here ↦ omega (arith, here.1)
              | inr other ↦ omega (arith, other.1, lt)
            ]);
      }

  pub entered_met : f < length rows → 0 < at (ranks new.states.items) f
  entered_met within =
      subst (λ r. 0 < at r f) entered_ranks
      (elim (write_cases (ranks old.states.items) f (length old.path.items + 1) f
      (omega (arith, stands.holds.size, within))) [
        | inl here ↦ omega (arith, here.1)
        | inr other ↦ absurd (other.0 refl)
      ])

  pub entered_no_more : f < length rows → at (ranks old.states.items) f ≡ 0 → remaining rows new ≤ remaining rows old
  entered_no_more within fresh =
      let weights : List ℕ = map (λ row. length row + 1) rows in
      let size : length weights ≡ length (ranks old.states.items) = length-map rows (λ row. length row + 1)
      ∙ sym stands.holds.size in
      let own : get_or weights f 0 ≡ length (get_or rows f []) + 1
      = get_or-map (λ row. length row + 1) rows f [] 0 within in
      let less = unmet_weight-set_new weights (ranks old.states.items) f (length old.path.items + 1) size
      (omega (arith, stands.holds.size, within)) fresh (omega arith) in
      omega (
        arith,
        less,
        own,
        ap (unmet_weight weights) entered_ranks,
        ap (length {A = ℕ}) done.work,
        length-append old.work.items (get_or rows f []),
        ap (length {A = Mark}) done.marks,
        length_push old.marks.items (mark (length old.path.items) (length old.work.items)),
      )

-- A function that was met before is looked at.
pub later_after_look : (rows : List (List ℕ)) (old : Pass) (f : ℕ) (marks : Vec Mark Global) → CanLook rows old f
    → 0 < at (ranks old.states.items) f
    → IsCut old.marks.items (at (ranks old.states.items) f) marks.items
    → IsLater rows old (record old { marks = marks })
later_after_look rows old f marks can met cut = record {
  stands = record {
    holds =
        pass_along refl refl refl (sym cut.front) refl
        (pass_after_join can.stands.holds met can.leads (length marks.items) cut.few cut.dropped cut.last);
    fair = can.stands.fair;
  };
  met = λ g lt. lt;
}

-- no mark starts above a finished function
pub cut_closed : (rows : List (List ℕ)) (old : Pass) (f : ℕ) → CanLook rows old f
    → length rows < at (ranks old.states.items) f
    → IsCut old.marks.items (at (ranks old.states.items) f) old.marks.items
cut_closed rows old f can high = record {
  few = omega arith;
  front = sym (take_all (length old.marks.items) old.marks.items (omega arith));
  dropped = λ k le lt. absurd (omega arith);
  last =
      λ lt. omega (
        arith,
        (can.stands.holds.marked (length old.marks.items - 1) (omega arith)).start_in,
        can.stands.holds.room,
        high,
      );
}

reached_within : (rows : List (List ℕ)) → StayWithin rows → {f g : ℕ} → Reach (Calls rows) f g → g < length rows
reached_within rows stay {f = f} {g = g} (one s) = stay f g s
reached_within rows stay (more s r) = reached_within rows stay r

-- A function is taken from the list of work.
pub can_look : (rows : List (List ℕ)) (old : Pass) (last : Mark) (work : Vec ℕ Global) (f : ℕ) → CanStep rows old last
    → last.height < length old.work.items
    → old.work.items ≡ work.items ++ f ∷ [] → CanLook rows (record old { work = work }) f
can_look rows old last work f can enough split =
    let before = pass_along refl refl split refl refl can.stands.holds in
    let high : height old.marks.items (length old.marks.items - 1) ≤ length work.items =
    omega (arith, ap (λ m. m.height) can.is_last, ap (length {A = ℕ}) split, length_push work.items f) in
    let place : 0 < length old.path.items
    = omega (arith, (before.marked (length old.marks.items - 1) (omega (arith, can.some))).start_in) in
    let reached : (q : ℕ) → q < length old.path.items → Reach (Calls rows) (at old.path.items q) f
    = popped_reached work.items f before can.some high in
    record {
      stands = record { holds = pass_after_pop work.items f before can.some high; fair = can.stands.fair };
      stay = can.stay;
      within = reached_within rows can.stay (reached 0 place);
      leads = λ q lt. inr (reached q lt);
    }

-- The last group is finished.
module _ (rows : List (List ℕ)) (old : Pass) (last : Mark) (new : Pass) (can : CanStep rows old last)
    (low : length old.work.items ≤ last.height) (done : IsShut old last.start new) where
  from : start old.marks.items (length old.marks.items - 1) ≡ last.start
  from = ap (λ m. m.start) can.is_last

  size : length old.states.items ≡ length rows
  size = sym (length-ranks old.states.items) ∙ can.stands.holds.size

  finished : IsRanked (ranks old.states.items)
      (drop (start old.marks.items (length old.marks.items - 1)) old.path.items) (length rows + 1 + old.count)
      (ranks new.states.items)
  finished =
      ranked_along refl (ap (λ s. drop s old.path.items) (sym from)) (ap (λ n. n + 1 + old.count) size) refl done.ranked

  pub shut_later : IsLater rows old new
  shut_later = record {
    stands = record {
      holds = pass_along refl (ap (λ s. take s old.path.items) from ∙ sym done.path) (sym done.work) (sym done.marks)
          (sym done.count)
          (pass_after_close can.stands.holds can.some (ranks new.states.items) finished
          (omega (arith, ap (λ m. m.height) can.is_last, low)));
      fair = done.fair (length rows) can.stands.fair;
    };
    met = shut_met can.stands.holds can.some (ranks new.states.items) finished;
  }

-- Between the functions that a pass begins with

-- no mark, no path
pub empty_path : {n : ℕ} {Step : ℕ → ℕ → Type 0} {rank path work : List ℕ} {marks : List Mark} {count : ℕ}
    → IsPass n Step None rank path work marks count → length marks ≡ 0 → length path ≡ 0
empty_path {path = path} {marks = marks} pass none = elim (cases_lt 0 (length path)) [
  | inr low ↦ omega arith
  | inl some ↦ absurd
      (elim (pass.back 0 some) [
        | inl start_at ↦ omega (arith, start_at.1, none)
        | inr before ↦ omega (arith, before.0)
      ])
]

-- what was met is finished
pub all_closed : {n : ℕ} {Step : ℕ → ℕ → Type 0} {rank path work : List ℕ} {marks : List Mark} {count : ℕ}
    → IsPass n Step None rank path work marks count → length marks ≡ 0 → (g : ℕ) → 0 < at rank g → n < at rank g
all_closed {n = n} {rank = rank} pass none g met = elim (cases_lt n (at rank g)) [
  | inl high ↦ high
  | inr low ↦ absurd (omega (arith, (pass.found g met low).0, empty_path pass none))
]

pub later_itself : {rows : List (List ℕ)} {pass : Pass} → Stands rows None pass → IsLater rows pass pass
later_itself stands = record { stands = stands; met = λ g lt. lt }

-- a function that is not new was met
pub met_by : {rows : List (List ℕ)} {taken : Option ℕ} {pass : Pass} (f : ℕ) (s : VisitState) → Stands rows taken pass
    → f < length rows → s ≡ get_or pass.states.items f s → s ≢ New
    → 0 < at (ranks pass.states.items) f
met_by f New stands lt is old = absurd (old refl)
met_by f (Open place) stands lt is old = omega (arith, rank_by f (Open place) (Open place) stands lt is refl)
met_by f (Closed group) stands lt is old = omega (arith, rank_by f (Closed group) (Closed group) stands lt is refl)

none_met : (n g : ℕ) → at (replicate n 0) g ≡ 0
none_met n g = elim (cases_lt g n) [
  | inl less ↦ get_or-replicate {A = ℕ} n g 0 0 less
  | inr past ↦ get_or_past {X = ℕ} (replicate n 0) g 0 (omega (arith, length-replicate {A = ℕ} n 0))
]

all_left : (n : ℕ) → unmet_weight (replicate n 1) (replicate n 0) ≡ n
all_left zero = refl
all_left (suc n) = omega (arith, all_left n)

all_new : (k n : ℕ) → map (rank_of k) (replicate n New) ≡ replicate n 0
all_new k zero = refl
all_new k (suc n) = ap (λ (l : List ℕ). 0 ∷ l) (all_new k n)

pub pass_at_start : (rows : List (List ℕ)) (pass : Pass) → pass.states.items ≡ replicate (length rows) New
    → pass.path.items ≡ [] → pass.work.items ≡ [] → pass.marks.items ≡ [] → pass.count ≡ 0
    → Stands rows None pass
pass_at_start rows pass states path work marks count =
    let n : ℕ = length rows in
    let ranks_are : replicate n 0 ≡ ranks pass.states.items
    = sym (ap ranks states ∙ all_new (length (replicate n New)) n) in
    record {
      holds = pass_along ranks_are (sym path) (sym work) (sym marks) (sym count) (record {
        size = length-replicate {A = ℕ} n 0;
        room = omega (arith, all_left n);
        placed = λ p lt. absurd (omega arith);
        found = λ g lt. absurd (omega (arith, none_met n g));
        forth = λ p q le lt. absurd (omega arith);
        back = λ q lt. absurd (omega arith);
        marked = λ k lt. absurd (omega arith);
        rising = λ j k less lt. absurd (omega arith);
        closed = λ f g lt. absurd (omega (arith, none_met n f));
        same = λ f g lt. absurd (omega (arith, none_met n f));
        below = λ f. omega (arith, none_met n f);
        used = λ c lt. absurd (omega arith);
      });
      fair = subst (All (IsFair n)) (sym states) (All-replicate (IsFair n) n New tt);
    }

-- At the end every function is in its group.
closed_state : (n : ℕ) (s : VisitState) → IsFair n s → n < rank_of n s → IsClosed s × (rank_of n s ≡ n + 1 + group_in s)
closed_state n New fair high = absurd (omega arith)
closed_state n (Open place) fair high = absurd (omega arith)
closed_state n (Closed group) fair high = (tt, refl)

module _ (rows : List (List ℕ)) (pass : Pass) (stands : Stands rows None pass) (none : length pass.marks.items ≡ 0)
    (met : (g : ℕ) → g < length rows → 0 < at (ranks pass.states.items) g) where
  count_states : length pass.states.items ≡ length rows
  count_states = sym (length-ranks pass.states.items) ∙ stands.holds.size

  state_at : (f : ℕ) (d : VisitState) → f < length rows → IsClosed (get_or pass.states.items f d)
      × (at (ranks pass.states.items) f ≡ length rows + 1 + group_in (get_or pass.states.items f d))
  state_at f d lt =
      let within : f < length pass.states.items = omega (arith, count_states) in
      let s : VisitState = get_or pass.states.items f d in
      let rank = rank_by f s s stands lt (get_or_default pass.states.items f d s within) refl in
      let high = all_closed stands.holds none f (met f lt) in
      let closed = closed_state (length rows) s (stands.fair f d within) (omega (arith, rank)) in
      (closed.0, rank ∙ closed.1)

  number_at : (f : ℕ) → f < length rows
      → at (ranks pass.states.items) f ≡ length rows + 1 + at (map group_in pass.states.items) f
  number_at f lt =
      (state_at f New lt).1
      ∙ ap (λ k. length rows + 1 + k)
      (sym (get_or-map group_in pass.states.items f New 0 (omega (arith, count_states))))

  high_at : (f : ℕ) → f < length rows → length rows < at (ranks pass.states.items) f
  high_at f lt = omega (arith, number_at f lt)

  pub all_finished : IsFinished rows pass
  all_finished = record {
    closed = λ f d lt. (state_at f d (omega (arith, count_states))).0;
    numbered = record {
      size = length-map pass.states.items group_in ∙ count_states;
      same = λ f g ft gt.
          let groups = stands.holds.same f g (high_at f ft) (high_at g gt) in (
            λ e. groups.0 (number_at f ft ∙ ap (λ k. length rows + 1 + k) e ∙ sym (number_at g gt)),
            λ s. omega (arith, groups.1 s, number_at f ft, number_at g gt),
          );
      below = λ f lt. omega (arith, number_at f lt, stands.holds.below f);
      used = λ c lt.
          let before = stands.holds.used c lt in
          let within : before.0 < length rows
          = omega (arith, stands.holds.size, inside (ranks pass.states.items) before.0 (omega (arith, before.1))) in
          (before.0, within, omega (arith, before.1, number_at before.0 within));
    };
  }
