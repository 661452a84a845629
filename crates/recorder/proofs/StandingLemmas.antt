-- The events that an account stands for, after one more and after a cut.
use Rattle.std.proofs.Common.{◌≡◌, ℕ, ◌+◌, ◌*◌, true, false, List, [], ◌∷◌, ◌++◌, map, flat_map, get_or, sum_by}
use Rattle.std.proofs.Common.{append_assoc, Result, Ok, Err, OnOk, OnErr, IfOk, refl, sym, ap, subst, ◌∙◌, arith}
use Rattle.std.proofs.Common.{if◌then◌else◌}
use Rattle.std.proofs.lemmas.Grind.{flat_map-append}
use Rattle.std.proofs.lemmas.List.{append-nil, map-append}
use Rattle.std.proofs.lemmas.List.Sums.{fold-append, sum_by-append, sum_by-cons}
use Rattle.event_costs.specs.Costs.{event_kinds, sum_of_costs}
use Rattle.event_costs.specs.declared.numbers.ThreadNo.{ThreadNo}
use Rattle.recorder.proofs.Others.{zero_replicate, stack-frames_after}
use Rattle.event_costs.specs.declared.event.Event.{Event}
use Rattle.sym_map.specs.SymbolMap.{SymbolMap, place_of}
use Rattle.shadow_stack.specs.Changes.{after, change}
use Rattle.shadow_stack.specs.Frames.{pushed_activation, restarted_frames, stack}
use Rattle.shadow_stack.specs.Stacks.{root, Stack}
use Rattle.shadow_stack.specs.Traces.{CountedEvent, EventOnStack, stack_after}
use Rattle.shadow_stack.specs.declared.frame.Frame.{Frame}
use Rattle.shadow_stack.proofs.RestartLemmas.{stack-restarted}
use Rattle.arc_costs.specs.Arcs.{cleared_arcs}
use Rattle.arc_costs.specs.Contents.{Listed}
use Rattle.arc_costs.specs.Lines.{cleared_lines, line_sum}
use Rattle.event_costs.specs.Order.{same_place}
use Rattle.arc_costs.specs.Rows.{LineRow}
use Rattle.arc_costs.proofs.ArcLemmas as arcs
use Rattle.arc_costs.proofs.LineLemmas as lines
use Rattle.recorder.specs.Accounts.{Account}
use Rattle.recorder.specs.Notes.{account_after_cut, account_after_note, open_sum, first_account}
use Rattle.recorder.specs.Standing.{AreRowsOf, has_some, IsCutOf, last_events_on_stack, events_on_stack, stack_after_events, SameSums, Stands}
use Rattle.recorder.specs.Standing.{StandsFor}
use Rattle.recorder.specs.Sums.{entered_by, pushes}
use Rattle.recorder.specs.inner.Books.{Adds, AreRowsIn, Gives}
use Rattle.recorder.proofs.SumLemmas.{open_sum-restarted}

has_more : {A : Type 0} (xs : List A) (x : A) → has_some (xs ++ x ∷ []) ≡ true
has_more [] x = refl
has_more (y ∷ xs) x = refl

-- sums of one event more
module _ {X : Type 0} (f : X → ℕ) (xs : List X) (x : X) where
  pub one_more_sum : sum_by f (xs ++ x ∷ []) ≡ sum_by f xs + f x
  one_more_sum = let all = sum_by-append f xs (x ∷ []) in let one = sum_by-cons f x [] in omega (arith, all, one)

pub stands_more : (syms : SymbolMap) (e : Event) (cost : List ℕ) (old new : Account) (s : Stack) (since : List EventOnStack)
    → new ≡ account_after_note syms e cost old → Adds syms e cost old new → Stands syms s since old
    → Stands syms (after syms s e) (since ++ record { event = e; cost = cost; stack = s } ∷ []) new
stands_more syms e cost old new s since is adds stands = record {
  stack = ap (λ (a : Account). stack a.frames) is ∙ stack-frames_after syms (sum_of_costs old.total cost) old.frames e
      ∙ ap (λ (t : Stack). after syms t e) stands.stack;
  lines = λ kind place.
      let more =
      one_more_sum
      (λ (x : EventOnStack). if same_place place (place_of syms x.event.done.pc) then get_or x.cost kind 0 else 0) since
      (record { event = e; cost = cost; stack = s }) in
      omega (arith, adds.lines kind place, stands.lines kind place, more);
  arcs = λ kind arc.
      let more = one_more_sum (λ (x : EventOnStack). get_or x.cost kind 0 * entered_by arc x.stack) since
      (record { event = e; cost = cost; stack = s }) in
      let same : get_or cost kind 0 * entered_by arc (stack old.frames) ≡ get_or cost kind 0 * entered_by arc s
      = ap (λ (t : Stack). get_or cost kind 0 * entered_by arc t) stands.stack in
      omega (arith, adds.arcs kind arc, stands.arcs kind arc, more, same);
  calls = λ arc.
      let more = one_more_sum (λ (x : EventOnStack). pushes arc (change syms x.event x.stack).pushed) since
      (record { event = e; cost = cost; stack = s }) in
      let same : pushes arc (pushed_activation syms e old.frames) ≡ pushes arc (change syms e s).pushed
      = ap (λ (t : Stack). pushes arc (change syms e t).pushed) stands.stack in
      omega (arith, adds.calls arc, stands.calls arc, more, same);
  had_event = ap (λ (a : Account). a.had_event) is
      ∙ sym (has_more since (record { event = e; cost = cost; stack = s }));
}

-- the stacks of one thread's events
pub stack_after_events-append : (syms : SymbolMap) (s : Stack) (xs ys : List CountedEvent)
    → stack_after_events syms s (xs ++ ys) ≡ stack_after_events syms (stack_after_events syms s xs) ys
stack_after_events-append syms s xs ys =
    ap (stack_after syms s) (map-append (λ (x : CountedEvent). x.event) xs ys)
    ∙ fold-append (after syms) s (map (λ (x : CountedEvent). x.event) xs) (map (λ (x : CountedEvent). x.event) ys)

pub events_on_stack-append : (syms : SymbolMap) (s : Stack) (xs ys : List CountedEvent)
    → events_on_stack syms s (xs ++ ys) ≡ events_on_stack syms s xs ++ events_on_stack syms (stack_after_events syms s xs) ys
events_on_stack-append syms s [] ys = refl
events_on_stack-append syms s (x ∷ xs) ys = ap (λ (zs : List EventOnStack). record { event = x.event; cost = x.cost; stack = s } ∷ zs)
    (events_on_stack-append syms (after syms s x.event) xs ys)

abbrev joined : List (List CountedEvent) → List CountedEvent
joined pieces = flat_map (λ piece. piece) pieces

pub stands_for_more : (syms : SymbolMap) (e : Event) (cost : List ℕ) (old new : Account) (s : Stack)
    (earlier : List (List CountedEvent)) (last : List CountedEvent)
    → new ≡ account_after_note syms e cost old → Adds syms e cost old new → StandsFor syms s earlier last old
    → StandsFor syms s earlier (last ++ record { event = e; cost = cost } ∷ []) new
stands_for_more syms e cost old new s earlier last is adds stands =
    let x : CountedEvent = record { event = e; cost = cost } in
    let all = joined earlier in
    let at = stack_after_events syms s (all ++ last) in
    let later : stack_after_events syms s (all ++ (last ++ x ∷ [])) ≡ after syms at e
    = ap (stack_after_events syms s) (sym (append_assoc all last (x ∷ []))) ∙ stack_after_events-append syms s (all ++ last) (x ∷ []) in
    let seen_now : last_events_on_stack syms s earlier (last ++ x ∷ []) ≡ last_events_on_stack syms s earlier last ++ record {
      event = e;
      cost = cost;
      stack = at;
    } ∷ []
    = events_on_stack-append syms (stack_after_events syms s all) last (x ∷ [])
    ∙ ap (λ (t : Stack). last_events_on_stack syms s earlier last ++ record { event = e; cost = cost; stack = t } ∷ [])
    (sym (stack_after_events-append syms s all last)) in
    let more = stands_more syms e cost old new at (last_events_on_stack syms s earlier last) is adds stands.since in
    record {
      since = subst (λ (t : Stack). Stands syms t (last_events_on_stack syms s earlier (last ++ x ∷ [])) new) (sym later)
          (subst (λ (xs : List EventOnStack). Stands syms (after syms at e) xs new) (sym seen_now) more);
      total = λ kind.
          let f : CountedEvent → ℕ = λ y. get_or y.cost kind 0 in
          let sums = one_more_sum f (all ++ last) x in
          let same : sum_by f (all ++ (last ++ x ∷ [])) ≡ sum_by f ((all ++ last) ++ x ∷ [])
          = ap (sum_by f) (sym (append_assoc all last (x ∷ []))) in
          omega (arith, adds.total kind, stands.total kind, sums, same);
    }

-- a cut
pub gives_same : (old new : Account) → Gives old new → SameSums old new
gives_same old new gives = record {
  stack = ap stack gives.frames ∙ stack-restarted old.total old.frames;
  total = gives.total;
  lines = gives.lines;
  arcs = λ kind arc.
      let none : open_sum kind new.total arc new.frames ≡ 0
      = ap (λ (fs : List Frame). open_sum kind new.total arc fs) gives.frames
      ∙ ap (λ (total : List ℕ). open_sum kind total arc (restarted_frames old.total old.frames)) gives.total
      ∙ open_sum-restarted kind old.total arc old.frames in
      omega (arith, none, gives.arcs kind arc);
  calls = gives.calls;
  had_event = gives.had_event;
}

pub cut_rows : (old new : Account) (rows : Listed) → Gives old new → AreRowsIn new.lines new.arcs rows
    → IsCutOf old rows
cut_rows old new rows gives in_them = record {
  lines = λ kind place. in_them.lines kind place ∙ ap (λ (ls : List LineRow). line_sum kind place ls) gives.lines;
  arcs = λ kind arc. in_them.arcs kind arc ∙ gives.arcs kind arc;
  calls = λ arc. in_them.calls arc ∙ gives.calls arc;
  lines_rise = in_them.lines_rise;
  arcs_rise = in_them.arcs_rise;
  some_lines = in_them.some_lines;
  some_arcs = in_them.some_arcs;
}

pub rows_stand : (syms : SymbolMap) (s : Stack) (since : List EventOnStack) (old : Account) (rows : Listed) → IsCutOf old rows
    → Stands syms s since old → AreRowsOf syms since rows
rows_stand syms s since old rows cut stands = record {
  lines = λ kind place. cut.lines kind place ∙ stands.lines kind place;
  arcs = λ kind arc. cut.arcs kind arc ∙ stands.arcs kind arc;
  calls = λ arc. cut.calls arc ∙ stands.calls arc;
  lines_rise = cut.lines_rise;
  arcs_rise = cut.arcs_rise;
  some_lines = cut.some_lines;
  some_arcs = cut.some_arcs;
}

pub still_stands : (syms : SymbolMap) (s : Stack) (since : List EventOnStack) (old new : Account) → SameSums old new
    → Stands syms s since old → Stands syms s since new
still_stands syms s since old new same stands = record {
  stack = same.stack ∙ stands.stack;
  lines = λ kind place. ap (λ (ls : List LineRow). line_sum kind place ls) same.lines ∙ stands.lines kind place;
  arcs = λ kind arc. same.arcs kind arc ∙ stands.arcs kind arc;
  calls = λ arc. same.calls arc ∙ stands.calls arc;
  had_event = same.had_event ∙ stands.had_event;
}

pub still_stands_for : (syms : SymbolMap) (s : Stack) (earlier : List (List CountedEvent)) (last : List CountedEvent)
    (old new : Account) → SameSums old new → StandsFor syms s earlier last old → StandsFor syms s earlier last new
still_stands_for syms s earlier last old new same stands = record {
  since =
      still_stands syms (stack_after_events syms s (joined earlier ++ last))
      (last_events_on_stack syms s earlier last) old new same stands.since;
  total = λ kind. ap (λ (total : List ℕ). get_or total kind 0) same.total ∙ stands.total kind;
}

-- an account that was cut off stands for nothing since
pub stands_cut : (syms : SymbolMap) (s : Stack) (old : Account) → stack old.frames ≡ s → Stands syms s [] (account_after_cut old)
stands_cut syms s old is =
    let none = arcs.none_stand old.arcs in
    record {
      stack = stack-restarted old.total old.frames ∙ is;
      lines = λ kind place. lines.none_stand old.lines kind place;
      arcs = λ kind arc. omega (arith, none.costs kind arc, open_sum-restarted kind old.total arc old.frames);
      calls = λ arc. none.calls arc;
      had_event = refl;
    }

pub stands_for_cut : (syms : SymbolMap) (s : Stack) (earlier : List (List CountedEvent)) (last : List CountedEvent)
    (old new : Account) → new ≡ account_after_cut old → StandsFor syms s earlier last old
    → StandsFor syms s (earlier ++ last ∷ []) [] new
stands_for_cut syms s earlier last old new is stands =
    let same : joined (earlier ++ last ∷ []) ++ [] ≡ joined earlier ++ last
    = append-nil (joined (earlier ++ last ∷ [])) ∙ flat_map-append (λ piece. piece) earlier (last ∷ [])
    ∙ ap (λ (xs : List CountedEvent). joined earlier ++ xs) (append-nil last) in
    subst (λ (a : Account). StandsFor syms s (earlier ++ last ∷ []) [] a) (sym is)
    (record {
      since = subst (λ (xs : List CountedEvent). Stands syms (stack_after_events syms s xs) [] (account_after_cut old)) (sym same)
          (stands_cut syms (stack_after_events syms s (joined earlier ++ last)) old stands.since.stack);
      total = λ kind. stands.total kind ∙ ap (sum_by (λ (x : CountedEvent). get_or x.cost kind 0)) (sym same);
    })

-- an account whose frames have given their cost, with its rows cleared
pub cleared_account : (old mid new : Account) → Gives old mid → new.thread ≡ mid.thread → new.frames ≡ mid.frames
    → new.total ≡ mid.total → new.lines ≡ cleared_lines mid.lines → new.arcs ≡ cleared_arcs mid.arcs
    → new.had_event ≡ false → new ≡ account_after_cut old
cleared_account old mid new gives thread frames_ total lines_ arcs_ had =
    let t = thread ∙ gives.thread in
    let f = frames_ ∙ gives.frames in
    let n = total ∙ gives.total in
    let l = lines_ ∙ ap cleared_lines gives.lines in
    let a = arcs_ ∙ gives.cleared in
    λ i. record { thread = t i; frames = f i; total = n i; lines = l i; arcs = a i; had_event = had i }

-- facts of an answer that is Ok, and of a refusal
pub if_ok : {U E : Type 0} (r : Result U E) {A B C D : Type 0} → OnOk r A → OnOk r B → OnOk r C
    → (A → B → C → D) → OnOk r D
if_ok (Ok u) a b c make = make a b c
if_ok (Err e) a b c make = tt

pub if_err : {U E : Type 0} (r : Result U E) {A B : Type 0} → OnErr r A → (A → B) → OnErr r B
if_err (Ok u) a make = tt
if_err (Err e) a make = make a

pub if_rows : {U E : Type 0} (r : Result U E) {P Q : U → Type 0} → IfOk r P → ((u : U) → P u → Q u) → IfOk r Q
if_rows (Ok u) is more = more u is
if_rows (Err e) is more = tt

pub either_way : {U E : Type 0} (r : Result U E) {A B C : Type 0} → OnOk r A → OnErr r B → (A → C) → (B → C) → C
either_way (Ok u) a b one two = one a
either_way (Err e) a b one two = two b

pub if_one : {U E : Type 0} (r : Result U E) {A B : Type 0} → OnOk r A → (A → B) → OnOk r B
if_one (Ok u) a make = make a
if_one (Err e) a make = tt

-- the stack after all pieces
abbrev pub all_stack : SymbolMap → Stack → List (List CountedEvent) → List CountedEvent → Stack
all_stack syms s earlier last = stack_after_events syms s (joined earlier ++ last)

-- a thread that begins
pub stands_started : (syms : SymbolMap) (thread : ThreadNo) (pc : ℕ)
    → StandsFor syms (root syms pc) [] [] (first_account syms thread pc)
stands_started syms thread pc = record {
  since = record {
    stack = refl;
    lines = λ kind place. refl;
    arcs = λ kind arc. refl;
    calls = λ arc. refl;
    had_event = refl;
  };
  total = λ kind. zero_replicate event_kinds kind;
}
