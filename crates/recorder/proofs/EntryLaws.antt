-- What accounts stand for after entries of whatever threads.
use Rattle.std.proofs.Common.{◌≡◌, ◌≢◌, ◌⊎◌, inl, inr, ℕ, ◌+◌, ◌≤◌, ◌==◌, Bool, true, false, cond, List, [], ◌∷◌}
use Rattle.std.proofs.Common.{◌++◌, ◌-◌, suc, length}
use Rattle.std.proofs.Common.{fold, get_or, Option, Some, None, refl, sym, ap, subst, ◌∙◌, arith, if◌then◌else◌}
use Rattle.std.specs.List.{AllByRecursion, AllZip}
use Rattle.std.specs.Option.{option_map_or}
use Rattle.std.proofs.lemmas.Simd.{length-zip2}
use Rattle.std.proofs.lemmas.Bool.Decides.{eqb_tells}
use Rattle.event_costs.specs.Arcs.{Pushed, Closed}
use Rattle.event_costs.specs.Costs.{difference_of_costs, event_kinds, IsWhole, sum_of_costs}
use Rattle.event_costs.specs.declared.event.Event.{Event}
use Rattle.event_costs.specs.Keys.{ArcKey}
use Rattle.event_costs.specs.declared.numbers.ThreadNo.{ThreadNo}
use Rattle.sym_map.specs.SymbolMap.{SymbolMap, place_of}
use Rattle.arc_costs.specs.Arcs.{add_arc, add_arcs, arc_of, arc_sum, call_sum, cleared_arcs, plus_arc}
use Rattle.arc_costs.specs.Contents.{Contents}
use Rattle.arc_costs.specs.Lines.{add_line, cleared_lines, line, plus_line, place_of as row_place}
use Rattle.event_costs.specs.Order.{same_arc, same_place}
use Rattle.arc_costs.specs.Rows.{add_row}
use Rattle.arc_costs.specs.Rows.{ArcRow, LineRow}
use Rattle.recorder.proofs.Others.{arcs_keys, same_arc_laws, StartWithin-after, StartWithin-restarted}
use Rattle.arc_costs.proofs.LineLemmas.{same_place_laws}
use Rattle.arc_costs.proofs.RowLemmas as rows
use Rattle.shadow_stack.specs.Changes.{drop_count}
use Rattle.shadow_stack.specs.Frames.{closing, closings, dropped_frames, pushed_activation, pushing, stack, StartWithin, tellings}
use Rattle.shadow_stack.specs.Stacks.{Activation}
use Rattle.shadow_stack.specs.declared.frame.Frame.{Frame}
use Rattle.recorder.specs.Accounts.{account, Account, ledger, ledger_in, Ledger, nobody, Recording}
use Rattle.recorder.specs.Entries.{account_after, account_of, Begins, Cuts, Entry}
use Rattle.recorder.specs.Entries.{HasWholeCost, HaveWholeCosts, History}
use Rattle.recorder.specs.Entries.{history_after, history_of, is_entry_of, LeadTo}
use Rattle.recorder.specs.Entries.{Notes, account_after_entry, entries_of}
use Rattle.recorder.specs.Entries.{Leads, history_after_entry, StandsForHistory, thread_of}
use Rattle.recorder.proofs.RecordingLemmas.{same_thread}
use Rattle.recorder.specs.Notes.{account_after_cut, account_after_note, first_account, rows_of_tellings}
use Rattle.recorder.specs.inner.Books.{Adds}
use Rattle.recorder.specs.inner.Tellers.{RowsAfterTellings}
use Rattle.recorder.specs.inner.TellerLaws.{rows_of_tellings-append}
use Rattle.recorder.proofs.BookLemmas as book
use Rattle.recorder.proofs.StandingLemmas.{stands_for_cut, stands_for_more, stands_started}
use Rattle.recorder.proofs.BookLemmas.{whole_sum}

-- rows of which each has a number for each kind
abbrev WholeArcs : List ArcRow → Type 0
WholeArcs rs = AllByRecursion (λ (r : ArcRow). IsWhole r.cost) rs

abbrev WholeLines : List LineRow → Type 0
WholeLines rs = AllByRecursion (λ (r : LineRow). IsWhole r.cost) rs

module _ {R K : Type 0} (key : R → K) (same : K → K → Bool) (plus : R → R → R) (W : R → Type 0)
    (keeps : (r new : R) → W r → W new → W (plus r new)) where
  whole_more : (b : Bool) (r : R) (rs : List R) (new : R) → W r → AllByRecursion W rs → W new
      → AllByRecursion W (add_row key same plus rs new)
      → AllByRecursion W (if b then plus r new ∷ rs else r ∷ add_row key same plus rs new)
  whole_more true r rs new here all one rest = (keeps r new here one, all)
  whole_more false r rs new here all one rest = (here, rest)

  whole_added : (rs : List R) (new : R) → AllByRecursion W rs → W new → AllByRecursion W (add_row key same plus rs new)
  whole_added [] new all one = (one, tt)
  whole_added (r ∷ rs) new all one =
      whole_more (same (key new) (key r)) r rs new all.0 all.1 one (whole_added rs new all.1 one)

whole_line_added : (rs : List LineRow) (new : LineRow) → WholeLines rs → IsWhole new.cost → WholeLines (add_line rs new)
whole_line_added rs new all one =
    whole_added row_place same_place plus_line (λ (r : LineRow). IsWhole r.cost)
    (λ r n here there. whole_sum r.cost n.cost here there) rs new all one

whole_arc_added : (rs : List ArcRow) (new : ArcRow) → WholeArcs rs → IsWhole new.cost → WholeArcs (add_arc rs new)
whole_arc_added rs new all one =
    whole_added arc_of same_arc plus_arc (λ (r : ArcRow). IsWhole r.cost)
    (λ r n here there. whole_sum r.cost n.cost here there) rs new all one

whole_arcs_added : (rs news : List ArcRow) → WholeArcs rs → WholeArcs news → WholeArcs (add_arcs rs news)
whole_arcs_added rs [] all ones = all
whole_arcs_added rs (new ∷ news) all ones =
    whole_arcs_added (add_arc rs new) news (whole_arc_added rs new all ones.0) ones.1

-- what is added to whole rows counts
line_adds : (rs : List LineRow) (kind : ℕ) (new : LineRow) → WholeLines rs → IsWhole new.cost
    → AllByRecursion
    (rows.Adds row_place same_place same_place_laws plus_line (λ (r : LineRow). get_or r.cost kind 0) new) rs
line_adds [] kind new all one = tt
line_adds (r ∷ rs) kind new all one =
    ((refl, rows.number_of_sum r.cost new.cost kind (all.0 ∙ sym one)), line_adds rs kind new all.1 one)

arc_adds : (rs : List ArcRow) (kind : ℕ) (new : ArcRow) → WholeArcs rs → IsWhole new.cost
    → AllByRecursion (rows.Adds arc_of same_arc same_arc_laws plus_arc (λ (r : ArcRow). get_or r.cost kind 0) new) rs
arc_adds [] kind new all one = tt
arc_adds (r ∷ rs) kind new all one =
    ((refl, rows.number_of_sum r.cost new.cost kind (all.0 ∙ sym one)), arc_adds rs kind new all.1 one)

arc_calls_add : (rs : List ArcRow) (new : ArcRow)
    → AllByRecursion (rows.Adds arc_of same_arc same_arc_laws plus_arc (λ (r : ArcRow). r.calls) new) rs
arc_calls_add [] new = tt
arc_calls_add (r ∷ rs) new = ((refl, refl), arc_calls_add rs new)

arcs_costs : (kind : ℕ) (arc : ArcKey) (rs news : List ArcRow) → WholeArcs rs → WholeArcs news
    → arc_sum kind arc (add_arcs rs news) ≡ arc_sum kind arc rs + arc_sum kind arc news
arcs_costs kind arc rs [] all ones = omega arith
arcs_costs kind arc rs (new ∷ news) all ones =
    let number : ArcRow → ℕ = λ r. get_or r.cost kind 0 in
    let one = rows.sum_at-add_row arc_of same_arc same_arc_laws plus_arc number new arc rs
    (arc_adds rs kind new all ones.0) in
    let more = arcs_costs kind arc (add_arc rs new) news (whole_arc_added rs new all ones.0) ones.1 in
    let list = rows.sum_at-cons arc_of same_arc number arc new news in
    omega (arith, one, more, list)

arcs_calls : (arc : ArcKey) (rs news : List ArcRow)
    → call_sum arc (add_arcs rs news) ≡ call_sum arc rs + call_sum arc news
arcs_calls arc rs [] = omega arith
arcs_calls arc rs (new ∷ news) =
    let number : ArcRow → ℕ = λ r. r.calls in
    let one = rows.sum_at-add_row arc_of same_arc same_arc_laws plus_arc number new arc rs (arc_calls_add rs new) in
    let more = arcs_calls arc (add_arc rs new) news in
    let list = rows.sum_at-cons arc_of same_arc number arc new news in
    omega (arith, one, more, list)

-- what is told at an event is whole
alike : (xs ys : List ℕ) → AllZip (λ t s. s ≤ t) xs ys → length xs ≡ length ys
alike [] [] below = refl
alike [] (y ∷ ys) below = absurd below
alike (x ∷ xs) [] below = absurd below
alike (x ∷ xs) (y ∷ ys) below = let rest = alike xs ys below.1 in omega (arith, rest)

both_whole : (rs qs : List ArcRow) → WholeArcs rs → WholeArcs qs → WholeArcs (rs ++ qs)
both_whole [] qs all others = others
both_whole (r ∷ rs) qs all others = (all.0, both_whole rs qs all.1 others)

closing_whole : (total start : List ℕ) (from : Option ArcKey) → IsWhole total → AllZip (λ t s. s ≤ t) total start
    → WholeArcs (rows_of_tellings (option_map_or (λ key. Closed key (difference_of_costs total start) ∷ []) from []))
closing_whole total start None whole below = tt
closing_whole total start (Some key) whole below =
    (length-zip2 (λ x y. x - y) total start (alike total start below) ∙ whole, tt)

closings_whole : (total : List ℕ) (fs : List Frame) → IsWhole total → StartWithin total fs
    → WholeArcs (rows_of_tellings (closings total fs))
closings_whole total [] whole all = tt
closings_whole total (f ∷ fs) whole all =
    subst WholeArcs (sym (rows_of_tellings-append (closing total f) (closings total fs)))
    (both_whole (rows_of_tellings (closing total f)) (rows_of_tellings (closings total fs))
    (closing_whole total f.start f.from whole (all 0 f (omega arith)))
    (closings_whole total fs whole (λ k d h. all (suc k) d (omega arith))))

pushing_whole : (p : Option Activation) → WholeArcs (rows_of_tellings (pushing p))
pushing_whole None = tt
pushing_whole (Some a) = by a.arc
  where
    by : (from : Option ArcKey) → WholeArcs (rows_of_tellings (option_map_or (λ key. Pushed key ∷ []) from []))
    by None = tt
    by (Some key) = (refl, tt)

tellings_whole : (syms : SymbolMap) (total : List ℕ) (fs : List Frame) (e : Event) → IsWhole total
    → StartWithin total fs → WholeArcs (rows_of_tellings (tellings syms total fs e))
tellings_whole syms total fs e whole all =
    subst WholeArcs (sym (rows_of_tellings-append (closings total (dropped_frames syms e fs)) (pushing (pushed_activation syms e fs))))
    (both_whole (rows_of_tellings (closings total (dropped_frames syms e fs))) (rows_of_tellings (pushing (pushed_activation syms e fs)))
    (closings_whole total (dropped_frames syms e fs) whole (book.StartWithin-take total (drop_count syms e (stack fs)) fs all))
    (pushing_whole (pushed_activation syms e fs)))

-- What holds of each account.
record IsTidy (a : Account) : Type 0 where
  pub whole : IsWhole a.total
  pub starts : StartWithin a.total a.frames
  pub lines : WholeLines a.lines
  pub arcs : WholeArcs a.arcs

module _ (syms : SymbolMap) (e : Event) (cost : List ℕ) (a : Account) (tidy : IsTidy a) (one : IsWhole cost) where
  abbrev more : List ℕ
  more = sum_of_costs a.total cost

  whole : IsWhole more
  whole = whole_sum a.total cost tidy.whole one

  starts : StartWithin more a.frames
  starts = book.starts_grown a.total cost a.frames tidy.whole one tidy.starts

  news : WholeArcs (rows_of_tellings (tellings syms more a.frames e))
  news = tellings_whole syms more a.frames e whole starts

  noted_tidy : IsTidy (account_after_note syms e cost a)
  noted_tidy = record {
    whole = whole;
    starts = StartWithin-after syms more a.frames e starts;
    lines = whole_line_added a.lines (line (place_of syms e.done.pc) cost) tidy.lines one;
    arcs = whole_arcs_added a.arcs (rows_of_tellings (tellings syms more a.frames e)) tidy.arcs news;
  }

  abbrev before : Contents
  before = record { lines = a.lines; arcs = a.arcs; line_room = 0; arc_room = 0 }

  abbrev afterwards : Contents
  afterwards = record {
    lines = a.lines;
    arcs = add_arcs a.arcs (rows_of_tellings (tellings syms more a.frames e));
    line_room = 0;
    arc_room = 0;
  }

  told : RowsAfterTellings before (tellings syms more a.frames e) afterwards
  told = record {
    arcs = refl;
    lines = refl;
    costs = λ kind arc. arcs_costs kind arc a.arcs (rows_of_tellings (tellings syms more a.frames e)) tidy.arcs news;
    calls = λ arc. arcs_calls arc a.arcs (rows_of_tellings (tellings syms more a.frames e));
    keys = λ arc. arcs_keys a.arcs (rows_of_tellings (tellings syms more a.frames e)) arc;
    line_room = refl;
    arc_room = omega arith;
  }

  noted_adds : Adds syms e cost a (account_after_note syms e cost a)
  noted_adds = record {
    total = λ kind. rows.number_of_sum a.total cost kind (tidy.whole ∙ sym one);
    lines = λ kind place.
        rows.sum_at-add_row row_place same_place same_place_laws plus_line (λ (r : LineRow). get_or r.cost kind 0)
        (line (place_of syms e.done.pc) cost) place a.lines
        (line_adds a.lines kind (line (place_of syms e.done.pc) cost) tidy.lines one);
    arcs = λ kind arc.
        book.event_arcs syms a.total cost e a.frames before afterwards kind arc tidy.whole one tidy.starts told;
    calls = λ arc. book.event_calls syms more e a.frames before afterwards arc told;
  }

-- at a cut all rows are 0
lines_cleared : (rs : List LineRow) → WholeLines (cleared_lines rs)
lines_cleared [] = tt
lines_cleared (r ∷ rs) = (refl, lines_cleared rs)

arcs_cleared : (rs : List ArcRow) → WholeArcs (cleared_arcs rs)
arcs_cleared [] = tt
arcs_cleared (r ∷ rs) = (refl, arcs_cleared rs)

cut_tidy : (a : Account) → IsTidy a → IsTidy (account_after_cut a)
cut_tidy a tidy = record {
  whole = tidy.whole;
  starts = StartWithin-restarted a.total a.frames;
  lines = lines_cleared a.lines;
  arcs = arcs_cleared a.arcs;
}

started_tidy : (syms : SymbolMap) (thread : ThreadNo) (pc : ℕ) → IsTidy (first_account syms thread pc)
started_tidy syms thread pc =
    let sound = book.sound_started syms thread pc in
    record { whole = refl; starts = sound.starts; lines = tt; arcs = tt }

-- An account and what it stands for.
record Told (syms : SymbolMap) (h : History) (a : Account) : Type 0 where
  pub tidy : IsTidy a
  pub stands : StandsForHistory syms h a

own_told : (syms : SymbolMap) (e : Entry) (h : History) (a : Account) → HasWholeCost e → Told syms h a
    → Told syms (history_after_entry syms h e) (account_after_entry syms a e)
own_told syms (Begins thread pc) h a one old =
    record { tidy = started_tidy syms thread pc; stands = stands_started syms thread pc }
own_told syms (Notes x) h a one old = record {
  tidy = noted_tidy syms x.event x.cost a old.tidy one;
  stands =
      stands_for_more syms x.event x.cost a (account_after_note syms x.event x.cost a) h.first h.earlier h.last refl
      (noted_adds syms x.event x.cost a old.tidy one) old.stands;
}
own_told syms (Cuts thread) h a one old = record {
  tidy = cut_tidy a old.tidy;
  stands = stands_for_cut syms h.first h.earlier h.last a (account_after_cut a) refl old.stands;
}

any_told : (syms : SymbolMap) (e : Entry) (h : History) (a : Account) (b : Bool) → HasWholeCost e → Told syms h a
    → Told syms (if b then history_after_entry syms h e else h) (if b then account_after_entry syms a e else a)
any_told syms e h a true one old = own_told syms e h a one old
any_told syms e h a false one old = old

all_told : (syms : SymbolMap) (thread : ThreadNo) (entries : List Entry) (h : History) (a : Account)
    → HaveWholeCosts entries → Told syms h a
    → Told syms (fold (history_after syms thread) h entries) (fold (account_after syms thread) a entries)
all_told syms thread [] h a ones old = old
all_told syms thread (e ∷ entries) h a ones old =
    all_told syms thread entries (history_after syms thread h e) (account_after syms thread a e) ones.1
    (any_told syms e h a (is_entry_of thread e) ones.0 old)

nobody_told : (syms : SymbolMap) (thread : ThreadNo)
    → Told syms (record { first = []; earlier = []; last = [] }) (nobody thread).account
nobody_told syms thread = record {
  tidy = record { whole = refl; starts = λ k d h. absurd (omega arith); lines = tt; arcs = tt };
  stands = record {
    since = record {
      stack = refl;
      lines = λ kind place. refl;
      arcs = λ kind arc. refl;
      calls = λ arc. refl;
      had_event = refl;
    };
    total = λ kind. rows.zero_replicate event_kinds kind;
  };
}

pub accounts_stand : (syms : SymbolMap) (thread : ThreadNo) (entries : List Entry) → HaveWholeCosts entries
    → StandsForHistory syms (history_of syms thread entries) (account_of syms thread entries)
accounts_stand syms thread entries ones =
    let all = all_told syms thread entries (record { first = []; earlier = []; last = [] }) (nobody thread).account ones
    (nobody_told syms thread) in
    all.stands

-- the entries of other threads do nothing
module _ {S : Type 0} (thread : ThreadNo) (own : S → Entry → S) where
  abbrev step : S → Entry → S
  step s e = if is_entry_of thread e then own s e else s

  own_more : (b : Bool) (e : Entry) (entries rest : List Entry) (s : S) → is_entry_of thread e ≡ b
      → ((t : S) → fold step t entries ≡ fold step t rest)
      → fold step s (e ∷ entries) ≡ fold step s (cond b (e ∷ rest) rest)
  own_more true e entries rest s is more = more (step s e)
  own_more false e entries rest s is more =
      ap (λ b. fold step (if b then own s e else s) entries) is ∙ more s

  own_only : (entries : List Entry) (s : S) → fold step s entries ≡ fold step s (entries_of thread entries)
  own_only [] s = refl
  own_only (e ∷ entries) s =
      own_more (is_entry_of thread e) e entries (entries_of thread entries) s refl (λ t. own_only entries t)

pub accounts_alone : (syms : SymbolMap) (thread : ThreadNo) (xs ys : List Entry)
    → entries_of thread xs ≡ entries_of thread ys → account_of syms thread xs ≡ account_of syms thread ys
accounts_alone syms thread xs ys same =
    own_only thread (account_after_entry syms) xs (nobody thread).account
    ∙ ap (fold (account_after syms thread) (nobody thread).account) same
    ∙ sym (own_only thread (account_after_entry syms) ys (nobody thread).account)

-- a recorder that is led by entries has these accounts
led : (syms : SymbolMap) (thread : ThreadNo) (entries : List Entry) (r s : Recording) → LeadTo syms r entries s
    → account s thread ≡ fold (account_after syms thread) (account r thread) entries
led syms thread [] r s lead = lead thread
led syms thread (e ∷ entries) r s lead =
    led syms thread entries lead.0 s lead.2
    ∙ ap (λ (a : Account). fold (account_after syms thread) a entries) (lead.1 thread)

pub accounts_led : (syms : SymbolMap) (thread : ThreadNo) (entries : List Entry) (r s : Recording) → r.threads ≡ []
    → LeadTo syms r entries s → account s thread ≡ account_of syms thread entries
accounts_led syms thread entries r s none lead =
    led syms thread entries r s lead
    ∙ ap (λ (ks : List Ledger). fold (account_after syms thread) (ledger_in thread ks).account entries) none

-- an entry that makes the account of its thread and leaves the others leads on
pub leads : (syms : SymbolMap) (e : Entry) (r s : Recording)
    → account s (thread_of e) ≡ account_after_entry syms (account r (thread_of e)) e
    → ((o : ThreadNo) → o.0 ≢ (thread_of e).0 → ledger s o ≡ ledger r o) → Leads syms r e s
leads syms e r s own others o = by (eqb_tells (thread_of e).0 o.0)
  where
    by : (((thread_of e).0 == o.0 ≡ true) × ((thread_of e).0 ≡ o.0))
        ⊎ (((thread_of e).0 == o.0 ≡ false) × ((thread_of e).0 ≢ o.0))
        → account s o ≡ account_after syms o (account r o) e
    by (inl same) =
        subst (λ (t : ThreadNo). account s t ≡ account_after_entry syms (account r t) e)
        (same_thread (thread_of e) o same.1) own
        ∙ ap (λ b. if b then account_after_entry syms (account r o) e else account r o) (sym same.0)
    by (inr differs) = ap (λ (k : Ledger). k.account) (others o (λ is. differs.1 (sym is)))
        ∙ ap (λ b. if b then account_after_entry syms (account r o) e else account r o) (sym differs.0)
