-- What open frames have cost, by the contexts of their arcs.
use Rattle.std.proofs.Common.{◌≡◌, ℕ, zero, suc, ◌+◌, ◌-◌, ◌*◌, ◌≤◌, Bool, true}
use Rattle.std.proofs.Common.{false, List, [], ◌∷◌, ◌++◌, Option, None}
use Rattle.std.proofs.Common.{Some, get_or, map, take, drop, sum_by, refl, ap, sym, ◌∙◌, arith, if◌then◌else◌}
use Rattle.std.specs.List.{AllZip}
use Rattle.std.specs.Option.{option_map, option_map_or}
use Rattle.std.proofs.Math.Nat.{mul-add}
use Rattle.std.proofs.lemmas.List.{map-append, take-append-drop}
use Rattle.std.proofs.lemmas.List.Sums.{sum_by-append, sum_by-cons}
use Rattle.event_costs.specs.Arcs.{Telling, Pushed, Closed}
use Rattle.event_costs.specs.Costs.{IsWhole, difference_of_costs, event_kinds, no_cost, sum_of_costs}
use Rattle.event_costs.specs.Keys.{ArcKey}
use Rattle.shadow_stack.specs.Frames.{StartWithin, closing, closings, frame_of, pushing, restarted_frames, restarted_frame}
use Rattle.shadow_stack.specs.Frames.{with_frame}
use Rattle.shadow_stack.specs.Stacks.{Activation, Stack}
use Rattle.shadow_stack.specs.declared.frame.Frame.{Frame}
use Rattle.ctx_rows.proofs.Others.{StartWithin-tail, number_of_sum, sum_at-append, sum_at_one, zero_replicate}
use Rattle.arc_costs.specs.Arcs.{call_of_arc, cost_of_arc}
use Rattle.arc_costs.specs.Rows.{ArcRow}
use Rattle.recorder.specs.Notes.{rows_of_tellings}
use Rattle.recorder.specs.inner.TellerLaws.{rows_of_tellings-append}
use Rattle.contexts.specs.Contexts.{Context}
use Rattle.ctx_rows.specs.Rows.{arc_of, arc_sum, call_sum}
use Rattle.ctx_rows.specs.Sums.{CtxArcKey, ctx_arcs, entered_by, is_arc, same_arc}
use Rattle.ctx_rows.specs.declared.rows.CtxArc.{CtxArc}
use Rattle.ctx_rows.specs.Telling.{named_arc}
use Rattle.ctx_rows.proofs.NamingLemmas.{from_of, named_key}

number_of_difference : (xs ys : List ℕ) (kind : ℕ) → AllZip (λ t s. s ≤ t) xs ys
    → get_or (difference_of_costs xs ys) kind 0 ≡ get_or xs kind 0 - get_or ys kind 0
number_of_difference [] [] kind below = refl
number_of_difference [] (y ∷ ys) kind below = absurd below
number_of_difference (x ∷ xs) [] kind below = absurd below
number_of_difference (x ∷ xs) (y ∷ ys) zero below = refl
number_of_difference (x ∷ xs) (y ∷ ys) (suc kind) below = number_of_difference xs ys kind below.1

number_within : (xs ys : List ℕ) (kind : ℕ) → AllZip (λ t s. s ≤ t) xs ys → get_or ys kind 0 ≤ get_or xs kind 0
number_within [] [] kind below = omega arith
number_within [] (y ∷ ys) kind below = absurd below
number_within (x ∷ xs) [] kind below = absurd below
number_within (x ∷ xs) (y ∷ ys) zero below = below.0
number_within (x ∷ xs) (y ∷ ys) (suc kind) below = number_within xs ys kind below.1

starts_head : (total : List ℕ) (f : Frame) (fs : List Frame) → StartWithin total (f ∷ fs)
    → AllZip (λ t s. s ≤ t) total f.start
starts_head total f fs all = all 0 f (omega arith)

either_zero : (b : Bool) (n : ℕ) → n ≡ 0 → (if b then n else 0) ≡ 0
either_zero true n is = is
either_zero false n is = refl

module _ (cs : List Context) where
  -- what one open frame has for an arc
  abbrev pub open_part : ℕ → List ℕ → CtxArcKey → Frame → ℕ
  open_part kind total k f = if is_arc k (from_of cs f) then get_or total kind 0 - get_or f.start kind 0 else 0

  -- what these have
  abbrev pub open_named : ℕ → List ℕ → CtxArcKey → List Frame → ℕ
  open_named kind total k fs = sum_by (open_part kind total k) fs

  abbrev pub entered : CtxArcKey → List Frame → ℕ
  entered k fs = sum_by (λ f. if is_arc k (from_of cs f) then 1 else 0) fs

  pub open-cons : (kind : ℕ) (total : List ℕ) (k : CtxArcKey) (f : Frame) (fs : List Frame)
      → open_named kind total k (f ∷ fs) ≡ open_part kind total k f + open_named kind total k fs
  open-cons kind total k f fs = sum_by-cons (open_part kind total k) f fs

  pub open-split : (kind : ℕ) (total : List ℕ) (k : CtxArcKey) (n : ℕ) (fs : List Frame)
      → open_named kind total k (take n fs) + open_named kind total k (drop n fs) ≡ open_named kind total k fs
  open-split kind total k n fs =
      sym (sum_by-append (open_part kind total k) (take n fs) (drop n fs))
      ∙ ap (open_named kind total k) (take-append-drop n fs)

  grown : (b : Bool) (sum total start cost : ℕ) → sum ≡ total + cost → start ≤ total
      → (if b then sum - start else 0) ≡ (if b then total - start else 0) + cost * (if b then 1 else 0)
  grown true sum total start cost is within = omega (arith, is, within)
  grown false sum total start cost is within = omega arith

  -- each frame has the cost of one event more
  pub open-grown : (kind : ℕ) (total cost : List ℕ) (k : CtxArcKey) (fs : List Frame) → IsWhole total → IsWhole cost
      → StartWithin total fs
      → open_named kind (sum_of_costs total cost) k fs ≡ open_named kind total k fs + get_or cost kind 0 * entered k fs
  open-grown kind total cost k [] whole one all = omega arith
  open-grown kind total cost k (f ∷ fs) whole one all =
      let now = open-cons kind (sum_of_costs total cost) k f fs in
      let before = open-cons kind total k f fs in
      let here = grown (is_arc k (from_of cs f)) (get_or (sum_of_costs total cost) kind 0) (get_or total kind 0)
      (get_or f.start kind 0) (get_or cost kind 0) (number_of_sum total cost kind (whole ∙ sym one))
      (number_within total f.start kind (starts_head total f fs all)) in
      let rest = open-grown kind total cost k fs whole one (StartWithin-tail total (f ∷ fs) fs f refl all) in
      let count : entered k (f ∷ fs) ≡ (if is_arc k (from_of cs f) then 1 else 0) + entered k fs
      = sum_by-cons (λ (g : Frame). if is_arc k (from_of cs g) then 1 else 0) f fs in
      let spread : get_or cost kind 0 * entered k (f ∷ fs)
      ≡ get_or cost kind 0 * (if is_arc k (from_of cs f) then 1 else 0) + get_or cost kind 0 * entered k fs
      = ap (λ n. get_or cost kind 0 * n) count
      ∙ mul-add (get_or cost kind 0) (if is_arc k (from_of cs f) then 1 else 0) (entered k fs) in
      omega (arith, now, before, here, rest, spread)

  entered-map : (k : CtxArcKey) (fs : List Frame)
      → entered k fs ≡ sum_by (λ from. if is_arc k from then 1 else 0) (map (from_of cs) fs)
  entered-map k [] = refl
  entered-map k (f ∷ fs) =
      let left = sum_by-cons (λ (g : Frame). if is_arc k (from_of cs g) then 1 else 0) f fs in
      let right = sum_by-cons (λ (from : Option CtxArcKey). if is_arc k from then 1 else 0) (from_of cs f)
      (map (from_of cs) fs) in
      let rest = entered-map k fs in
      omega (arith, left, right, rest)

  -- frames that were entered as those of a stack
  pub entered_is : (callers : ℕ) (k : CtxArcKey) (fs : List Frame) (s : Stack)
      → map (from_of cs) fs ≡ ctx_arcs callers s
      → entered k fs ≡ entered_by callers k s
  entered_is callers k fs s is =
      entered-map k fs ∙ ap (λ (froms : List (Option CtxArcKey)).
      sum_by (λ from. if is_arc k from then 1 else 0) froms) is

  -- a frame that begins has nothing yet
  pub open-fresh : (kind : ℕ) (total : List ℕ) (k : CtxArcKey) (o : Option Activation) (fs : List Frame)
      → open_named kind total k (with_frame total o fs) ≡ open_named kind total k fs
  open-fresh kind total k None fs = refl
  open-fresh kind total k (Some a) fs =
      let all = open-cons kind total k (frame_of total a) fs in
      let none = either_zero (is_arc k (from_of cs (frame_of total a))) (get_or total kind 0 - get_or total kind 0)
      (omega arith) in
      omega (arith, all, none)

  pub open-restarted : (kind : ℕ) (total : List ℕ) (k : CtxArcKey) (fs : List Frame)
      → open_named kind total k (restarted_frames total fs) ≡ 0
  open-restarted kind total k [] = refl
  open-restarted kind total k (f ∷ fs) =
      let all = open-cons kind total k (restarted_frame total f) (restarted_frames total fs) in
      let none = either_zero (is_arc k (from_of cs f)) (get_or total kind 0 - get_or total kind 0) (omega arith) in
      let rest = open-restarted kind total k fs in
      omega (arith, all, none, rest)

  -- ---- what is told of frames that go and of one that comes

  abbrev named_told : List Telling → List CtxArc
  named_told ts = map (named_arc cs) (rows_of_tellings ts)

  told-append : (ts us : List Telling) → named_told (ts ++ us) ≡ named_told ts ++ named_told us
  told-append ts us =
      ap (map (named_arc cs)) (rows_of_tellings-append ts us) ∙ map-append (named_arc cs) (rows_of_tellings ts) (rows_of_tellings us)

  pub named_costs-append : (kind : ℕ) (k : CtxArcKey) (ts us : List Telling)
      → arc_sum kind k (map (named_arc cs) (rows_of_tellings (ts ++ us)))
      ≡ arc_sum kind k (map (named_arc cs) (rows_of_tellings ts)) + arc_sum kind k (map (named_arc cs) (rows_of_tellings us))
  named_costs-append kind k ts us =
      ap (arc_sum kind k) (told-append ts us)
      ∙ sum_at-append arc_of same_arc (λ (r : CtxArc). get_or r.cost kind 0) k (named_told ts) (named_told us)

  pub named_calls-append : (k : CtxArcKey) (ts us : List Telling)
      → call_sum k (map (named_arc cs) (rows_of_tellings (ts ++ us)))
      ≡ call_sum k (map (named_arc cs) (rows_of_tellings ts)) + call_sum k (map (named_arc cs) (rows_of_tellings us))
  named_calls-append k ts us =
      ap (call_sum k) (told-append ts us)
      ∙ sum_at-append arc_of same_arc (λ (r : CtxArc). r.calls) k (named_told ts) (named_told us)

  cost_alone : (kind : ℕ) (k : CtxArcKey) (r : ArcRow) → arc_sum kind k (map (named_arc cs) (r ∷ []))
      ≡ (if same_arc k (named_key cs r.arc) then get_or r.cost kind 0 else 0)
  cost_alone kind k r = sum_at_one arc_of same_arc (λ (q : CtxArc). get_or q.cost kind 0) k (named_arc cs r)

  calls_alone : (k : CtxArcKey) (r : ArcRow) → call_sum k (map (named_arc cs) (r ∷ []))
      ≡ (if same_arc k (named_key cs r.arc) then r.calls else 0)
  calls_alone k r = sum_at_one arc_of same_arc (λ (q : CtxArc). q.calls) k (named_arc cs r)

  closing_cost : (kind : ℕ) (total : List ℕ) (k : CtxArcKey) (f : Frame) (from : Option ArcKey)
      → AllZip (λ t s. s ≤ t) total f.start
      → arc_sum kind k (named_told (option_map_or (λ key. Closed key (difference_of_costs total f.start) ∷ []) from []))
      ≡ (if is_arc k (option_map (named_key cs) from) then get_or total kind 0 - get_or f.start kind 0 else 0)
  closing_cost kind total k f None below = refl
  closing_cost kind total k f (Some key) below =
      cost_alone kind k (cost_of_arc key (difference_of_costs total f.start))
      ∙ ap (λ n. if same_arc k (named_key cs key) then n else 0) (number_of_difference total f.start kind below)

  pub closings_costs : (kind : ℕ) (total : List ℕ) (k : CtxArcKey) (fs : List Frame) → StartWithin total fs
      → arc_sum kind k (map (named_arc cs) (rows_of_tellings (closings total fs))) ≡ open_named kind total k fs
  closings_costs kind total k [] all = refl
  closings_costs kind total k (f ∷ fs) all =
      let here = closing_cost kind total k f f.from (starts_head total f fs all) in
      let rest = closings_costs kind total k fs (StartWithin-tail total (f ∷ fs) fs f refl all) in
      let parts = named_costs-append kind k (closing total f) (closings total fs) in
      let sums = open-cons kind total k f fs in
      omega (arith, here, rest, parts, sums)

  closing_calls : (total : List ℕ) (k : CtxArcKey) (f : Frame) (from : Option ArcKey)
      → call_sum k (named_told (option_map_or (λ key. Closed key (difference_of_costs total f.start) ∷ []) from [])) ≡ 0
  closing_calls total k f None = refl
  closing_calls total k f (Some key) =
      calls_alone k (cost_of_arc key (difference_of_costs total f.start))
      ∙ either_zero (same_arc k (named_key cs key)) 0 refl

  pub closings_calls : (total : List ℕ) (k : CtxArcKey) (fs : List Frame)
      → call_sum k (map (named_arc cs) (rows_of_tellings (closings total fs))) ≡ 0
  closings_calls total k [] = refl
  closings_calls total k (f ∷ fs) =
      let here = closing_calls total k f f.from in
      let rest = closings_calls total k fs in
      let parts = named_calls-append k (closing total f) (closings total fs) in
      omega (arith, here, rest, parts)

  pub pushing_costs : (kind : ℕ) (k : CtxArcKey) (p : Option Activation)
      → arc_sum kind k (map (named_arc cs) (rows_of_tellings (pushing p))) ≡ 0
  pushing_costs kind k None = refl
  pushing_costs kind k (Some a) = by a.arc
    where
      by : (from : Option ArcKey) → arc_sum kind k (named_told (option_map_or (λ key. Pushed key ∷ []) from [])) ≡ 0
      by None = refl
      by (Some key) =
          cost_alone kind k (call_of_arc key)
          ∙ either_zero (same_arc k (named_key cs key)) (get_or no_cost kind 0) (zero_replicate event_kinds kind)

  -- the arc of a frame that comes
  abbrev pub arc_named : Option Activation → Option CtxArcKey
  arc_named None = None
  arc_named (Some a) = option_map (named_key cs) a.arc

  pub pushing_calls : (k : CtxArcKey) (p : Option Activation)
      → call_sum k (map (named_arc cs) (rows_of_tellings (pushing p))) ≡ (if is_arc k (arc_named p) then 1 else 0)
  pushing_calls k None = refl
  pushing_calls k (Some a) = by a.arc
    where
      by : (from : Option ArcKey) → call_sum k (named_told (option_map_or (λ key. Pushed key ∷ []) from []))
          ≡ (if is_arc k (option_map (named_key cs) from) then 1 else 0)
      by None = refl
      by (Some key) = calls_alone k (call_of_arc key)
