-- Frames by the numbers of their contexts.
use Rattle.std.proofs.Common.{◌≡◌, ℕ, zero, suc, ◌+◌, ◌-◌, ◌<◌, ◌≤◌, true, false, List, [], ◌∷◌, ◌++◌, Option, None, Some}
use Rattle.std.proofs.Common.{drop, get_or, is_some, length, reverse, take, refl, sym, ap, ◌∙◌, arith}
use Rattle.std.specs.Option.{option_map, option_map_or}
use Rattle.std.proofs.lemmas.List.{length-reverse, length-drop, reverse-append, take-append-drop}
use Rattle.std.proofs.lemmas.List.{take_all, take_more}
use Rattle.std.proofs.Math.Seq.{drop-append_seam}
use Rattle.event_costs.specs.Arcs.{Closed}
use Rattle.event_costs.specs.Costs.{difference_of_costs}
use Rattle.event_costs.specs.Keys.{ArcKey}
use Rattle.event_costs.specs.declared.numbers.FuncId.{FuncId}
use Rattle.shadow_stack.specs.Frames.{closing, restarted_frames}
use Rattle.shadow_stack.specs.declared.frame.Frame.{Frame}
use Rattle.ctx_rows.specs.States.{top_number}
use Rattle.ctx_costs.specs.inner.Frames.{AreOpen, arc_between, first_number, is_any, numbered_frame}
use Rattle.ctx_costs.specs.inner.Frames.{numbered_frames, numbers_left, top_arc}

pub none_numbered : (fs : List Frame) → numbered_frames fs [] ≡ []
none_numbered [] = refl
none_numbered (f ∷ fs) = refl

pub drop_numbered : (k : ℕ) (fs : List Frame) (ns : List FuncId)
    → drop k (numbered_frames fs ns) ≡ numbered_frames (drop k fs) (drop k ns)
drop_numbered zero fs ns = refl
drop_numbered (suc k) [] ns = refl
drop_numbered (suc k) (f ∷ fs) [] = sym (none_numbered (drop k fs))
drop_numbered (suc k) (f ∷ fs) (n ∷ ns) = drop_numbered k fs ns

pub open_drop : (k : ℕ) (fs : List Frame) (ns : List FuncId) → AreOpen fs ns → AreOpen (drop k fs) (drop k ns)
open_drop zero fs ns all = all
open_drop (suc k) [] [] all = tt
open_drop (suc k) [] (n ∷ ns) all = absurd all
open_drop (suc k) (f ∷ fs) [] all = absurd all
open_drop (suc k) (f ∷ fs) (n ∷ ns) all = open_drop k fs ns all.1

pub open_many : (fs : List Frame) (ns : List FuncId) → AreOpen fs ns → length fs ≡ length ns
open_many [] [] all = refl
open_many [] (n ∷ ns) all = absurd all
open_many (f ∷ fs) [] all = absurd all
open_many (f ∷ fs) (n ∷ ns) all = ap suc (open_many fs ns all.1)

pub restarted_numbered : (total : List ℕ) (fs : List Frame) (ns : List FuncId)
    → numbered_frames (restarted_frames total fs) ns ≡ restarted_frames total (numbered_frames fs ns)
restarted_numbered total [] ns = refl
restarted_numbered total (f ∷ fs) [] = refl
restarted_numbered total (f ∷ fs) (n ∷ ns) =
    ap (λ (gs : List Frame). record (numbered_frame f n ns) { start = total } ∷ gs) (restarted_numbered total fs ns)

pub open_restarted : (total : List ℕ) (fs : List Frame) (ns : List FuncId) → AreOpen fs ns
    → AreOpen (restarted_frames total fs) ns
open_restarted total [] [] all = tt
open_restarted total [] (n ∷ ns) all = absurd all
open_restarted total (f ∷ fs) [] all = absurd all
open_restarted total (f ∷ fs) (n ∷ ns) all = (all.0, open_restarted total fs ns all.1)

pub top_numbered : (fs : List Frame) (ns : List FuncId) → AreOpen fs ns
    → top_number (numbered_frames fs ns) ≡ first_number ns
top_numbered [] [] all = refl
top_numbered [] (n ∷ ns) all = absurd all
top_numbered (f ∷ fs) [] all = absurd all
top_numbered (f ∷ fs) (n ∷ ns) all = refl

pub some_any : (ns : List FuncId) → 0 < length ns → true ≡ is_any ns
some_any [] some = absurd (omega (arith, some))
some_any (n ∷ ns) some = refl

-- ---- numbers that are kept root first

pub last_taken : (xs : List FuncId) (k : ℕ) (d : FuncId) → k < length xs
    → reverse (take (k + 1) xs) ≡ get_or xs k d ∷ reverse (take k xs)
last_taken xs k d less = ap reverse (take_more xs k d less) ∙ reverse-append (take k xs) (get_or xs k d ∷ [])

pub first_of_all : (xs : List FuncId) (k : ℕ) (d : FuncId) → length xs ≡ k + 1
    → reverse xs ≡ get_or xs k d ∷ reverse (take k xs)
first_of_all xs k d is =
    ap reverse (sym (take_all (k + 1) xs (omega (arith, is)))) ∙ last_taken xs k d (omega (arith, is))

pub left_numbers : {X : Type 0} (k : ℕ) (xs : List X) → k ≤ length xs
    → reverse (take (length xs - k) xs) ≡ drop k (reverse xs)
left_numbers k xs less =
    let m = length xs - k in
    let size : length (reverse (drop m xs)) ≡ k
    = length-reverse (drop m xs) ∙ length-drop m xs ∙ omega (arith, less) in
    sym (ap (λ ys. drop k (reverse ys)) (sym (take-append-drop m xs))
    ∙ ap (drop k) (reverse-append (take m xs) (drop m xs))
    ∙ ap (λ n. drop n (reverse (drop m xs) ++ reverse (take m xs))) (sym size)
    ∙ drop-append_seam (reverse (drop m xs)) (reverse (take m xs)))

-- ---- what is told of frames by their numbers

pub left_some : (arc between : ArcKey) (cost : List ℕ) (ns : List FuncId) → Some between ≡ top_arc arc ns
    → (1 ≤ length ns) × (numbers_left (Closed arc cost) ns ≡ drop 1 ns)
left_some arc between cost [] some = absurd (cc)
left_some arc between cost (n ∷ []) some = absurd (cc)
left_some arc between cost (n ∷ (m ∷ ns)) some = (omega arith, refl)

pub left_none : (arc : ArcKey) (cost : List ℕ) (ns : List FuncId) → None ≡ top_arc arc ns
    → numbers_left (Closed arc cost) ns ≡ ns
left_none arc cost [] none = refl
left_none arc cost (n ∷ []) none = refl
left_none arc cost (n ∷ (m ∷ ns)) none = absurd (cc)

-- the numbers beneath the top one
pub less_one : (arc between : ArcKey) (cost : List ℕ) (xs ys : List FuncId) (k : ℕ)
    → Some between ≡ top_arc arc (reverse xs) → ys ≡ take k xs → k ≡ length xs - 1
    → reverse ys ≡ numbers_left (Closed arc cost) (reverse xs)
less_one arc between cost xs ys k some is left =
    let parts = left_some arc between cost (reverse xs) some in
    ap reverse (is ∙ ap (λ n. take n xs) left)
    ∙ left_numbers 1 xs (omega (arith, length-reverse xs, parts.0)) ∙ sym parts.1

pub few_arcs : (arc : ArcKey) (ns : List FuncId) → length ns < 2 → None ≡ top_arc arc ns
few_arcs arc [] few = refl
few_arcs arc (n ∷ []) few = refl
few_arcs arc (n ∷ (m ∷ ns)) few = absurd (omega (arith, few))

pub top_two : (arc : ArcKey) (xs : List FuncId) (k : ℕ) (n m : FuncId) → length xs ≡ k + 2 → n ≡ get_or xs (k + 1) n
    → m ≡ get_or xs k m → Some (arc_between arc m n) ≡ top_arc arc (reverse xs)
top_two arc xs k n m size top beneath =
    let all : reverse xs ≡ n ∷ (m ∷ reverse (take k xs))
    = first_of_all xs (k + 1) n (omega (arith, size))
    ∙ (λ i. sym top i ∷ last_taken xs k m (omega (arith, size)) i)
    ∙ (λ i. n ∷ (sym beneath i ∷ reverse (take k xs))) in
    sym (ap (top_arc arc) all)

-- a frame on others was entered by an arc, and the lowest by none
pub some_from : (f : Frame) → is_some f.from ≡ true → (arc : ArcKey) × (f.from ≡ Some arc)
some_from f some = by f.from refl some
  where
    by : (from : Option ArcKey) → f.from ≡ from → is_some from ≡ true → (arc : ArcKey) × (f.from ≡ Some arc)
    by None is some_ = absurd (cc)
    by (Some arc) is some_ = (arc, is)

pub none_from : (f : Frame) → is_some f.from ≡ false → f.from ≡ None
none_from f none = by f.from refl none
  where
    by : (from : Option ArcKey) → f.from ≡ from → is_some from ≡ false → f.from ≡ None
    by None is none_ = is
    by (Some arc) is none_ = absurd (cc)

pub closing_by : (total : List ℕ) (f : Frame) (from : Option ArcKey) → f.from ≡ from
    → closing total f ≡ option_map_or (λ arc. Closed arc (difference_of_costs total f.start) ∷ []) from []
closing_by total f from is =
    ap (λ o. option_map_or (λ arc. Closed arc (difference_of_costs total f.start) ∷ []) o []) is

pub closing_numbered : (total : List ℕ) (f : Frame) (n : FuncId) (ns : List FuncId) (from : Option ArcKey) → f.from ≡ from
    → closing total (numbered_frame f n ns) ≡ option_map_or (λ arc. Closed arc (difference_of_costs total f.start) ∷ [])
    (option_map (λ arc. arc_between arc (first_number ns) n) from) []
closing_numbered total f n ns from is =
    ap (λ o. option_map_or (λ arc. Closed arc (difference_of_costs total f.start) ∷ [])
    (option_map (λ arc. arc_between arc (first_number ns) n) o) []) is
