-- A watch once a thread is made ready.
use Rattle.std.proofs.Common.{◌≡◌, ◌≢◌, ◌⊎◌, inl, inr, ℕ, zero, suc, ◌+◌, ◌<◌, Bool, true, false, ◌||◌, ◌==◌, List, []}
use Rattle.std.proofs.Common.{◌∷◌, ◌++◌, Option, None, Some, get_or, length, map}
use Rattle.std.proofs.Common.{take, refl, sym, ap, subst, ◌∙◌, arith}
use Rattle.std.proofs.Common.{Err, Ok, OnErr, Result, if◌then◌else◌}
use Rattle.std.specs.Prelude.{slice_set}
use Rattle.std.specs.List.{AllByRecursion, list_any}
use Rattle.std.proofs.lemmas.Bool.{eq-eqb, or_parts}
use Rattle.std.proofs.lemmas.List.{map-append}
use Rattle.event_costs.specs.declared.numbers.FuncId.{FuncId}
use Rattle.event_costs.specs.declared.numbers.ThreadNo.{ThreadNo}
use Rattle.sym_map.specs.SymbolMap.{SymbolMap, place_of}
use Rattle.shadow_stack.specs.Stacks.{root}
use Rattle.recorder.specs.Laws.{AreApart, IsIn}
use Rattle.ctx_costs.proofs.Others.{any-map, number_is, swapped, true_false}
use Rattle.contexts.specs.Contexts.{Context, context, same_context, has_context, number, with_context, AreDistinct, Held}
use Rattle.ctx_rows.specs.States.{CtxState, Track, after_ready, first_track, is_track_of, knows, with_started}
use Rattle.ctx_costs.specs.inner.Tracks.{Book, HasBegun, IsFramed, IsKept, IsReadyFor, IsRoomy, IsSound, IsWatching}
use Rattle.ctx_costs.specs.inner.Tracks.{track_of}
use Rattle.ctx_costs.proofs.SummedLemmas.{begun_summed}
use Rattle.ctx_costs.proofs.WatchLemmas.{all_more, all_set, all_weaker, kept_more}

abbrev pub threads_of : List Book → List ThreadNo
threads_of books = map (λ (b : Book). b.thread) books

abbrev pub is_there : ThreadNo → List Book → Bool
is_there thread books = list_any (λ (b : Book). thread.0 == b.thread.0) books

take_none : (n : ℕ) → take {A = ℕ} n [] ≡ []
take_none zero = refl
take_none (suc n) = refl

take_one : (n : ℕ) (x : ℕ) → take (n + 1) (x ∷ []) ≡ x ∷ []
take_one n x =
    let more : suc n ≡ n + 1 = omega arith in
    subst (λ m. take m (x ∷ []) ≡ x ∷ []) more (ap (λ ys. x ∷ ys) (take_none n))

pub root_context : (callers : ℕ) (syms : SymbolMap) (pc : ℕ)
    → context callers (root syms pc) ≡ (place_of syms pc).func.0 ∷ []
root_context callers syms pc = take_one callers (place_of syms pc).func.0

-- ---- a thread that begins

begun_sound : (callers : ℕ) (cs : List Context) (thread : ThreadNo) (func : FuncId)
    → IsSound callers (with_context cs (func.0 ∷ [])) (first_track thread func (number cs (func.0 ∷ [])))
begun_sound callers cs thread func = record {
  sums = begun_summed thread func (number cs (func.0 ∷ []));
  numbered = (number_is cs (func.0 ∷ []) ∙ ap (λ (c : Context). Some c) (sym (take_one callers func.0)), tt);
  lines = λ place there. absurd (true_false (sym there));
  arcs = λ arc there. absurd (true_false (sym there));
}

-- ---- threads apart

unknown_apart : (books : List Book) (thread : ThreadNo) → is_there thread books ≡ false → (other : ThreadNo)
    → IsIn (threads_of books) other → other.0 ≢ thread.0
unknown_apart [] thread none other there = elim there [ ]
unknown_apart (b ∷ books) thread none other (inl is) = λ same.
    let alike = eq-eqb thread.0 b.thread.0 (sym (ap (λ (t : ThreadNo). t.0) is ∙ same)) in
    true_false (sym alike ∙ (or_parts (thread.0 == b.thread.0) (is_there thread books) none).0)
unknown_apart (b ∷ books) thread none other (inr later) =
    unknown_apart books thread (or_parts (thread.0 == b.thread.0) (is_there thread books) none).1 other later

in_more : (books : List Book) (book : Book) (other : ThreadNo) → IsIn (threads_of (books ++ book ∷ [])) other
    → IsIn (threads_of books) other ⊎ (book.thread ≡ other)
in_more [] book other (inl is) = inr is
in_more [] book other (inr none) = elim none [ ]
in_more (b ∷ books) book other (inl is) = inl (inl is)
in_more (b ∷ books) book other (inr later) =
    elim (in_more books book other later) as (λ _. IsIn (threads_of (b ∷ books)) other ⊎ (book.thread ≡ other)) [
      | inl before ↦ inl (inr before)
      | inr is ↦ inr is
    ]

apart_more : (books : List Book) (book : Book) → AreApart (threads_of books)
    → ((other : ThreadNo) → IsIn (threads_of books) other → other.0 ≢ book.thread.0)
    → AreApart (threads_of (books ++ book ∷ []))
apart_more [] book apart new = ((λ other there. elim there [ ]), tt)
apart_more (b ∷ books) book apart new = (
  (λ other there. first other (in_more books book other there)),
  apart_more books book apart.1 (λ other there. new other (inr there)),
)
  where
    first : (other : ThreadNo) → IsIn (threads_of books) other ⊎ (book.thread ≡ other) → b.thread.0 ≢ other.0
    first other (inl before) = apart.0 other before
    first other (inr is) = λ same. new b.thread (inl refl) (same ∙ sym (ap (λ (t : ThreadNo). t.0) is))

-- a track in another's place
pub threads_set : (books : List Book) (place : ℕ) (new : Book)
    → ((d : Book) → new.thread ≡ (get_or books place d).thread)
    → threads_of (slice_set books place new) ≡ threads_of books
threads_set [] place new same = refl
threads_set (b ∷ books) zero new same = ap (λ (t : ThreadNo). t ∷ threads_of books) (same b)
threads_set (b ∷ books) (suc place) new same =
    ap (λ (ts : List ThreadNo). b.thread ∷ ts) (threads_set books place new same)

pub tracks_set : (books : List Book) (place : ℕ) (new : Book)
    → ((d : Book) → track_of new ≡ track_of (get_or books place d))
    → map track_of (slice_set books place new) ≡ map track_of books
tracks_set [] place new same = refl
tracks_set (b ∷ books) zero new same = ap (λ (t : Track). t ∷ map track_of books) (same b)
tracks_set (b ∷ books) (suc place) new same =
    ap (λ (ts : List Track). track_of b ∷ ts) (tracks_set books place new same)

thread_there : (books : List Book) (place : ℕ) (d : Book) → place < length books
    → IsIn (threads_of books) (get_or books place d).thread
thread_there [] place d less = absurd (omega (arith, less))
thread_there (b ∷ books) zero d less = inl refl
thread_there (b ∷ books) (suc place) d less = inr (thread_there books place d (omega (arith, less)))

pub there_is : (books : List Book) (thread : ThreadNo) (place : ℕ) (d : Book) → place < length books
    → (get_or books place d).thread.0 ≡ thread.0 → is_there thread books ≡ true
there_is [] thread place d less is = absurd (omega (arith, less))
there_is (b ∷ books) thread zero d less is =
    ap (λ c. c || is_there thread books) (eq-eqb thread.0 b.thread.0 (sym is))
there_is (b ∷ books) thread (suc place) d less is =
    later (thread.0 == b.thread.0) (is_there thread books) (there_is books thread place d (omega (arith, less)) is)
  where
    later : (a c : Bool) → c ≡ true → a || c ≡ true
    later true c is_ = refl
    later false c is_ = is_

-- ---- room where a thread is ready

same_thread : (a b : ThreadNo) → ◌≡◌ {A = Option ThreadNo} (Some a) (Some b) → a.0 ≡ b.0
same_thread a b is = let e : a ≡ b = cc in ap (λ (t : ThreadNo). t.0) e

none_ready : (books : List Book) (thread : ThreadNo)
    → ((other : ThreadNo) → IsIn (threads_of books) other → other.0 ≢ thread.0)
    → AllByRecursion (IsReadyFor (Some thread)) books
none_ready [] thread apart = tt
none_ready (b ∷ books) thread apart = (
  (λ is. absurd (apart b.thread (inl refl) (sym (same_thread thread b.thread is)))),
  none_ready books thread (λ other there. apart other (inr there)),
)

ready_set : (books : List Book) (place : ℕ) (new : Book) (thread : ThreadNo) (d : Book) → AreApart (threads_of books)
    → place < length books → (get_or books place d).thread.0 ≡ thread.0 → IsRoomy new
    → AllByRecursion (IsReadyFor (Some thread)) (slice_set books place new)
ready_set [] place new thread d apart less is roomy = tt
ready_set (b ∷ books) zero new thread d apart less is roomy = (
  (λ ready. roomy),
  none_ready books thread (λ other there same. apart.0 other there (is ∙ sym same)),
)
ready_set (b ∷ books) (suc place) new thread d apart less is roomy = (
  (λ ready.
      absurd (apart.0 (get_or books place d).thread (thread_there books place d (omega (arith, less)))
      (sym (same_thread thread b.thread ready) ∙ sym is))),
  ready_set books place new thread d apart.1 (omega (arith, less)) is roomy,
)

pub none_is_ready : (books : List Book) → AllByRecursion (IsReadyFor None) books
none_is_ready [] = tt
none_is_ready (b ∷ books) = ((λ is. absurd (cc)), none_is_ready books)

-- ---- contexts

distinct_more : (cs : List Context) (c : Context) → AreDistinct cs → has_context cs c ≡ false
    → AreDistinct (cs ++ c ∷ [])
distinct_more [] c distinct none = (refl, tt)
distinct_more (d ∷ cs) c distinct none = (
  none_more cs d distinct.0 (swapped d c ∙ (or_parts (same_context c d) (has_context cs c) none).0),
  distinct_more cs c distinct.1 (or_parts (same_context c d) (has_context cs c) none).1,
)
  where
    none_more : (ds : List Context) (a : Context) → has_context ds a ≡ false → same_context a c ≡ false
        → has_context (ds ++ c ∷ []) a ≡ false
    none_more [] a none_ apart = ap (λ b. b || false) apart
    none_more (e ∷ ds) a none_ apart =
        let parts = or_parts (same_context a e) (has_context ds a) none_ in
        λ i. parts.0 i || none_more ds a parts.1 apart i

pub distinct_with : (cs : List Context) (c : Context) → AreDistinct cs → AreDistinct (with_context cs c)
distinct_with cs c distinct = by (has_context cs c) refl
  where
    by : (b : Bool) → has_context cs c ≡ b → AreDistinct (if b then cs else cs ++ c ∷ [])
    by true is = distinct
    by false is = distinct_more cs c distinct is

pub filled_with : (cs : List Context) (c : Context) → 0 < length c → AllByRecursion (λ (d : Context). 0 < length d) cs
    → AllByRecursion (λ (d : Context). 0 < length d) (with_context cs c)
filled_with cs c some filled = by (has_context cs c)
  where
    by : (b : Bool) → AllByRecursion (λ (d : Context). 0 < length d) (if b then cs else cs ++ c ∷ [])
    by true = filled
    by false = all_more (λ (d : Context). 0 < length d) cs c filled some

-- ---- the watch

-- once there is room for contexts
pub reserved_watch : (callers : ℕ) (held now : Held) (books : List Book) (ready : Option ThreadNo)
    → now.contexts ≡ held.contexts → now.room ≡ 2 → IsWatching callers held books ready
    → IsWatching callers now books ready
reserved_watch callers held now books ready contexts room watching = record {
  few = watching.few;
  each = subst (λ (cs : List Context). AllByRecursion (IsKept callers cs) books) (sym contexts) watching.each;
  apart = watching.apart;
  distinct = subst AreDistinct (sym contexts) watching.distinct;
  filled = subst (λ (cs : List Context). AllByRecursion (λ (d : Context). 0 < length d) cs)
      (sym contexts) watching.filled;
  roomy = watching.roomy;
  room = λ some. omega (arith, room);
}

module _ (callers : ℕ) (held now : Held) (books : List Book) (ready : Option ThreadNo)
    (watching : IsWatching callers held books ready) where
  -- a thread that begins
  module _ (thread : ThreadNo) (func : FuncId) (more : List Book) (none : is_there thread books ≡ false)
      (room : held.room ≡ 2) (begins : HasBegun thread func books held more now) where
    begun_kept : IsKept callers (with_context held.contexts (func.0 ∷ [])) begins.book
    begun_kept = record {
      framed = begins.framed;
      sound =
          subst (λ (t : Track). IsSound callers (with_context held.contexts (func.0 ∷ [])) t) (sym begins.track)
          (begun_sound callers held.contexts thread func);
    }

    kept_now : AllByRecursion (IsKept callers now.contexts) (books ++ begins.book ∷ [])
    kept_now =
        subst (λ (cs : List Context). AllByRecursion (IsKept callers cs) (books ++ begins.book ∷ []))
        (sym begins.contexts)
        (all_more (IsKept callers (with_context held.contexts (func.0 ∷ []))) books begins.book
        (all_weaker (IsKept callers held.contexts) (IsKept callers (with_context held.contexts (func.0 ∷ []))) books
        (λ b kept. kept_more callers held.contexts (func.0 ∷ []) b kept) watching.each) begun_kept)

    own_thread : begins.book.thread.0 ≡ thread.0
    own_thread = ap (λ (t : Track). t.thread.0) begins.track

    apart_now : AreApart (threads_of (books ++ begins.book ∷ []))
    apart_now =
        apart_more books begins.book watching.apart
        (λ other there same. unknown_apart books thread none other there (same ∙ own_thread))

    all_now : IsWatching callers now (books ++ begins.book ∷ []) (Some thread)
    all_now = record {
      few = watching.few;
      each = kept_now;
      apart = apart_now;
      distinct = subst AreDistinct (sym begins.contexts) (distinct_with held.contexts (func.0 ∷ []) watching.distinct);
      filled =
          subst (λ (cs : List Context). AllByRecursion (λ (d : Context). 0 < length d) cs) (sym begins.contexts)
          (filled_with held.contexts (func.0 ∷ []) (omega arith) watching.filled);
      roomy =
          all_more (IsReadyFor (Some thread)) books begins.book
          (none_ready books thread (unknown_apart books thread none)) (λ is. begins.roomy);
      room = λ some. omega (arith, begins.room, room);
    }

    pub begun_watch : IsWatching callers now more (Some thread)
    begun_watch =
        subst (λ (bs : List Book). IsWatching callers now bs (Some thread)) (sym begins.all) all_now

    pub begun_state : (syms : SymbolMap) (pc : ℕ) → func ≡ (place_of syms pc).func
        → ◌≡◌ {A = CtxState}
        (record { callers = callers; contexts = now.contexts; tracks = map track_of more; ready = Some thread })
        (after_ready (record {
          callers = callers;
          contexts = held.contexts;
          tracks = map track_of books;
          ready = ready;
        }) thread pc syms)
    begun_state syms pc is =
        let w : CtxState
        = record { callers = callers; contexts = held.contexts; tracks = map track_of books; ready = ready } in
        let unknown : knows w thread ≡ false = any-map (is_track_of thread) track_of books ∙ none in
        let first : func.0 ∷ [] ≡ context callers (root syms pc)
        = ap (λ (f : FuncId). f.0 ∷ []) is ∙ sym (root_context callers syms pc) in
        let contexts = begins.contexts ∙ ap (with_context held.contexts) first in
        let tracks : map track_of more ≡ map track_of books
        ++ first_track thread (place_of syms pc).func (number held.contexts (context callers (root syms pc))) ∷ []
        = ap (map track_of) begins.all ∙ map-append track_of books (begins.book ∷ [])
        ∙ ap (λ (t : Track). map track_of books ++ t ∷ []) begins.track
        ∙ (λ i. map track_of books ++ first_track thread (is i) (number held.contexts (first i)) ∷ []) in
        (λ i. record { callers = callers; contexts = contexts i; tracks = tracks i; ready = Some thread })
        ∙ ap (λ k. record (if k then w else with_started syms w thread pc) { ready = Some thread }) (sym unknown)

  -- a thread that is known
  module _ (thread : ThreadNo) (place : ℕ) (new : Book) (less : place < length books)
      (is : (d : Book) → (get_or books place d).thread.0 ≡ thread.0)
      (track : (d : Book) → track_of new ≡ track_of (get_or books place d))
      (framed : (d : Book) → IsFramed (get_or books place d) → IsFramed new)
      (contexts : now.contexts ≡ held.contexts) (room : now.room ≡ 2) where
    kept_at : (bs : List Book) (k : ℕ) → AllByRecursion (IsKept callers held.contexts) bs → k < length bs
        → IsKept callers held.contexts (get_or bs k new)
    kept_at [] k all less_ = absurd (omega (arith, less_))
    kept_at (b ∷ bs) zero all less_ = all.0
    kept_at (b ∷ bs) (suc k) all less_ = kept_at bs k all.1 (omega (arith, less_))

    new_kept : IsKept callers held.contexts new
    new_kept =
        let was = kept_at books place watching.each less in
        record {
          framed = framed new was.framed;
          sound = subst (λ (t : Track). IsSound callers held.contexts t) (sym (track new)) was.sound;
        }

    all_kept : AllByRecursion (IsKept callers now.contexts) (slice_set books place new)
    all_kept =
        subst (λ (cs : List Context). AllByRecursion (IsKept callers cs) (slice_set books place new)) (sym contexts)
        (all_set (IsKept callers held.contexts) books place new watching.each new_kept)

    threads_now : AreApart (threads_of (slice_set books place new))
    threads_now =
        subst AreApart (sym (threads_set books place new (λ d. ap (λ (t : Track). t.thread) (track d)))) watching.apart

    pub known_watch : (r : Option ThreadNo) → AllByRecursion (IsReadyFor r) (slice_set books place new)
        → IsWatching callers now (slice_set books place new) r
    known_watch r roomy = record {
      few = watching.few;
      each = all_kept;
      apart = threads_now;
      distinct = subst AreDistinct (sym contexts) watching.distinct;
      filled =
          subst (λ (cs : List Context). AllByRecursion (λ (d : Context). 0 < length d) cs)
          (sym contexts) watching.filled;
      roomy = roomy;
      room = λ some. omega (arith, room);
    }

    pub ready_watch : IsRoomy new → IsWatching callers now (slice_set books place new) (Some thread)
    ready_watch roomy =
        known_watch (Some thread) (ready_set books place new thread new watching.apart less (is new) roomy)

    -- where making room failed, what had room has it still
    pub still_watch : ((d : Book) → IsRoomy (get_or books place d) → IsRoomy new)
        → IsWatching callers now (slice_set books place new) ready
    still_watch room_kept =
        known_watch ready (all_set (IsReadyFor ready) books place new watching.roomy still)
      where
        ready_at : (bs : List Book) (k : ℕ) → AllByRecursion (IsReadyFor ready) bs → k < length bs
            → IsReadyFor ready (get_or bs k new)
        ready_at [] k all less_ = absurd (omega (arith, less_))
        ready_at (b ∷ bs) zero all less_ = all.0
        ready_at (b ∷ bs) (suc k) all less_ = ready_at bs k all.1 (omega (arith, less_))

        still : IsReadyFor ready new
        still = λ own. room_kept new (ready_at books place watching.roomy less
            (own ∙ ap (λ (t : Track). Some t.thread) (track new)))

    pub known_state : (syms : SymbolMap) (pc : ℕ)
        → ◌≡◌ {A = CtxState}
        (record {
          callers = callers;
          contexts = now.contexts;
          tracks = map track_of (slice_set books place new);
          ready = Some thread;
        })
        (after_ready (record {
          callers = callers;
          contexts = held.contexts;
          tracks = map track_of books;
          ready = ready;
        }) thread pc syms)
    known_state syms pc =
        let w : CtxState
        = record { callers = callers; contexts = held.contexts; tracks = map track_of books; ready = ready } in
        let known : knows w thread ≡ true
        = any-map (is_track_of thread) track_of books ∙ there_is books thread place new less (is new) in
        let tracks = tracks_set books place new track in
        (λ i. record { callers = callers; contexts = contexts i; tracks = tracks i; ready = Some thread })
        ∙ ap (λ k. record (if k then w else with_started syms w thread pc) { ready = Some thread }) (sym known)

    pub still_state : ◌≡◌ {A = CtxState}
        (record {
          callers = callers;
          contexts = now.contexts;
          tracks = map track_of (slice_set books place new);
          ready = ready;
        })
        (record { callers = callers; contexts = held.contexts; tracks = map track_of books; ready = ready })
    still_state =
        let tracks = tracks_set books place new track in
        λ i. record { callers = callers; contexts = contexts i; tracks = tracks i; ready = ready }

pub given_err : {V E : Type 0} (r : Result V E) (P : Type 0) → P → OnErr r P
given_err (Ok v) P holds = tt
given_err (Err e) P holds = holds
