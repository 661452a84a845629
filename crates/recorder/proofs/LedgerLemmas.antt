-- The books of a recorder after one of them changed, or one more was begun.
use Rattle.std.proofs.Common.{◌≡◌, ◌≢◌, ◌==◌, if◌then◌else◌, ℕ, zero, suc, ◌+◌, ◌<◌, ◌≤◌, Bool, true, false, cond, List}
use Rattle.std.proofs.Common.{[], ◌∷◌, ◌++◌, length, map, set, get_or, Option, None, sum_by, refl, sym, ap, subst, ◌∙◌}
use Rattle.std.proofs.Common.{◌⊎◌, inl, inr, arith}
use Rattle.std.specs.List.{All, list_any}
use Rattle.event_costs.specs.Costs.{no_cost}
use Rattle.sym_map.specs.SymbolMap.{place_of, SymbolMap}
use Rattle.shadow_stack.specs.declared.frame.Kind.TheVariants.{Root}
use Rattle.recorder.specs.Notes as notes
use Rattle.std.proofs.lemmas.Bool.Decides.{eqb_tells}
use Rattle.std.proofs.lemmas.List.{get_or-map, get_or-set_same, get_or-set_other, get_or_append_left, length-map}
use Rattle.std.proofs.lemmas.List.{length-set, map-set, map-append, length-append}
use Rattle.std.proofs.lemmas.List.Sums.{get_or-le-sum_by, sum_by-append, sum_by-cons, sum_by-set}
use Rattle.std.proofs.Math.Seq.{get_or-append_seam, map-set_same}
use Rattle.event_costs.specs.declared.numbers.ThreadNo.{ThreadNo}
use Rattle.shadow_stack.specs.Arenas.{AreApart, frames, frames_in, is_in, is_in_chain, keys_in, LeavesOthers, LiesIn}
use Rattle.shadow_stack.specs.Arenas.{Link, links, StillLies}
use Rattle.shadow_stack.specs.declared.arena.Head.{Head}
use Rattle.shadow_stack.specs.Arenas.{Node}
use Rattle.recorder.proofs.Others.{ChangesChainOnly-refl, leaves_others}
use Rattle.arc_costs.specs.Contents.{Contents}
use Rattle.arc_costs.specs.Rows.{ArcRow, LineRow}
use Rattle.recorder.specs.Accounts.{account, Account, is_ledger_of, ledger_in, Ledger, knows, live, live_in, nobody, Recording}
use Rattle.recorder.specs.inner.Places.{IsAt, ledger_at}
use Rattle.recorder.proofs.RecordingLemmas.{any-map, IsUpdated, thread_there}
use Rattle.recorder.specs.inner.Books.{account_in, AreSoundBooks, entered_in, IsSoundBook, IsSound, ledger_of}
use Rattle.recorder.specs.declared.book.Book.{Book}
use Rattle.recorder.proofs.BookLemmas.{depth_is, sound_started}
use Rattle.recorder.proofs.EnteredLemmas.{live_frames}

abbrev Slots : Type 0
Slots = List (Option Node)

account_same : (s t : Slots) (b : Book) → links t b.head ≡ links s b.head → account_in t b ≡ account_in s b
account_same s t b same = ap (λ (ls : List Link). record (account_in s b) { frames = frames_in ls }) same

still_kept : (s t : Slots) (b : Book) → IsSoundBook s b → LiesIn t b.head → links t b.head ≡ links s b.head → IsSoundBook t b
still_kept s t b kept lies same = record {
  lies = lies;
  sound = subst (λ (a : Account). IsSound a) (sym (account_same s t b same)) kept.sound;
}

ledger_same : (s t : Slots) (b : Book) → links t b.head ≡ links s b.head → ledger_of t b ≡ ledger_of s b
ledger_same s t b same =
    ap (λ (a : Account). record { account = a; line_room = b.rows.line_room; arc_room = b.rows.arc_room })
    (account_same s t b same)

apart_back : (s : Slots) (head other : Head) → AreApart s head other → AreApart s other head
apart_back s head other apart key inside = by (is_in_chain s head key) refl
  where
    both : (b : Bool) → b ≡ true → b ≡ false → ⊥
    both true yes_ no_ = absurd (cc)
    both false yes_ no_ = absurd (cc)

    by : (b : Bool) → is_in_chain s head key ≡ b → is_in_chain s head key ≡ false
    by true is = absurd (both (is_in_chain s other key) inside (apart key is))
    by false is = is

apart_on : (s t : Slots) (head other : Head) → links t head ≡ links s head → links t other ≡ links s other
    → AreApart s head other → AreApart t head other
apart_on s t head other one two apart key inside =
    ap (λ (ls : List Link). is_in key (keys_in ls)) two
    ∙ apart key (sym (ap (λ (ls : List Link). is_in key (keys_in ls)) one) ∙ inside)

get_or_any : {X : Type 0} (xs : List X) (i : ℕ) (x y : X) → i < length xs → get_or xs i x ≡ get_or xs i y
get_or_any [] i x y less = absurd (omega (arith, less))
get_or_any (z ∷ xs) zero x y less = refl
get_or_any (z ∷ xs) (suc i) x y less = get_or_any xs i x y (omega (arith, less))

map_alike : {X Y : Type 0} (f g : X → Y) (xs : List X)
    → ((j : ℕ) (e : X) → j < length xs → f (get_or xs j e) ≡ g (get_or xs j e)) → map f xs ≡ map g xs
map_alike f g [] alike = refl
map_alike f g (x ∷ xs) alike =
    (λ i. alike 0 x (omega arith) i ∷ map_alike f g xs (λ j e less. alike (suc j) e (omega (arith, less))) i)

set_alike : {X Y : Type 0} (f g : X → Y) (xs : List X) (place : ℕ) (y : Y)
    → ((j : ℕ) (e : X) → j < length xs → j ≢ place → f (get_or xs j e) ≡ g (get_or xs j e))
    → set (map f xs) place y ≡ set (map g xs) place y
set_alike f g [] place y alike = refl
set_alike f g (x ∷ xs) zero y alike =
    ap (λ ys. y ∷ ys) (map_alike f g xs (λ j e less. alike (suc j) e (omega (arith, less)) (omega arith)))
set_alike f g (x ∷ xs) (suc place) y alike =
    (λ i. alike 0 x (omega arith) (omega arith) i ∷ set_alike f g xs place y
    (λ j e less differs. alike (suc j) e (omega (arith, less)) (λ is. differs (omega (arith, is)))) i)

nat_cases : (i n : ℕ) → (i < n) ⊎ (n ≤ i)
nat_cases i zero = inr (omega arith)
nat_cases zero (suc n) = inl (omega arith)
nat_cases (suc i) (suc n) = by (nat_cases i n)
  where
    by : (i < n) ⊎ (n ≤ i) → (suc i < suc n) ⊎ (suc n ≤ suc i)
    by (inl less) = inl (omega (arith, less))
    by (inr more) = inr (omega (arith, more))

-- what the others see of a change
module _ (s t : Slots) (started : List ThreadNo) (books : List Book) (count place : ℕ) (d new : Book)
    (all : AreSoundBooks s started books count) (within : place < length books) (kept : IsSoundBook t new)
    (others : LeavesOthers s (get_or books place d).head t new.head) where
  other_still : (j : ℕ) (e : Book) → j < length books → j ≢ place → StillLies s t new.head (get_or books j e).head
  other_still j e less differs =
      others (get_or books j e).head (all.each j e less).lies
      (subst (λ (b : Book). AreApart s b.head (get_or books j e).head) (get_or_any books place e d within)
      (all.apart place j e within less (λ is. differs (sym is))))

  now_here : (j : ℕ) (e : Book) → j ≡ place → get_or (set books place new) j e ≡ new
  now_here j e is = ap (λ k. get_or (set books place new) k e) is ∙ get_or-set_same books place new e within

  now_there : (j : ℕ) (e : Book) → j ≢ place → get_or (set books place new) j e ≡ get_or books j e
  now_there j e differs = get_or-set_other books place j new e differs

  within_old : (j : ℕ) → j < length (set books place new) → j < length books
  within_old j less = omega (arith, less, length-set books place new)

  each_now : All (IsSoundBook t) (set books place new)
  each_now j e less = by (eqb_tells j place)
    where
      by : ((j == place ≡ true) × (j ≡ place)) ⊎ ((j == place ≡ false) × (j ≢ place))
          → IsSoundBook t (get_or (set books place new) j e)
      by (inl same) = subst (λ (b : Book). IsSoundBook t b) (sym (now_here j e same.1)) kept
      by (inr differs) =
          let still = other_still j e (within_old j less) differs.1 in
          subst (λ (b : Book). IsSoundBook t b) (sym (now_there j e differs.1))
          (still_kept s t (get_or books j e) (all.each j e (within_old j less)) still.lies still.links)

  apart_now : (i j : ℕ) (e : Book) → i < length (set books place new) → j < length (set books place new) → i ≢ j
      → AreApart t (get_or (set books place new) i e).head (get_or (set books place new) j e).head
  apart_now i j e less more differs = by (eqb_tells i place) (eqb_tells j place)
    where
      Says : ℕ → Type 0
      Says k = ((k == place ≡ true) × (k ≡ place)) ⊎ ((k == place ≡ false) × (k ≢ place))

      by : Says i → Says j → AreApart t (get_or (set books place new) i e).head (get_or (set books place new) j e).head
      by (inl one) (inl two) = absurd (differs (one.1 ∙ sym two.1))
      by (inl one) (inr two) =
          subst (λ (b : Book). AreApart t b.head (get_or (set books place new) j e).head) (sym (now_here i e one.1))
          (subst (λ (b : Book). AreApart t new.head b.head) (sym (now_there j e two.1))
          (other_still j e (within_old j more) two.1).apart)
      by (inr one) (inl two) =
          subst (λ (b : Book). AreApart t (get_or (set books place new) i e).head b.head) (sym (now_here j e two.1))
          (subst (λ (b : Book). AreApart t b.head new.head) (sym (now_there i e one.1))
          (apart_back t new.head (get_or books i e).head (other_still i e (within_old i less) one.1).apart))
      by (inr one) (inr two) =
          subst (λ (b : Book). AreApart t b.head (get_or (set books place new) j e).head) (sym (now_there i e one.1))
          (subst (λ (b : Book). AreApart t (get_or books i e).head b.head) (sym (now_there j e two.1))
          (apart_on s t (get_or books i e).head (get_or books j e).head
          (other_still i e (within_old i less) one.1).links (other_still j e (within_old j more) two.1).links
          (all.apart i j e (within_old i less) (within_old j more) differs)))

  pub replaced : new.thread ≡ (get_or books place d).thread → (now : ℕ) → now + entered_in (get_or books place d)
      ≡ count + entered_in new → now ≤ 4194304 → AreSoundBooks t started (set books place new) now
  replaced thread now sums few = record {
    each = each_now;
    apart = apart_now;
    threads = all.threads ∙ sym (map-set_same (λ (b : Book). b.thread) books place new d thread);
    live = let total = sum_by-set entered_in books place new d within in omega (arith, total, sums, all.live);
    few = few;
  }

  pub replaced_view : map (ledger_of t) (set books place new) ≡ set (map (ledger_of s) books) place (ledger_of t new)
  replaced_view =
      map-set (ledger_of t) books place new
      ∙ set_alike (ledger_of t) (ledger_of s) books place (ledger_of t new)
      (λ j e less differs. ledger_same s t (get_or books j e) (other_still j e less differs).links)

-- one book more
module _ (s t : Slots) (started : List ThreadNo) (books : List Book) (count : ℕ) (new : Book)
    (all : AreSoundBooks s started books count) (kept : IsSoundBook t new)
    (others : (other : Head) → LiesIn s other → StillLies s t new.head other) where
  old_still : (j : ℕ) (e : Book) → j < length books → StillLies s t new.head (get_or books j e).head
  old_still j e less = others (get_or books j e).head (all.each j e less).lies

  old_place : (j : ℕ) (e : Book) → j < length books → get_or (books ++ new ∷ []) j e ≡ get_or books j e
  old_place j e less = get_or_append_left books (new ∷ []) e j less

  new_place : (j : ℕ) (e : Book) → j ≡ length books → get_or (books ++ new ∷ []) j e ≡ new
  new_place j e is = ap (λ k. get_or (books ++ new ∷ []) k e) is ∙ get_or-append_seam books new [] e

  abbrev Stands : ℕ → Type 0
  Stands j = (j < length books) ⊎ (j ≡ length books)

  stands_where : (j : ℕ) → j < length (books ++ new ∷ []) → Stands j
  stands_where j less = by (nat_cases j (length books))
    where
      by : (j < length books) ⊎ (length books ≤ j) → Stands j
      by (inl before) = inl before
      by (inr past) = inr (omega (arith, past, less, length-append books (new ∷ [])))

  each_more : All (IsSoundBook t) (books ++ new ∷ [])
  each_more j e less = by (stands_where j less)
    where
      by : Stands j → IsSoundBook t (get_or (books ++ new ∷ []) j e)
      by (inr last) = subst (λ (b : Book). IsSoundBook t b) (sym (new_place j e last)) kept
      by (inl before) =
          subst (λ (b : Book). IsSoundBook t b) (sym (old_place j e before))
          (still_kept s t (get_or books j e) (all.each j e before) (old_still j e before).lies
          (old_still j e before).links)

  apart_more : (i j : ℕ) (e : Book) → i < length (books ++ new ∷ []) → j < length (books ++ new ∷ []) → i ≢ j
      → AreApart t (get_or (books ++ new ∷ []) i e).head (get_or (books ++ new ∷ []) j e).head
  apart_more i j e less more differs = by (stands_where i less) (stands_where j more)
    where
      by : Stands i → Stands j → AreApart t (get_or (books ++ new ∷ []) i e).head (get_or (books ++ new ∷ []) j e).head
      by (inr one) (inr two) = absurd (differs (one ∙ sym two))
      by (inr one) (inl two) =
          subst (λ (b : Book). AreApart t b.head (get_or (books ++ new ∷ []) j e).head) (sym (new_place i e one))
          (subst (λ (b : Book). AreApart t new.head b.head) (sym (old_place j e two)) (old_still j e two).apart)
      by (inl one) (inr two) =
          subst (λ (b : Book). AreApart t (get_or (books ++ new ∷ []) i e).head b.head) (sym (new_place j e two))
          (subst (λ (b : Book). AreApart t b.head new.head) (sym (old_place i e one))
          (apart_back t new.head (get_or books i e).head (old_still i e one).apart))
      by (inl one) (inl two) =
          subst (λ (b : Book). AreApart t b.head (get_or (books ++ new ∷ []) j e).head) (sym (old_place i e one))
          (subst (λ (b : Book). AreApart t (get_or books i e).head b.head) (sym (old_place j e two))
          (apart_on s t (get_or books i e).head (get_or books j e).head (old_still i e one).links
          (old_still j e two).links (all.apart i j e one two differs)))

  pub added : entered_in new ≡ 0 → AreSoundBooks t (started ++ new.thread ∷ []) (books ++ new ∷ []) count
  added none = record {
    each = each_more;
    apart = apart_more;
    threads = ap (λ (ts : List ThreadNo). ts ++ new.thread ∷ []) all.threads
        ∙ sym (map-append (λ (b : Book). b.thread) books (new ∷ []));
    live = let total = sum_by-append entered_in books (new ∷ []) in let one = sum_by-cons entered_in new [] in
        omega (arith, total, one, none, all.live);
    few = all.few;
  }

  pub added_view : map (ledger_of t) (books ++ new ∷ []) ≡ map (ledger_of s) books ++ ledger_of t new ∷ []
  added_view =
      map-append (ledger_of t) books (new ∷ [])
      ∙ ap (λ (ks : List Ledger). ks ++ ledger_of t new ∷ [])
      (map_alike (ledger_of t) (ledger_of s) books
      (λ j e less. ledger_same s t (get_or books j e) (old_still j e less).links))

-- the live frames as contracts see them
pub live_is : (s : Slots) (books : List Book) → All (IsSoundBook s) books
    → sum_by (λ k. live_in k.account.frames) (map (ledger_of s) books) ≡ sum_by entered_in books
live_is s [] all = refl
live_is s (b ∷ books) all =
    let here = all 0 b (omega arith) in
    let one = live_frames (frames s b.head) here.sound.entered in
    let deep = depth_is s b.head here.lies in
    let rest = live_is s books (λ k d h. all (suc k) d (omega (arith, h))) in
    let left = sum_by-cons (λ (k : Ledger). live_in k.account.frames) (ledger_of s b) (map (ledger_of s) books) in
    let right = sum_by-cons entered_in b books in
    omega (arith, one, deep, rest, left, right)

-- what is kept at the place of a book
pub ledger_place : (s : Slots) (books : List Book) (r : Recording) (place : ℕ) (t : ThreadNo) (b : Book)
    → r.threads ≡ map (ledger_of s) books → place < length books → b ≡ get_or books place b
    → ledger_at r place t ≡ ledger_of s b
ledger_place s books r place t b same within is =
    ap (λ (ks : List Ledger). get_or ks place (nobody t)) same ∙ get_or-map (ledger_of s) books place b (nobody t) within
    ∙ ap (ledger_of s) (sym is)

pub within_books : (s : Slots) (books : List Book) (r : Recording) (place : ℕ) → r.threads ≡ map (ledger_of s) books
    → place < length r.threads → place < length books
within_books s books r place same within =
    omega (arith, within, ap (length {A = Ledger}) same, length-map books (ledger_of s))

pub now_at : (books : List Book) (place : ℕ) (new : Book) → place < length books
    → new ≡ get_or (set books place new) place new
now_at books place new within = sym (get_or-set_same books place new new within)

pub now_within : (books : List Book) (place : ℕ) (new : Book) → place < length books
    → place < length (set books place new)
now_within books place new within = omega (arith, within, length-set books place new)

-- the live frames of one book are among those of all
pub live_of_one : (s : Slots) (started : List ThreadNo) (books : List Book) (count place : ℕ) (d : Book)
    → AreSoundBooks s started books count → place < length books → entered_in (get_or books place d) ≤ count
live_of_one s started books count place d all within =
    omega (arith, get_or-le-sum_by entered_in books place d within, all.live)

pub live_now : (s : Slots) (started : List ThreadNo) (books : List Book) (count : ℕ) (r : Recording)
    → AreSoundBooks s started books count → r.threads ≡ map (ledger_of s) books → live r ≡ count
live_now s started books count r all same = ap (sum_by (λ (k : Ledger). live_in k.account.frames)) same
    ∙ live_is s books all.each ∙ sym all.live

-- a book with other tables of the same rows
pub ledger_with_rows : (s : Slots) (b : Book) (rows : Contents) → rows.lines ≡ b.rows.lines → rows.arcs ≡ b.rows.arcs
    → IsSoundBook s b → IsSoundBook s (record b { rows = rows })
ledger_with_rows s b rows lines arcs kept = record {
  lies = kept.lies;
  sound = subst (λ (rs : List ArcRow). IsSound (record (account_in s b) { lines = rows.lines; arcs = rs })) (sym arcs)
      (subst (λ (ls : List LineRow). IsSound (record (account_in s b) { lines = ls })) (sym lines) kept.sound);
}

pub leaves_same : (s t : Slots) (head : Head) → t ≡ s → LeavesOthers s head t head
leaves_same s t head same =
    subst (λ (u : Slots). LeavesOthers s head u head) (sym same)
    (leaves_others s s head head (ChangesChainOnly-refl s head))

pub ledger_in_same : (s t : Slots) (b : Book) → t ≡ s → IsSoundBook s b → IsSoundBook t b
ledger_in_same s t b same kept = subst (λ (u : Slots). IsSoundBook u b) (sym same) kept

-- what contracts see of a book that is replaced
pub updated : (s t : Slots) (started : List ThreadNo) (books : List Book) (count place : ℕ) (d new : Book)
    → AreSoundBooks s started books count → place < length books → IsSoundBook t new
    → LeavesOthers s (get_or books place d).head t new.head → (r now : Recording) (thread : ThreadNo)
    → IsAt r thread place → r.threads ≡ map (ledger_of s) books
    → now.threads ≡ map (ledger_of t) (set books place new) → new.thread ≡ (get_or books place d).thread
    → IsUpdated r now thread place (ledger_of t new)
updated s t started books count place d new all within kept others r now thread at was is same = record {
  at = at;
  thread =
      same ∙ sym
      (ap (λ (k : Ledger). k.account.thread)
      (ledger_place s books r place thread (get_or books place d) was within
      (get_or_any books place d (get_or books place d) within)))
      ∙ thread_there r thread place at;
  threads = is ∙ replaced_view s t started books count place d new all within kept others
      ∙ ap (λ (ks : List Ledger). set ks place (ledger_of t new)) (sym was);
}

-- what holds of the first account of a thread
pub begun : (syms : SymbolMap) (s t : Slots) (thread : ThreadNo) (pc : ℕ) (b : Book) (head : Head) → b.head ≡ head
    → LiesIn t head
    → frames t head ≡ record { func = (place_of syms pc).func; from = None; kind = Root; start = no_cost } ∷ []
    → b.thread ≡ thread → b.total ≡ no_cost → b.rows.lines ≡ [] → b.rows.arcs ≡ [] → b.had_event ≡ false
    → account_in t b ≡ notes.first_account syms thread pc
begun syms s t thread pc b head at lies fs is total lines arcs had =
    let f = ap (λ (h : Head). frames t h) at ∙ fs in
    λ i. record { thread = is i; frames = f i; total = total i; lines = lines i; arcs = arcs i; had_event = had i }

pub begun_kept : (syms : SymbolMap) (t : Slots) (thread : ThreadNo) (pc : ℕ) (b : Book) (head : Head) → b.head ≡ head
    → LiesIn t head → account_in t b ≡ notes.first_account syms thread pc → IsSoundBook t b
begun_kept syms t thread pc b head at lies is = record {
  lies = subst (λ (h : Head). LiesIn t h) (sym at) lies;
  sound = subst (λ (a : Account). IsSound a) (sym is) (sound_started syms thread pc);
}

pub key_added : (slots : Slots) (books : List Book) (started keys : List ThreadNo) (thread : ThreadNo) (r : Recording)
    → started ≡ map (λ b. b.thread) books → r.threads ≡ map (ledger_of slots) books
    → knows r thread ≡ false
    → keys ≡ (if list_any (λ (u : ThreadNo). thread.0 == u.0) started then started else started ++ thread ∷ [])
    → keys ≡ started ++ thread ∷ []
key_added slots books started keys thread r is view none added =
    let unknown : list_any (λ (u : ThreadNo). thread.0 == u.0) started ≡ false
    = ap (λ (ts : List ThreadNo). list_any (λ (u : ThreadNo). thread.0 == u.0) ts) is
    ∙ any-map (λ (u : ThreadNo). thread.0 == u.0) (λ (b : Book). b.thread) books
    ∙ sym (any-map (is_ledger_of thread) (ledger_of slots) books)
    ∙ ap (list_any (is_ledger_of thread)) (sym view) ∙ none in
    added ∙ ap (λ b. if b then started else started ++ thread ∷ []) unknown

-- the other heads after a root was made
pub others_after : (s mid t : Slots) (head : Head) (b : Book) → mid ≡ s → b.head ≡ head
    → ((other : Head) → LiesIn mid other → StillLies mid t head other) → (other : Head) → LiesIn s other
    → StillLies s t b.head other
others_after s mid t head b same at others other lies =
    subst (λ (h : Head). StillLies s t h other) (sym at)
    (subst (λ (u : Slots). (h : Head) → LiesIn u h → StillLies u t head h) same others other lies)

pub added_updates : (s t : Slots) (started : List ThreadNo) (books : List Book) (count : ℕ) (b : Book)
    → AreSoundBooks s started books count → IsSoundBook t b → ((other : Head) → LiesIn s other → StillLies s t b.head other)
    → (r now : Recording) → r.threads ≡ map (ledger_of s) books → now.threads ≡ map (ledger_of t) (books ++ b ∷ [])
    → now.threads ≡ r.threads ++ ledger_of t b ∷ []
added_updates s t started books count b all kept others r now was is =
    is ∙ added_view s t started books count b all kept others
    ∙ ap (λ (ks : List Ledger). ks ++ ledger_of t b ∷ []) (sym was)

-- no stack is deeper than all of them and a root
pub depth_of_one : (s : Slots) (books : List Book) (place : ℕ) (b : Book) → All (IsSoundBook s) books → place < length books
    → b ≡ get_or books place b → length (frames s b.head) ≤ entered_in b + 1
depth_of_one s books place b all within is =
    let deep = depth_is s (get_or books place b).head (all place b within).lies in
    let same = ap (λ (d : Book). length (frames s d.head)) is in
    let entered = ap entered_in is in
    omega (arith, deep, same, entered)

depth_in : (s : Slots) (thread : ThreadNo) (books : List Book) → All (IsSoundBook s) books
    → length (ledger_in thread (map (ledger_of s) books)).account.frames ≤ sum_by entered_in books + 1
depth_in s thread [] all = omega arith
depth_in s thread (b ∷ books) all =
    by (is_ledger_of thread (ledger_of s b)) (depth_in s thread books (λ k d h. all (suc k) d (omega (arith, h))))
  where
    by : (c : Bool) → length (ledger_in thread (map (ledger_of s) books)).account.frames ≤ sum_by entered_in books + 1
        → length (cond c (ledger_of s b) (ledger_in thread (map (ledger_of s) books))).account.frames ≤ sum_by entered_in
        (b ∷ books) + 1
    by true rest =
        let here = all 0 b (omega arith) in
        let deep = depth_is s b.head here.lies in
        let sums = sum_by-cons entered_in b books in
        omega (arith, deep, sums)
    by false rest = let sums = sum_by-cons entered_in b books in omega (arith, rest, sums)

pub depth_below : (s : Slots) (started : List ThreadNo) (books : List Book) (count : ℕ) (r : Recording)
    (thread : ThreadNo) → AreSoundBooks s started books count → r.threads ≡ map (ledger_of s) books
    → length (account r thread).frames ≤ count + 1
depth_below s started books count r thread all same =
    let one = depth_in s thread books all.each in
    let view = ap (λ (ks : List Ledger). length (ledger_in thread ks).account.frames) same in
    omega (arith, one, view, all.live)
