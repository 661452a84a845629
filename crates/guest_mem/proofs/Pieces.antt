-- One step of a walk over a range of bytes, page by page.
use Rattle.std.proofs.Common.{◌≡◌, ℕ, zero, suc, ◌+◌, ◌-◌, ◌/◌, ◌%◌, ◌<◌, ◌≤◌, ◌^◌, true, refl, sym, ◌∙◌, ap, arith}
use Rattle.std.proofs.Common.{List, [], ◌∷◌, ◌++◌, length, take, drop, append_assoc, inl, inr}
use Rattle.std.specs.Prelude.{Option, Some, None, is_some}
use Rattle.std.specs.Option.{option_map}
use Rattle.std.proofs.lemmas.Bool.{cases_eq, cond-true, cond-false, eq-eqb, ne_eqb}
use Rattle.std.proofs.lemmas.List.{length-take, length-drop, drop-take}
use Rattle.guest_mem.specs.Memory.{Memory, may, allows_at, bytes_at, write_at}
use Rattle.guest_mem.specs.inner.Page.{PageValue, AreWhole, page_allows, written_where, memory_of_pages}
use Rattle.guest_mem.specs.inner.Table.{Alters}
use Rattle.guest_mem.proofs.Ranges.{may_at, allowed-written, allowed-below}
use Rattle.guest_mem.proofs.Views.{allowed-page, memory_of_pages-written, bytes_at-page}
use Rattle.guest_mem.proofs.Spans.{written-append, bytes_at-append}

-- a list up to a place, and from there up to another
pub take_further : {X : Type 0} (xs : List X) (i j : ℕ) → i ≤ j → take i xs ++ take (j - i) (drop i xs) ≡ take j xs
take_further xs i j h =
    let sum : i + (j - i) ≡ j = omega arith in
    ap (λ n. take i xs ++ n) (sym (drop-take i (j - i) xs) ∙ ap (λ n. drop i (take n xs)) sum) ∙ joined xs i j h
  where
    joined : {X : Type 0} (xs : List X) (i j : ℕ) → i ≤ j → take i xs ++ drop i (take j xs) ≡ take j xs
    joined [] zero zero h = refl
    joined [] zero (suc j) h = refl
    joined [] (suc i) zero h = refl
    joined [] (suc i) (suc j) h = refl
    joined (x ∷ xs) zero j h = refl
    joined (x ∷ xs) (suc i) zero h = absurd (omega arith)
    joined (x ∷ xs) (suc i) (suc j) h = ap (λ ys. x ∷ ys) (joined xs i j (omega arith))

-- the page of a byte that is mapped
pub page_there : (pages : ℕ → Option PageValue) (m : Memory) (want q : ℕ) → AreWhole pages → memory_of_pages pages ≡ m
    → allows_at m want q ≡ true → page_allows want (pages (q / 4096)) ≡ true
page_there pages m want q whole is ok =
    let here : allows_at (memory_of_pages pages) want q ≡ true = ap (λ n. allows_at n want q) is ∙ ok in
    sym (allowed-page pages want q whole (allowed-below _ want q here)) ∙ here

pub put_more : (first old new : ℕ → Option PageValue) (at : ℕ) (bs piece : List ℕ) (done end : ℕ) → AreWhole old
    → done < length bs → done ≤ end → end ≤ length bs → (at + done) % 4096 + (end - done) ≤ 4096
    → piece ≡ take (end - done) (drop done bs) → may (memory_of_pages first) 0 at (length bs) ≡ true
    → memory_of_pages old ≡ write_at (memory_of_pages first) at (take done bs)
    → Alters old new ((at + done) / 4096)
    (option_map (written_where 0 ((at + done) % 4096) piece) (old ((at + done) / 4096)))
    → memory_of_pages new ≡ write_at (memory_of_pages first) at (take end bs)
put_more first old new at bs piece done end whole more order within fits is ok before change =
    let allowed_here : allows_at (write_at (memory_of_pages first) at (take done bs)) 0 (at + done) ≡ true
    = allowed-written (memory_of_pages first) at (take done bs) 0 (at + done)
    ∙ may_at _ 0 at (length bs) ok done more in
    let below : at + done < 2 ^ 32 = allowed-below _ 0 (at + done) allowed_here in
    let long : length piece ≡ end - done = ap length is ∙ simp (length-take, length-drop) (omega arith) in
    let start : length (take done bs) ≡ done = simp length-take (omega arith) in
    memory_of_pages-written old new 0 (at + done) piece whole below (omega (arith, long))
    (page_there old _ 0 (at + done) whole before allowed_here) change
    ∙ ap (λ m. write_at m (at + done) piece) before
    ∙ ap (λ n. write_at (write_at (memory_of_pages first) at (take done bs)) (at + n) piece) (sym start)
    ∙ written-append (memory_of_pages first) at (take done bs) piece
    ∙ ap (write_at (memory_of_pages first) at) (ap (λ ys. take done bs ++ ys) is ∙ take_further bs done end order)

-- a write takes no page and adds none
pub same_pages : (old new : ℕ → Option PageValue) (i want place : ℕ) (bs : List ℕ)
    → Alters old new i (option_map (written_where want place bs) (old i)) → (p : ℕ) → is_some (new p) ≡ is_some (old p)
same_pages old new i want place bs change p =
    elim (cases_eq p i) [
      | inl here ↦ ap is_some (change p ∙ cond-true _ _ _ (eq-eqb _ _ here)) ∙ kept (old i)
          ∙ ap (λ k. is_some (old k)) (sym here)
      | inr other ↦ ap is_some (change p ∙ cond-false _ _ _ (ne_eqb _ _ other))
    ]
  where
    kept : (o : Option PageValue) → is_some (option_map (written_where want place bs) o) ≡ is_some o
    kept None = refl
    kept (Some page) = refl

pub append_more : (pages : ℕ → Option PageValue) (at len done end : ℕ) (before out after piece : List ℕ)
    (page : PageValue) → AreWhole pages → done < len → done ≤ end → end ≤ len → (at + done) % 4096 + (end - done) ≤ 4096
    → may (memory_of_pages pages) 0 at len ≡ true → pages ((at + done) / 4096) ≡ Some page
    → piece ≡ take (end - done) (drop ((at + done) % 4096) page.bytes)
    → out ≡ before ++ bytes_at (memory_of_pages pages) at done → after ≡ out ++ piece
    → after ≡ before ++ bytes_at (memory_of_pages pages) at end
append_more pages at len done end before out after piece page whole more order within fits ok there is so_far now =
    let below : at + done < 2 ^ 32 = allowed-below _ 0 (at + done) (may_at _ 0 at len ok done more) in
    let sum : done + (end - done) ≡ end = omega arith in
    now ∙ ap (λ ys. ys ++ piece) so_far ∙ append_assoc before (bytes_at (memory_of_pages pages) at done) piece
    ∙ ap (λ ys. before ++ (bytes_at (memory_of_pages pages) at done ++ ys))
    (is ∙ sym (bytes_at-page pages (at + done) (end - done) page there (whole _ page there) below fits))
    ∙ ap (λ ys. before ++ ys) (sym (bytes_at-append (memory_of_pages pages) at done (end - done)))
    ∙ ap (λ n. before ++ bytes_at (memory_of_pages pages) at n) sum
