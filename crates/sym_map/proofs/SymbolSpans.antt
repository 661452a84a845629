-- Spans that show symbols.
use Rattle.std.proofs.Common.{◌≡◌, ℕ, ◌+◌, ◌<◌, ◌≤◌, Bool, true, false, cond, leb, ltb, List, [], ◌∷◌, ◌++◌, length}
use Rattle.std.proofs.Common.{get_or, take, map, Option, Some, None, refl, sym, ap, ◌∙◌, subst, Contains, ◌⊎◌, ⊎_elim}
use Rattle.std.proofs.Common.{arith}
use Rattle.std.specs.Prelude.{find, min, nat_le, nat_lt, ◌&&◌, ◌||◌, ◌==◌}
use Rattle.std.specs.Option.{option_map_or, option_or}
use Rattle.std.specs.List.{list_any}
use Rattle.std.proofs.lemmas.List.{take_more}
use Rattle.std.proofs.lemmas.List.Folds.{find-append}
use Rattle.std.proofs.lemmas.Bool.Decides.{nat_tests}
use Rattle.elf_read.specs.declared.section.Section.{Section}
use Rattle.elf_read.specs.declared.symbol.Symbol.{Symbol}
use Rattle.elf_read.specs.Image.{Image}
use Rattle.sym_map.specs.declared.range.Cover.{Cover}
use Rattle.sym_map.specs.inner.Functions.{symbol_cover, first_cover}
use Rattle.sym_map.specs.inner.Limits.{Limit, limit_of, IsNextValue}
use Rattle.sym_map.specs.inner.Naming.{NumberedSymbol}
use Rattle.sym_map.specs.declared.range.Label.{Label}
use Rattle.sym_map.specs.declared.range.Span.{Span}
use Rattle.sym_map.specs.declared.range.Cover.TheVariants as what
use Rattle.sym_map.specs.inner.Spans.{or_below, span_cover, cover, label_cover}
use Rattle.sym_map.specs.Symbols.{candidates, section_of, is_sized, covers_sized, covers_unsized}
use Rattle.sym_map.proofs.Members.{Alike, Contains-map, Contains-from_map, Contains-cons, Contains-first, first_or_rest}
use Rattle.sym_map.proofs.Spans.{or_below-assoc, or_below-nothing, cover-push}

-- ---- one symbol more

symbol_cover-or : (o p : Option NumberedSymbol) → symbol_cover (option_or o p) ≡ or_below (symbol_cover o) (symbol_cover p)
symbol_cover-or None p = refl
symbol_cover-or (Some x) None = refl
symbol_cover-or (Some x) (Some y) = refl

first_cover-more : (test : Symbol → Bool) (placed : List NumberedSymbol) (i : ℕ) (d : NumberedSymbol)
    → i < length placed
    → first_cover test (take (i + 1) placed)
    ≡ or_below (first_cover test (take i placed))
    (cond (test (get_or placed i d).symbol) (symbol_cover (Some (get_or placed i d))) what.Nothing)
first_cover-more test placed i d lt =
    let p : NumberedSymbol → Bool = λ (x : NumberedSymbol). test x.symbol in
    let x : NumberedSymbol = get_or placed i d in
    ap (λ (xs : List NumberedSymbol). symbol_cover (find p xs)) (take_more placed i d lt)
    ∙ ap symbol_cover (find-append p (take i placed) (x ∷ []))
    ∙ symbol_cover-or (find p (take i placed)) (find p (x ∷ []))
    ∙ ap (or_below (first_cover test (take i placed))) (alone (test x.symbol) x)
  where
    alone : (b : Bool) (x : NumberedSymbol) → symbol_cover (cond b (Some x) None) ≡ cond b (symbol_cover (Some x)) what.Nothing
    alone true x = refl
    alone false x = refl

pub first_cover_more : (test : Symbol → Bool) (placed : List NumberedSymbol) (i : ℕ) (d : NumberedSymbol)
    (before now span_cover : Cover)
    → i < length placed
    → now ≡ or_below before (first_cover test (take i placed))
    → span_cover ≡ cond (test (get_or placed i d).symbol) (symbol_cover (Some (get_or placed i d))) what.Nothing
    → or_below now span_cover ≡ or_below before (first_cover test (take (i + 1) placed))
first_cover_more test placed i d before now span_cover lt so is =
    let one : Cover = cond (test (get_or placed i d).symbol) (symbol_cover (Some (get_or placed i d))) what.Nothing in
    ap (λ (h : Cover). or_below h span_cover) so ∙ ap (or_below (or_below before (first_cover test (take i placed)))) is
    ∙ or_below-assoc before (first_cover test (take i placed)) one
    ∙ ap (or_below before) (sym (first_cover-more test placed i d lt))

-- a symbol that stands there, without its name
pub record StandsAt (placed : List NumberedSymbol) (i : ℕ) (p : NumberedSymbol) (s : Symbol) : Type 0 where
  pub within : i < length placed
  pub at : p ≡ get_or placed i p
  pub symbol : s ≡ p.symbol

pub symbol_at_is : (placed : List NumberedSymbol) (i : ℕ) (p : NumberedSymbol) (s : Symbol) → StandsAt placed i p s
    → s ≡ (get_or placed i p).symbol
symbol_at_is placed i p s stands = stands.symbol ∙ ap (λ (q : NumberedSymbol). q.symbol) stands.at

pub skipped : (test : Symbol → Bool) (placed : List NumberedSymbol) (i : ℕ) (p : NumberedSymbol) (s : Symbol)
    (before now : Cover) → StandsAt placed i p s → now ≡ or_below before (first_cover test (take i placed))
    → test s ≡ false → now ≡ or_below before (first_cover test (take (i + 1) placed))
skipped test placed i p s before now stands so fails =
    let none : test (get_or placed i p).symbol ≡ false = ap test (sym (symbol_at_is placed i p s stands)) ∙ fails in
    so ∙ ap (or_below before) (sym (first_cover-more test placed i p stands.within
    ∙ rw none (or_below-nothing (first_cover test (take i placed)))))

-- ---- which addresses a symbol covers

pub covers_by_size : (a : ℕ) (s : Symbol) → is_sized s ≡ true
    → (leb s.value a && ltb a (s.value + s.size)) ≡ covers_sized a s
covers_by_size a s sized = rw sized refl

pub not_by_size : (a : ℕ) (s : Symbol) → is_sized s ≡ false → covers_sized a s ≡ false
not_by_size a s not_sized = rw not_sized refl

pub not_without_size : (image : Image) (a : ℕ) (s : Symbol) → is_sized s ≡ true → covers_unsized image a s ≡ false
not_without_size image a s sized = rw sized refl

module _ {X : Type 0} (p : X → Bool) where
  any_there : (xs : List X) (x : X) → Contains xs x → p x ≡ true → list_any p xs ≡ true
  any_there [] x h pass = absurd (omega arith)
  any_there (y ∷ ys) x h pass =
      ⊎_elim
      (λ (f : y ≡ x). let e : p y ≡ true = ap p f ∙ pass in rw e refl)
      (λ (r : Contains ys x). rw (any_there ys x r pass) (or_true (p y)))
      (first_or_rest y ys x h)
    where
      or_true : (b : Bool) → (b || true) ≡ true
      or_true true = refl
      or_true false = refl

  none_there : (xs : List X) → ((x : X) → Contains xs x → p x ≡ false) → list_any p xs ≡ false
  none_there [] fails = refl
  none_there (y ∷ ys) fails = rw (fails y (Contains-first y ys))
      (none_there ys (λ x h. fails x (Contains-cons y ys x h)))

-- the first address behind a symbol's section
abbrev section_end : Image → Symbol → ℕ
section_end image symbol = option_map_or (λ (s : Section). s.addr + s.size) (section_of image symbol) 0

-- the other is of the same section, and its value is greater and at or below the address
abbrev is_between : ℕ → Symbol → Symbol → Bool
is_between address symbol other =
    other.section == symbol.section && nat_lt symbol.value other.value && nat_le other.value address

-- another symbol isn't between, unless it is of the section and between the numbers
not_between : (a : ℕ) (s t : Symbol) → (t.section ≡ s.section → s.value < t.value → a < t.value)
    → is_between a s t ≡ false
not_between a s t above = grind (arith, nat_tests)

and_true : (b : Bool) → b ≡ (b && true)
and_true true = refl
and_true false = refl

pub covers_by_section : (image : Image) (limits : List Limit) (s : Symbol) (a : ℕ)
    → Alike limits (map limit_of (candidates image)) → is_sized s ≡ false → IsNextValue limits (limit_of s) None
    → (leb s.value a && ltb a (section_end image s)) ≡ covers_unsized image a s
covers_by_section image limits s a same not_sized none =
    let nothing : list_any (is_between a s) (candidates image) ≡ false =
    none_there (is_between a s) (candidates image) (λ t h.
    not_between a s t (λ section above.
    let limit : limit_of t ≡ record { section = s.section; value = t.value } =
    λ i. record { section = section i; value = t.value } in
    absurd (none t.value above (subst (λ (l : Limit). Contains limits l) limit
    ((same (limit_of t)).1 (Contains-map limit_of (candidates image) t h)))))) in
    rw (not_sized, nothing) (and_true (leb s.value a && ltb a (section_end image s)))

pub covers_by_next : (image : Image) (limits : List Limit) (s : Symbol) (a next : ℕ)
    → Alike limits (map limit_of (candidates image)) → is_sized s ≡ false → IsNextValue limits (limit_of s) (Some next)
    → (leb s.value a && ltb a (min (section_end image s) next)) ≡ covers_unsized image a s
covers_by_next image limits s a next same not_sized is =
    ⊎_elim
    (λ (lt : a < next).
    let nothing : list_any (is_between a s) (candidates image) ≡ false =
    none_there (is_between a s) (candidates image) (λ t h.
    not_between a s t (λ section above.
    let limit : limit_of t ≡ record { section = s.section; value = t.value } =
    λ i. record { section = section i; value = t.value } in
    let far : next ≤ t.value = is.2 t.value above
    (subst (λ (l : Limit). Contains limits l) limit
    ((same (limit_of t)).1 (Contains-map limit_of (candidates image) t h))) in
    omega arith)) in
    rw (not_sized, nothing) (within s.value a (section_end image s) next lt))
    (λ (le : next ≤ a).
    let from = Contains-from_map limit_of (candidates image) (record { section = s.section; value = next })
    ((same (record { section = s.section; value = next })).0 is.1) in
    let section : from.0.section ≡ s.section = ap (λ (l : Limit). l.section) from.2 in
    let value : from.0.value ≡ next = ap (λ (l : Limit). l.value) from.2 in
    let there : list_any (is_between a s) (candidates image) ≡ true =
    any_there (is_between a s) (candidates image) from.0 from.1
    (between a s from.0 section (omega (arith, is.0)) (omega arith)) in
    rw (not_sized, there) (beyond s.value a (section_end image s) next le))
    (let P : (a < next) ⊎ (next ≤ a) = grind arith in P)
  where
    within : (v a end next : ℕ) → a < next → (leb v a && ltb a (min end next)) ≡ ((leb v a && ltb a end) && true)
    within v a end next lt = grind (arith, nat_tests)

    beyond : (v a end next : ℕ) → next ≤ a → (leb v a && ltb a (min end next)) ≡ ((leb v a && ltb a end) && false)
    beyond v a end next le = grind (arith, nat_tests)

    between : (a : ℕ) (s t : Symbol) → t.section ≡ s.section → s.value < t.value → t.value ≤ a → is_between a s t ≡ true
    between a s t section above below = grind (arith, nat_tests)

-- ---- a symbol's span is added

pub pushed : (test : ℕ → Symbol → Bool) (spans : List Span) (placed : List NumberedSymbol) (i : ℕ) (p : NumberedSymbol)
    (s : Symbol) (before : Cover) (label : Label) (end a : ℕ) → StandsAt placed i p s
    → (leb s.value a && ltb a end) ≡ test a s → label_cover label ≡ symbol_cover (Some p)
    → cover spans a ≡ or_below before (first_cover (test a) (take i placed))
    → cover (spans ++ record { start = s.value; end = end; label = label } ∷ []) a
    ≡ or_below before (first_cover (test a) (take (i + 1) placed))
pushed test spans placed i p s before label end a stands covered is so =
    let span : Span = record { start = s.value; end = end; label = label } in
    let there : NumberedSymbol = get_or placed i p in
    let gives : span_cover span a ≡ cond (test a there.symbol) (symbol_cover (Some there)) what.Nothing =
    ap (λ b. cond b (label_cover label) what.Nothing) (covered ∙ ap (test a) (symbol_at_is placed i p s stands))
    ∙ ap (λ (h : Cover). cond (test a there.symbol) h what.Nothing)
    (is ∙ ap (λ (q : NumberedSymbol). symbol_cover (Some q)) stands.at) in
    cover-push spans span a
    ∙ first_cover_more (test a) placed i p before (cover spans a) (span_cover span a) stands.within so gives
