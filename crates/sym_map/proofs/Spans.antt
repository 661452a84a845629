-- Piles of spans, part by part.
use Rattle.std.proofs.Common.{◌≡◌, ℕ, List, [], ◌∷◌, ◌++◌, take, drop, Option, Some, None, refl, sym, ap, subst, ◌∙◌}
use Rattle.std.specs.Option.{option_or}
use Rattle.std.proofs.lemmas.List.{take-append-drop}
use Rattle.sym_map.specs.declared.range.Cover.{Cover}
use Rattle.sym_map.specs.declared.range.Range.{Range}
use Rattle.sym_map.specs.declared.range.Span.{Span}
use Rattle.sym_map.specs.declared.range.Cover.TheVariants as what
use Rattle.sym_map.specs.inner.Spans.{or_below, span_cover, cover, IsCutOf, IsMergeOf}
use Rattle.sym_map.specs.inner.Shows.{Shows}

pub or-none : {T : Type 0} (o : Option T) → option_or o None ≡ o
or-none None = refl
or-none (Some x) = refl

pub Shows-or : {A B : Type 0} (R : A → B → Type 0) (h g : Option A) (o p : Option B) → Shows R h o → Shows R g p
    → Shows R (option_or h g) (option_or o p)
Shows-or R None g None p first second = second
Shows-or R None g (Some x) p first second = absurd first
Shows-or R (Some h) g None p first second = absurd first
Shows-or R (Some h) g (Some x) p first second = first

pub or_below-nothing : (x : Cover) → or_below x what.Nothing ≡ x
or_below-nothing what.Nothing = refl
or_below-nothing (what.Symbol symbol) = refl
or_below-nothing (what.Line line) = refl

pub or_below-assoc : (x y z : Cover) → or_below (or_below x y) z ≡ or_below x (or_below y z)
or_below-assoc what.Nothing y z = refl
or_below-assoc (what.Symbol symbol) y z = refl
or_below-assoc (what.Line line) y z = refl

pub cover-append : (xs ys : List Span) (a : ℕ) → cover (xs ++ ys) a ≡ or_below (cover xs a) (cover ys a)
cover-append [] ys a = refl
cover-append (x ∷ xs) ys a = ap (or_below (span_cover x a)) (cover-append xs ys a)
    ∙ sym (or_below-assoc (span_cover x a) (cover xs a) (cover ys a))

pub cover-push : (xs : List Span) (x : Span) (a : ℕ) → cover (xs ++ x ∷ []) a ≡ or_below (cover xs a) (span_cover x a)
cover-push xs x a = cover-append xs (x ∷ []) a ∙ ap (or_below (cover xs a)) (or_below-nothing (span_cover x a))

pub cut_of_both : (xs ys : List Span) (above below ranges : List Range) → IsCutOf xs above → IsCutOf ys below
    → IsMergeOf above below ranges → IsCutOf (xs ++ ys) ranges
cut_of_both xs ys above below ranges first second merged = record {
  rise = merged.rise;
  within = merged.within;
  same = λ a small. merged.same a ∙ rw (first.same a small, second.same a small) (sym (cover-append xs ys a));
}

pub cut_of_parts : (spans : List Span) (k : ℕ) (above below ranges : List Range) → IsCutOf (take k spans) above
    → IsCutOf (drop k spans) below → IsMergeOf above below ranges → IsCutOf spans ranges
cut_of_parts spans k above below ranges first second merged =
    subst (λ (xs : List Span). IsCutOf xs ranges) (take-append-drop k spans)
    (cut_of_both (take k spans) (drop k spans) above below ranges first second merged)
