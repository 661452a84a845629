-- Ranges of a pile of spans, from the lowest one up.
use Rattle.std.proofs.Common.{◌≡◌, ℕ, ◌+◌, ◌-◌, ◌<◌, ◌≤◌, ◌^◌, true, cond, leb, ltb, List, [], ◌∷◌, ◌++◌}
use Rattle.std.proofs.Common.{length, get_or, drop, refl, sym, ap, ◌∙◌, ◌⊎◌, ⊎_elim, arith}
use Rattle.std.specs.Prelude.{◌&&◌, nat_le}
use Rattle.std.proofs.lemmas.Bool.{lt-ltb, le-ltb, lt-leb, le-leb, leb-true, or_cases}
use Rattle.std.proofs.lemmas.Bool.{and_from, and_left, and_right, cond-true, cond-false}
use Rattle.std.proofs.lemmas.List.{drop_more}
use Rattle.std.proofs.lemmas.List.Sums.{fold_push}
use Rattle.sym_map.specs.declared.range.Cover.{Cover}
use Rattle.sym_map.specs.declared.range.Range.{Range}
use Rattle.sym_map.specs.declared.range.Label.{Label}
use Rattle.sym_map.specs.declared.range.Label.TheVariants as label
use Rattle.sym_map.specs.declared.range.Span.{Span}
use Rattle.sym_map.specs.declared.range.Cover.TheVariants as what
use Rattle.sym_map.specs.inner.Spans.{or_below, span_cover, cover, label_cover, reach, IsCutOf}
use Rattle.sym_map.specs.inner.Piles.{stack_cover, takes, IsPileOf, IsSettled}
use Rattle.sym_map.proofs.Ranges.{from_push, below_push, reach-push, Rise-push}

-- ---- at one address

given_in : (x : Span) (a : ℕ) → x.start ≤ a → a < x.end → span_cover x a ≡ label_cover x.label
given_in x a le lt = cond-true (leb x.start a && ltb a x.end) (label_cover x.label) what.Nothing
    (and_from (leb x.start a) (ltb a x.end) (le-leb x.start a le) (lt-ltb a x.end lt))

given_below : (x : Span) (a : ℕ) → a < x.start → span_cover x a ≡ what.Nothing
given_below x a lt = cond-false (leb x.start a && ltb a x.end) (label_cover x.label) what.Nothing
    (and_left (leb x.start a) (ltb a x.end) (lt-leb x.start a lt))

given_behind : (x : Span) (a : ℕ) → x.end ≤ a → span_cover x a ≡ what.Nothing
given_behind x a le = cond-false (leb x.start a && ltb a x.end) (label_cover x.label) what.Nothing
    (and_right (leb x.start a) (ltb a x.end) (le-ltb a x.end le))

second : (h g : Cover) → h ≡ what.Nothing → or_below h g ≡ g
second h g e = rw e refl

below_or_behind : (a b : ℕ) → (a < b) ⊎ (b ≤ a)
below_or_behind a b = grind arith

-- a span in front of others is what is seen where it covers, and they elsewhere
seen_below : (x : Span) (spans : List Span) (a : ℕ) → a < x.start → cover (x ∷ spans) a ≡ cover spans a
seen_below x spans a lt = second (span_cover x a) (cover spans a) (given_below x a lt)

seen_behind : (x : Span) (spans : List Span) (a : ℕ) → x.end ≤ a → cover (x ∷ spans) a ≡ cover spans a
seen_behind x spans a le = second (span_cover x a) (cover spans a) (given_behind x a le)

seen_in : (x : Span) (spans : List Span) (a : ℕ) → x.start ≤ a → a < x.end → cover (x ∷ spans) a ≡ label_cover x.label
seen_in x spans a le lt = ap (λ (h : Cover). or_below h (cover spans a)) (given_in x a le lt) ∙ hides x.label
  where
    hides : (x : Label) → or_below (label_cover x) (cover spans a) ≡ label_cover x
    hides (label.Symbol symbol) = refl
    hides (label.Line line) = refl

-- ---- stacks

pub stack_cover_push : (stack : List Span) (x : Span) (a : ℕ)
    → stack_cover (stack ++ x ∷ []) a ≡ cond (ltb a x.end) (label_cover x.label) (stack_cover stack a)
stack_cover_push stack x a =
    fold_push (λ (below : Cover) (span : Span). cond (ltb a span.end) (label_cover span.label) below) what.Nothing stack x

pub stack_cover_in : (stack : List Span) (x : Span) (a : ℕ) → a < x.end → stack_cover (stack ++ x ∷ []) a ≡ label_cover x.label
stack_cover_in stack x a lt = stack_cover_push stack x a ∙ cond-true (ltb a x.end) (label_cover x.label) (stack_cover stack a) (lt-ltb a x.end lt)

pub stack_cover_behind : (stack : List Span) (x : Span) (a : ℕ) → x.end ≤ a → stack_cover (stack ++ x ∷ []) a ≡ stack_cover stack a
stack_cover_behind stack x a le =
    stack_cover_push stack x a ∙ cond-false (ltb a x.end) (label_cover x.label) (stack_cover stack a) (le-ltb a x.end le)

-- ---- below an address

pub settled_more : (spans : List Span) (ranges : List Range) (r : Range) (end : ℕ) → IsSettled spans ranges r.start
    → r.start < end → ((a : ℕ) → r.start ≤ a → a < end → cover spans a ≡ r.cover)
    → IsSettled spans (ranges ++ r ∷ []) end
settled_more spans ranges r end so lt is =
    let reached : reach (ranges ++ r ∷ []) ≡ r.start + 1 = reach-push ranges r in
    record {
      rise = Rise-push ranges r so.rise so.below;
      below = omega arith;
      same = λ a less. ⊎_elim
          (λ (before : a < r.start). below_push ranges r a before ∙ so.same a before)
          (λ (le : r.start ≤ a). from_push ranges r a le ∙ sym (is a le less))
          (below_or_behind a r.start);
    }

-- the topmost span is seen up to its end, and the others behind it
pub seen_on_top : (spans : List Span) (ranges : List Range) (start : ℕ) (stack : List Span) (top : Span) (a : ℕ)
    → IsPileOf spans ranges start (stack ++ top ∷ []) → start ≤ a → a < top.end → cover spans a ≡ label_cover top.label
seen_on_top spans ranges start stack top a so le lt = so.ahead a le ∙ stack_cover_in stack top a lt

pub seen_under : (spans : List Span) (ranges : List Range) (start : ℕ) (stack : List Span) (top : Span) (a : ℕ)
    → IsPileOf spans ranges start (stack ++ top ∷ []) → start ≤ a → top.end ≤ a → cover spans a ≡ stack_cover stack a
seen_under spans ranges start stack top a so le behind = so.ahead a le ∙ stack_cover_behind stack top a behind

-- what is seen is settled up to a further address
pub settled_further : (spans : List Span) (ranges new : List Range) (start end : ℕ) (stack : List Span)
    → IsPileOf spans ranges start stack → start ≤ end → IsSettled spans new end → IsPileOf spans new end stack
settled_further spans ranges new start end stack so le kept = record {
  settled = kept;
  ahead = λ a more. so.ahead a (omega arith);
}

-- the same behind the end of the topmost span, which goes
pub settled_behind : (spans : List Span) (ranges new : List Range) (start end : ℕ) (stack : List Span) (top : Span)
    → IsPileOf spans ranges start (stack ++ top ∷ []) → start ≤ end → top.end ≤ end → IsSettled spans new end
    → IsPileOf spans new end stack
settled_behind spans ranges new start end stack top so le behind kept = record {
  settled = kept;
  ahead = λ a more. seen_under spans ranges start stack top a so (omega arith) (omega arith);
}

pub cut_of_pile : (spans : List Span) (ranges : List Range) (stack : List Span) → IsPileOf spans ranges (2 ^ 32) stack
    → IsCutOf spans ranges
cut_of_pile spans ranges stack so =
    record { rise = so.settled.rise; within = so.settled.below; same = so.settled.same }

-- ---- one span more

pub laid : (spans : List Span) (ranges : List Range) (stack new : List Span) (x : Span)
    → IsPileOf spans ranges x.start stack
    → ((a : ℕ) → stack_cover new a ≡ cond (ltb a x.end) (label_cover x.label) (stack_cover stack a))
    → IsPileOf (x ∷ spans) ranges x.start new
laid spans ranges stack new x so is = record {
  settled = record {
    rise = so.settled.rise;
    below = so.settled.below;
    same = λ a lt. so.settled.same a lt ∙ sym (seen_below x spans a lt);
  };
  ahead = λ a le. ⊎_elim
      (λ (lt : a < x.end). seen_in x spans a le lt
      ∙ sym (is a ∙ cond-true (ltb a x.end) (label_cover x.label) (stack_cover stack a) (lt-ltb a x.end lt)))
      (λ (behind : x.end ≤ a). seen_behind x spans a behind ∙ so.ahead a le
      ∙ sym (is a ∙ cond-false (ltb a x.end) (label_cover x.label) (stack_cover stack a) (le-ltb a x.end behind)))
      (below_or_behind a x.end);
}

-- a span that is taken begins no lower than the topmost one, unless it covers nothing
pub taken : (topmost start end : ℕ) → takes topmost start end ≡ true → start < end → topmost ≤ start
taken topmost start end so long =
    ⊎_elim (λ e. let le : end ≤ start = leb-true end start e in absurd (omega arith)) (leb-true topmost start)
    (or_cases (nat_le end start) (nat_le topmost start) so)

-- one span more, from the last one down
pub pile_next : (spans : List Span) (i : ℕ) (d : Span) → 0 < i → i ≤ length spans
    → drop (i - 1) spans ≡ get_or spans (i - 1) d ∷ drop i spans
pile_next spans i d some within =
    let e : i - 1 + 1 ≡ i = omega arith in
    let lt : i - 1 < length spans = omega arith in
    drop_more spans (i - 1) d lt ∙ ap (λ n. get_or spans (i - 1) d ∷ drop n spans) e
