use Rattle.std.proofs.Common.{◌≡◌, ℕ, true, false, List, sym, ap, ◌∙◌}
use Rattle.std.specs.Cmp.Lexicographic.{slice_cmp}
use Rattle.std.specs.Ordering.{nat_cmp, is_eq}
use Rattle.std.proofs.lemmas.Cmp.{nat_list_cmp_total, tied_itself}
use Rattle.byte_text.specs.Ties.{same_texts}
use Rattle.name_numbers.specs.Texts.{text_at, texts_at}
use Rattle.name_numbers.specs.inner.NameOrder.{name_in}
use Rattle.name_numbers.proofs.NameOrder.{repeated, repeats_where, repeated_front}
use Rattle.name_numbers.proofs.name_order.repeats.Goals as goal

pub compare-requires-clause-first : goal.compare-requires-clause-first
compare-requires-clause-first c = c.tail_at-name.ensures.in_file c.args.texts.now c.requires.in_file

pub compare-requires-clause-second : goal.compare-requires-clause-second
compare-requires-clause-second c = c.tail_at.ensures.in_file c.args.texts.now c.requires.in_file

pub returns-then-last-one : goal.returns-then-last-one
returns-then-last-one c = (
  (λ e. absurd (let P : false ≡ true = e in cc)),
  (λ same. absurd (c.if-last-one.true
      (repeated_front (texts_at c.args.texts.now c.args.places.now) c.args.before.now c.args.one.now
      c.in-Some.last.now (sym c.in-Some.ensures.value) c.requires.one_front same))),
)

pub returns : goal.returns
returns c =
    let bytes : List ℕ = c.args.texts.now in
    let names : List (List ℕ) = texts_at bytes c.args.places.now in
    let x : List ℕ = text_at bytes c.tail_at-name.result in
    let y : List ℕ = text_at bytes c.tail_at.result in
    let last : x ≡ name_in names c.in-Some.last.now = c.tail_at-name.ensures.text bytes c.requires.in_file in
    let one : y ≡ name_in names c.args.one.now = c.tail_at.ensures.text bytes c.requires.in_file in
    let at = sym c.in-Some.ensures.value in (
      (λ e. repeats_where names c.args.before.now c.args.one.now c.in-Some.last.now at
          (sym last ∙ same_texts x y (ap is_eq (sym c.compare.ensures) ∙ sym c.is_eq.ensures ∙ e) ∙ one)),
      (λ same.
          let alike : x ≡ y = last ∙ repeated names c.args.before.now c.args.one.now c.in-Some.last.now at same ∙ sym one in
          c.is_eq.ensures ∙ ap is_eq (c.compare.ensures ∙ ap (slice_cmp nat_cmp x) (sym alike)
          ∙ tied_itself nat_list_cmp_total x)),
    )
