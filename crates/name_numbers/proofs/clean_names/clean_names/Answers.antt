use Rattle.std.proofs.Common.{◌≡◌, ◌-◌, ◌+◌, ◌++◌, ◌∷◌, [], List, ℕ, length, map, ap, subst, ◌∙◌, arith}
use Rattle.std.specs.Prelude.{slice_get}
use Rattle.std.proofs.lemmas.List.{get_or_default, length_push}
use Rattle.byte_text.specs.Names.{clean_name}
use Rattle.byte_text.specs.Names.{unknown as unknown_name}
use Rattle.name_numbers.specs.Keys.{NumberEach}
use Rattle.name_numbers.specs.Texts.{texts_at}
use Rattle.name_numbers.proofs.CleanTexts.{printed_itself, last_within, numbers_before, number_last}
use Rattle.name_numbers.proofs.clean_names.clean_names.Goals as goal

pub clean_texts-requires : goal.clean_texts-requires
clean_texts-requires c =
    let file = c.names.inside.file.now in
    record {
      within = rw c.deref-2.ensures.value (rw c.deref.ensures.value at c.spread-part.ensures.within);
      in_file = c.spread-part.ensures.in_file file (rw c.deref.ensures.value c.names.invariant);
      rise = rw c.deref-2.ensures.value c.names.invariant;
      printed = printed_itself file c.spread-part.result c.in_ok-bytes.bytes.items c.in_ok-bytes.ensures;
    }

pub returns-clause-each : goal.returns-clause-each
returns-clause-each c =
    let bytes = c.clean_texts.new.bytes.items in
    let all : List (List ℕ) = map clean_name c.args.names.now in
    let keys = texts_at bytes c.in_ok-places-2.field-0.keys.items in
    let numbers = c.in_ok-places-2.field-0.numbers.items in
    let texts : texts_at bytes c.in_ok-places.places.items ≡ all ++ unknown_name ∷ [] =
    c.in_ok-places.ensures.texts
    ∙ ap (λ (ns : List (List ℕ)). map clean_name ns ++ unknown_name ∷ [])
    (ap (texts_at c.names.inside.file.now) c.deref-2.ensures.value ∙ c.names.view_is) in
    let so = subst (NumberEach keys numbers) texts (rw c.deref-3.ensures.value at c.in_ok-places-2.ensures.each) in
    let wide : length (all ++ unknown_name ∷ []) ≡ length all + 1 = length_push all unknown_name in
    let at : c.len.result - 1 ≡ length all =
    omega (arith, c.len.ensures, c.in_ok-places-2.field-0.numbers.ok.0, so.as_many, wide) in
    rw c.remove-unknown.ensures.items (numbers_before keys all numbers unknown_name (c.len.result - 1) at so)

pub returns-clause-unknown : goal.returns-clause-unknown
returns-clause-unknown c =
    let bytes = c.clean_texts.new.bytes.items in
    let all : List (List ℕ) = map clean_name c.args.names.now in
    let keys = texts_at bytes c.in_ok-places-2.field-0.keys.items in
    let numbers = c.in_ok-places-2.field-0.numbers.items in
    let texts : texts_at bytes c.in_ok-places.places.items ≡ all ++ unknown_name ∷ [] =
    c.in_ok-places.ensures.texts
    ∙ ap (λ (ns : List (List ℕ)). map clean_name ns ++ unknown_name ∷ [])
    (ap (texts_at c.names.inside.file.now) c.deref-2.ensures.value ∙ c.names.view_is) in
    let so = subst (NumberEach keys numbers) texts (rw c.deref-3.ensures.value at c.in_ok-places-2.ensures.each) in
    let wide : length (all ++ unknown_name ∷ []) ≡ length all + 1 = length_push all unknown_name in
    let at : c.len.result - 1 ≡ length all =
    omega (arith, c.len.ensures, c.in_ok-places-2.field-0.numbers.ok.0, so.as_many, wide) in
    ap (slice_get keys) (c.remove-unknown.ensures.value
    ∙ get_or_default numbers (c.len.result - 1) c.remove-unknown.result 0
    (last_within keys all numbers unknown_name (c.len.result - 1) at so))
    ∙ number_last keys all numbers unknown_name (c.len.result - 1) at so
