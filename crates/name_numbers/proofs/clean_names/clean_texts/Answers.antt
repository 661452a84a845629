use Rattle.std.proofs.Common.{◌++◌, ◌∷◌, [], get_or, map, sym, ap, subst, ◌∙◌}
use Rattle.std.proofs.lemmas.List.{take_all}
use Rattle.byte_text.specs.Names.{clean_name}
use Rattle.byte_text.specs.Names.{unknown as unknown_name}
use Rattle.name_numbers.specs.inner.CleanNames.{Grows}
use Rattle.name_numbers.specs.inner.Places.{nowhere}
use Rattle.name_numbers.specs.Texts.{text_at, texts_at}
use Rattle.name_numbers.proofs.CleanTexts.{cleaned_more, pushed, printed_grown, printed_long, grows_append}
use Rattle.name_numbers.proofs.clean_names.clean_texts.Goals as goal

pub names-preserved : goal.names-preserved
names-preserved c =
    let so = c.names.invariant in
    let file = c.args.file.now in
    let place = get_or c.args.names.now c.names.place-index nowhere in
    let before = c.names.bytes.items in
    let bytes = c.push_clean.new.bytes.items in
    let made = c.in_ok-push_clean.ensures in
    let both = pushed before bytes made.grown c.names.places.items so.in_file c.in_ok-push_clean.field-0 made.in_file
    (clean_name (text_at file place)) made.text in
    rw c.in_ok-push.ensures.items (record {
      printed_part = printed_grown file c.args.part before bytes made.grown
          (printed_long file c.args.part before c.requires.in_file so.printed_part) so.printed_part;
      in_file = both.0;
      texts = both.1 ∙ ap (λ xs. xs ++ clean_name (text_at file place) ∷ []) so.texts
          ∙ cleaned_more file c.args.names.now c.names.place-index nowhere c.names-test.true;
    })

pub returns-clause-texts : goal.returns-clause-texts
returns-clause-texts c =
    let so = c.names.invariant in
    let file = c.args.file.now in
    let before = c.names.bytes.items in
    let bytes = c.push_text.new.bytes.items in
    let made = c.in_ok-push_text.ensures in
    let both = pushed before bytes (subst (Grows before) (sym made.bytes) (grows_append before unknown_name))
    c.names.places.items so.in_file c.in_ok-push_text.field-0 made.in_file unknown_name made.text in
    rw c.in_ok-push-2.ensures.items
    (both.1 ∙ ap (λ xs. xs ++ unknown_name ∷ []) (so.texts
    ∙ ap (λ ns. map clean_name (texts_at file ns)) (take_all c.names.place-index c.args.names.now c.names-test.false)))
