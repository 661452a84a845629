use Rattle.std.proofs.Common.{map, ap, sym, subst, ◌∙◌}
use Rattle.std.specs.Prelude.{All}
use Rattle.std.proofs.lemmas.List.{take_all}
use Rattle.name_numbers.specs.Texts.{IsInFile}
use Rattle.name_numbers.specs.declared.file_names.FileNameAt.{FileNameAt}
use Rattle.name_numbers.specs.inner.FileNamePlaces.{name_at}
use Rattle.name_numbers.specs.inner.FileNameKeys.{placed_key}
use Rattle.name_numbers.proofs.FileNameKeys.{placed_names, placed_in_file}
use Rattle.name_numbers.proofs.file_names.names_at.Goals as goal

pub invariant_of-result : goal.invariant_of-result
invariant_of-result c =
    let places = c.args.places.now in
    let keys = c.args.keys.now in
    let items = c.keys.invariant ∙ ap (map (placed_key places)) (take_all c.keys.key-index keys c.keys-test.false) in
    subst (All (λ (item : FileNameAt). IsInFile c.args.bytes.items item.name)) (sym items)
    (placed_in_file c.args.bytes.items places keys c.requires.ranks c.requires.in_file)

pub returns : goal.returns
returns c =
    let bytes = c.args.bytes.items in
    let places = c.args.places.now in
    let keys = c.args.keys.now in
    let items = c.keys.invariant ∙ ap (map (placed_key places)) (take_all c.keys.key-index keys c.keys-test.false) in
    ap (map (name_at bytes)) items ∙ placed_names bytes places keys c.requires.ranks
