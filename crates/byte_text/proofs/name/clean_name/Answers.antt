use Rattle.std.proofs.Common.{length, ap, sym, ◌∙◌, ◌++◌, ◌∷◌, [], map, take, arith, rules}
use Rattle.std.specs.List.{enumerate_from}
use Rattle.byte_text.specs.Names.{clean_byte}
use Rattle.byte_text.proofs.NameLemmas.{map_enumerated_more, cleaned_whole}
use Rattle.byte_text.proofs.name.clean_name.Goals as goal

pub bytes-preserved : goal.bytes-preserved
bytes-preserved c =
    let name = c.args.name.now in
    let f = clean_byte (length name) in
    c.in_ok-push.ensures.items
    ∙ ap (λ bytes. bytes ++ c.clean_byte.result ∷ []) c.bytes.invariant
    ∙ ap (λ byte. map (λ p. f p.0 p.1) (take c.bytes.place (enumerate_from 0 name)) ++ byte ∷ []) c.clean_byte.ensures
    ∙ sym (map_enumerated_more f name c.bytes.place (omega arith))

pub returns : goal.returns
returns c = c.bytes.invariant ∙ cleaned_whole c.args.name.now c.bytes.place (search rules) (omega arith)
