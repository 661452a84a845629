use Rattle.std.proofs.Common.{◌+◌, ◌*◌, ◌/◌, sym, ◌∙◌, arith}
use Rattle.text_ends.proofs.EndLemmas.{end_behind, end_in_block, place_le_next}
use Rattle.text_ends.proofs.texts.end_from.Goals as goal

pub returns-in-Some : goal.returns-in-Some
returns-in-Some c =
    end_in_block c.args.bytes.now c.args.place c.min-block_end.result c.in-Some.len
    (let e = c.min-block_end.ensures in grind arith) (sym c.first_zero.ensures ∙ c.in-Some.is)

pub returns-in-None : goal.returns-in-None
returns-in-None c =
    end_behind c.args.bytes.now c.args.place ((c.args.place / 32 + 1) * 32) c.min-block_end.result c.args.behind
    (place_le_next c.args.place) c.min-block_end.ensures (sym c.first_zero.ensures ∙ c.in-None.is) c.requires.behind
