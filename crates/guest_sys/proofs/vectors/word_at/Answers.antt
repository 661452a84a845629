use Rattle.std.proofs.Common.{ap, sym, ◌∙◌}
use Rattle.std.specs.Result.{result_ok}
use Rattle.std.proofs.lemmas.Option.{same_Some}
use Rattle.guest_sys.proofs.VectorLemmas.{loaded_there, ok_from}
use Rattle.guest_sys.proofs.vectors.word_at.Goals as goal

pub unwrap-requires : goal.unwrap-requires
unwrap-requires c = ok_from c.load32.result _ (c.load32.ensures ∙ loaded_there c.args.mem.now 1 c.args.at 4 c.requires)

pub returns : goal.returns
returns c =
    same_Some _ _
    (sym (ap result_ok c.unwrap.ensures) ∙ c.load32.ensures ∙ loaded_there c.args.mem.now 1 c.args.at 4 c.requires)
