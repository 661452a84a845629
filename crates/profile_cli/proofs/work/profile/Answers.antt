use Rattle.std.proofs.Common.{map, refl, string_bytes}
use Rattle.command_words.proofs.WithinLemmas.{asked_within}
use Rattle.profile_cli.proofs.ReplyLemmas.{IsReply-replies}
use Rattle.profile_cli.proofs.TellLemmas.{told_all}
use Rattle.profile_cli.proofs.work.profile.Goals as goal

pub returns : goal.returns
returns g c =
    IsReply-replies _ _ _ _ (asked_within (map (λ word. string_bytes word) c.args.words.now))
    (record {
      found = c.work-found.result;
      err = _;
      works = c.work-found.ensures.works;
      never_falls = c.work-found.ensures.never_falls;
      says = c.say.ensures.says;
    })
    (told_all _ _ _ _ _ _ c.say.ensures.told refl refl c.work-found.ensures.told)
