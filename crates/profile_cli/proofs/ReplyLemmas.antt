-- All that is said of a reply follows from what the work met and did.
use Rattle.outside.specs.Outside.{Outside}
use Rattle.command_status.specs.declared.status.Status.{Status}
use Rattle.command_words.specs.Request.{AddressAndLine, Line, Request}
use Rattle.command_words.specs.Within.{IsWithin}
use Rattle.profile_cli.specs.Calls.{MakesCalls}
use Rattle.profile_cli.specs.Profile.{IsReply}
use Rattle.profile_cli.specs.Reply.{Replies}
use Rattle.profile_cli.proofs.ByCallsLemmas.{IsHeadlineByCalls-told}
use Rattle.profile_cli.proofs.CompleteLemmas.{IsComplete-replies}
use Rattle.profile_cli.proofs.EveryRunLemmas.{IsAddresses-replies, IsContexts-replies, IsOwnRows-replies}
use Rattle.profile_cli.proofs.EveryRunLemmas.{IsWaits-replies, budget-replies, can_run-replies}
use Rattle.profile_cli.proofs.HeadlineLemmas.{Reports-replies, counts-replies}
use Rattle.profile_cli.proofs.ReadableLemmas.{IsReadable-replies}

pub IsReply-replies : (old new : Outside) (asked : Request) (status : Status) → IsWithin asked
    → Replies old asked status new → MakesCalls old asked status new → IsReply old asked status new
IsReply-replies old new asked status within replies told = record {
  replies = replies;
  told = told;
  headline = Reports-replies Line old new asked status within replies;
  headline_by_address = Reports-replies AddressAndLine old new asked status within replies;
  headline_by_calls = IsHeadlineByCalls-told old new asked status within told;
  complete = IsComplete-replies old new asked status within replies;
  own_parts = IsReadable-replies old new asked status within replies;
  own_rows = IsOwnRows-replies old new asked status within replies;
  waits = IsWaits-replies old new asked status within replies;
  contexts = IsContexts-replies old new asked status within replies;
  addresses = IsAddresses-replies old new asked status within replies;
  budget = budget-replies old new asked status within replies;
  can_run = can_run-replies old new asked status within replies;
  counts = counts-replies Line old new asked status within replies;
  counts_by_address = counts-replies AddressAndLine old new asked status within replies;
}
