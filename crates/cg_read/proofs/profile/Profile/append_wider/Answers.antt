use Rattle.std.proofs.Common.{length, ap, arith}
use Rattle.cg_read.proofs.WidthLemmas.{no_longer, other_is_longer}
use Rattle.cg_read.proofs.profile.Profile.append_wider.Goals as goal

pub wider_copy-requires : goal.wider_copy-requires
wider_copy-requires c = no_longer c.args.other.now.events c.args.self.now.events c.requires.events

pub append-requires-clause-few : goal.append-requires-clause-few
append-requires-clause-few c = omega (arith, ap length c.in_ok-joined.ensures.events)

pub returns-clause-joined : goal.returns-clause-joined
returns-clause-joined c =
    other_is_longer c.args.self.now c.args.other.now c.in_ok-joined.joined c.append.new.self c.requires.events
    c.in_ok-joined.ensures c.in_ok-append.ensures.appended
