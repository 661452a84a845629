use Rattle.std.proofs.Common.{subst}
use Rattle.cg_read.specs.Profiles.{IsProfile}
use Rattle.cg_read.proofs.WidthLemmas.{copy_is}
use Rattle.cg_read.proofs.merge.copy_of.Goals as goal

pub returns : goal.returns
returns c =
    copy_is c.args.profile.now c.in_ok-copy.copy (subst IsProfile c.profile.view_is c.profile.invariant)
    c.in_ok-copy.ensures
