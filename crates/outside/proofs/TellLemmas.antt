-- What calls tell, one after another.
use Rattle.std.proofs.Common.{Option, Some, None}
use Rattle.outside.specs.Calls.{Disk, Tell}

-- with no call between
pub tell_here : (holds : Disk → Disk → Type 0) (a : Option Disk) → ((x : Disk) → holds x x) → Tell a a holds
tell_here holds None here = tt
tell_here holds (Some x) here = here x

pub tell_as : (one other : Disk → Disk → Type 0) (a b : Option Disk) → ((x y : Disk) → one x y → other x y)
    → Tell a b one → Tell a b other
tell_as one other None b as_other p = tt
tell_as one other (Some x) None as_other p = absurd p
tell_as one other (Some x) (Some y) as_other p = as_other x y p

-- two things of the same calls
pub tell_both : (one other both : Disk → Disk → Type 0) (a b : Option Disk)
    → ((x y : Disk) → one x y → other x y → both x y) → Tell a b one → Tell a b other → Tell a b both
tell_both one other both None b join p q = tt
tell_both one other both (Some x) None join p q = absurd p
tell_both one other both (Some x) (Some y) join p q = join x y p q

-- calls, and then others
pub tell_then : (first next whole : Disk → Disk → Type 0) (a b c : Option Disk)
    → ((x y z : Disk) → first x y → next y z → whole x z) → Tell a b first → Tell b c next → Tell a c whole
tell_then first next whole None b c join p q = tt
tell_then first next whole (Some x) None c join p q = absurd p
tell_then first next whole (Some x) (Some y) None join p q = absurd q
tell_then first next whole (Some x) (Some y) (Some z) join p q = join x y z p q
