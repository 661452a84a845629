use Rattle.cg_read.proofs.profile.Profile.wider_copy.Goals as goal

pub append-requires-clause-few : goal.append-requires-clause-few
append-requires-clause-few c =
    rw (c.of_events-widened.ensures, c.in_ok-events.ensures, c.deref.ensures.value)
    (rw (← c.other.view_is) at c.requires)

pub returns : goal.returns
returns c =
    rw (← c.other.view_is)
    (rw (c.of_events-widened.ensures, c.in_ok-events.ensures, c.deref.ensures.value) at
    c.in_ok-append.ensures.appended)
