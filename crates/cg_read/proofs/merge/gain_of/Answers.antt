use Rattle.std.proofs.Common.{◌≡◌, ◌∙◌, length}
use Rattle.cg_read.specs.Profiles.{Contents, contents}
use Rattle.cg_read.specs.declared.profile.Profile.TheInside.{Inside}
use Rattle.cg_read.proofs.JoinLemmas.{gain_has_rows, self_in_range, call_in_range}
use Rattle.cg_read.proofs.merge.gain_of.Goals as goal

abbrev view : Inside → Contents
view p = contents p.events.items p.command p.functions p.files.items p.self_rows.items p.call_rows.items

pub renumbered_self_rows-requires : goal.renumbered_self_rows-requires
renumbered_self_rows-requires c =
    let at_f = rw (← c.own.view_is, ← c.other.view_is) at c.requires.functions in
    let at_t = rw (c.deref.ensures.value, c.deref-2.ensures.value) at c.in_ok-files.ensures.numbers in
    let events_is : c.len-events.result ≡ length c.own.inside.events.items = c.len-events.ensures
    ∙ c.own.inside.events.ok.0 in
    let few = rw (← c.own.view_is, ← c.other.view_is) at c.requires.few in
    rw (c.deref-3.ensures.value, c.deref-4.ensures.value, events_is)
    (self_in_range (view c.other.inside) _ _ c.args.functions.now c.in_ok-files.files.numbers.items _ c.other.invariant
    at_f at_t few)

pub renumbered_call_rows-requires : goal.renumbered_call_rows-requires
renumbered_call_rows-requires c =
    let at_f = rw (← c.own.view_is, ← c.other.view_is) at c.requires.functions in
    let at_t = rw (c.deref.ensures.value, c.deref-2.ensures.value) at c.in_ok-files.ensures.numbers in
    let events_is : c.len-events.result ≡ length c.own.inside.events.items = c.len-events.ensures
    ∙ c.own.inside.events.ok.0 in
    let few = rw (← c.own.view_is, ← c.other.view_is) at c.requires.few in
    rw (c.deref-5.ensures.value, c.deref-6.ensures.value, events_is)
    (call_in_range (view c.other.inside) _ _ c.args.functions.now c.in_ok-files.files.numbers.items _ c.other.invariant
    at_f at_t few)

pub returns-clause-has_rows : goal.returns-clause-has_rows
returns-clause-has_rows c =
    let at_f = rw (← c.own.view_is, ← c.other.view_is) at c.requires.functions in
    let at_t = rw (c.deref.ensures.value, c.deref-2.ensures.value) at c.in_ok-files.ensures.numbers in
    let is_t = rw (c.deref.ensures.value, c.deref-2.ensures.value) at c.in_ok-files.ensures.added in
    let apart_t = rw c.deref.ensures.value at c.in_ok-files.ensures.apart in
    let events_is : c.len-events.result ≡ length c.own.inside.events.items = c.len-events.ensures
    ∙ c.own.inside.events.ok.0 in
    let rows = rw (c.deref-3.ensures.value, c.deref-4.ensures.value, events_is) at c.in_ok-self_rows.ensures in
    let arcs = rw (c.deref-5.ensures.value, c.deref-6.ensures.value, events_is) at c.in_ok-call_rows.ensures in
    let few = rw (← c.own.view_is, ← c.other.view_is) at c.requires.few in
    rw (← c.own.view_is, ← c.other.view_is, rows, arcs)
    (gain_has_rows (view c.own.inside) (view c.other.inside) c.in_ok-command.command c.in_ok-files.files.added.items
    c.args.functions.now c.in_ok-files.files.numbers.items c.own.invariant c.other.invariant few is_t at_f at_t apart_t
    c.in_ok-command.ensures)
