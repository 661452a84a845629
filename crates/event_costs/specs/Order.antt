-- When two places or two arcs are one, and in which order they come.
use Rattle.std.specs.Prelude.{Bool, ◌&&◌, ◌==◌}
use Rattle.std.specs.Ordering.{nat_cmp, ordering_then}
use Rattle.std.specs.declared.cmp.Ordering.{Ordering}
use Rattle.event_costs.specs.Keys.{ArcKey, Place}

abbrev pub same_place : Place → Place → Bool
same_place a b = a.func.0 == b.func.0 && (a.file.0 == b.file.0 && a.line == b.line)

-- by function, then file, then line
abbrev pub place_order : Place → Place → Ordering
place_order a b =
    ordering_then (nat_cmp a.func.0 b.func.0) (ordering_then (nat_cmp a.file.0 b.file.0) (nat_cmp a.line b.line))

abbrev pub same_arc : ArcKey → ArcKey → Bool
same_arc a b =
    a.caller.0 == b.caller.0 && (a.file.0 == b.file.0 && (a.line == b.line && a.callee.0 == b.callee.0))

-- by caller, then file, then line, then callee
abbrev pub arc_order : ArcKey → ArcKey → Ordering
arc_order a b =
    ordering_then (nat_cmp a.caller.0 b.caller.0)
    (ordering_then (nat_cmp a.file.0 b.file.0) (ordering_then (nat_cmp a.line b.line) (nat_cmp a.callee.0 b.callee.0)))
