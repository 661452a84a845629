-- Keys that are equal are the same, and their digits are few: laws that implementations of a trait give.
use Rattle.std.specs.Prelude.{◌≡◌, ℕ, true}
use Rattle.std.proofs.Common.{Bool, ◌+◌, ◌-◌, ◌*◌, ◌^◌, ◌<◌, ◌&&◌, ◌==◌, if◌then◌else◌, nat_lt, refl, arith}
use Rattle.std.proofs.lemmas.Bool.Decides.{Decides-eqb}
use Rattle.event_costs.specs.Order.{same_arc, same_place}
use Rattle.event_costs.specs.Keys.{ArcKey, Place}
use Rattle.arc_costs.specs.Digits.{arc_digit, arc_number, digit_of, spread}

pub few_digits : (number place : ℕ) → digit_of number place < 4
unfolding digit_of
few_digits number place = omega arith

pub few_arc_digits : (arc : ArcKey) (place : ℕ) → arc_digit arc place < 4
few_arc_digits arc place = by (nat_lt 63 place)
  where
    by : (late : Bool)
        → (if late then digit_of (arc.caller.0 + arc.callee.0 * 2 ^ 64) (place - 64)
        else digit_of (spread (arc_number arc)) place) < 4
    by Bool.true = few_digits (arc.caller.0 + arc.callee.0 * 2 ^ 64) (place - 64)
    by Bool.false = few_digits (spread (arc_number arc)) place

both_true : (a b : Bool) → (a && b) ≡ true → (a ≡ true) × (b ≡ true)
both_true Bool.true b e = (refl, e)
both_true Bool.false b e = absurd (cc)

pub same_number : (x y : ℕ) → (x == y) ≡ true → x ≡ y
same_number x y = (Decides-eqb x y).0

abbrev make_place : ℕ → ℕ → ℕ → Place
make_place func file line = record { func = record { 0 = func }; file = record { 0 = file }; line = line }

pub same_places : (x y : Place) → same_place x y ≡ true → x ≡ y
same_places x y e =
    let one = both_true (x.func.0 == y.func.0) (x.file.0 == y.file.0 && x.line == y.line) e in
    let two = both_true (x.file.0 == y.file.0) (x.line == y.line) one.1 in
    λ i. make_place (same_number x.func.0 y.func.0 one.0 i) (same_number x.file.0 y.file.0 two.0 i)
    (same_number x.line y.line two.1 i)

abbrev make_arc : ℕ → ℕ → ℕ → ℕ → ArcKey
make_arc caller file line callee =
    record { caller = record { 0 = caller }; file = record { 0 = file }; line = line; callee = record { 0 = callee } }

pub same_arcs : (x y : ArcKey) → same_arc x y ≡ true → x ≡ y
same_arcs x y e =
    let one =
    both_true (x.caller.0 == y.caller.0) (x.file.0 == y.file.0 && (x.line == y.line && x.callee.0 == y.callee.0)) e in
    let two = both_true (x.file.0 == y.file.0) (x.line == y.line && x.callee.0 == y.callee.0) one.1 in
    let three = both_true (x.line == y.line) (x.callee.0 == y.callee.0) two.1 in
    λ i. make_arc (same_number x.caller.0 y.caller.0 one.0 i) (same_number x.file.0 y.file.0 two.0 i)
    (same_number x.line y.line three.0 i) (same_number x.callee.0 y.callee.0 three.1 i)
