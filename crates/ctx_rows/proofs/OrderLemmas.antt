-- The orders of lines and arcs by context are total, and only equal ones tie.
use Rattle.std.proofs.Common.{◌≡◌, ◌==◌, ◌&&◌, ℕ, true, refl}
use Rattle.std.specs.Cmp.{IsTotalOrder}
use Rattle.std.specs.Cmp.Lexicographic.{nat_list_cmp_total}
use Rattle.std.specs.FinMap.{IsAntisymmetric, nat_cmp-IsAntisymmetric, slice_cmp-IsAntisymmetric}
use Rattle.std.specs.Ordering.{nat_cmp}
use Rattle.std.proofs.lemmas.Bool.{eq-eqb, and_parts}
use Rattle.std.proofs.lemmas.Cmp.{nat_cmp_total, on_total, then_total}
use Rattle.ctx_rows.proofs.Others.{same_number, then_equal}
use Rattle.contexts.specs.Contexts.{Context, context_order, same_context}
use Rattle.ctx_rows.specs.Sums.{CtxArcKey, CtxPlace, arc_order, place_order, same_arc, same_place}
use Rattle.contexts.proofs.NumberLemmas.{context_alike, context_itself}

pub context_only : IsAntisymmetric context_order
context_only a b e = slice_cmp-IsAntisymmetric nat_cmp-IsAntisymmetric a b e

pub place_total : IsTotalOrder place_order
place_total =
    then_total (on_total (λ (p : CtxPlace). p.ctx) nat_list_cmp_total)
    (then_total (on_total (λ (p : CtxPlace). p.file.0) nat_cmp_total)
    (on_total (λ (p : CtxPlace). p.line) nat_cmp_total))

make_place : Context → ℕ → ℕ → CtxPlace
make_place ctx file line = record { ctx = ctx; file = record { 0 = file }; line = line }

pub place_only : IsAntisymmetric place_order
unfolding make_place
place_only a b e =
    let one = then_equal (context_order a.ctx b.ctx) _ e in
    let two = then_equal (nat_cmp a.file.0 b.file.0) (nat_cmp a.line b.line) one.1 in
    (λ i. make_place (context_only a.ctx b.ctx one.0 i)
    (nat_cmp-IsAntisymmetric a.file.0 b.file.0 two.0 i) (nat_cmp-IsAntisymmetric a.line b.line two.1 i))

pub place_alike : (a b : CtxPlace) → same_place a b ≡ true → a ≡ b
unfolding make_place
place_alike a b e =
    let one = and_parts (same_context a.ctx b.ctx) _ e in
    let two = and_parts (a.file.0 == b.file.0) (a.line == b.line) one.1 in
    (λ i. make_place (context_alike a.ctx b.ctx one.0 i) (same_number a.file.0 b.file.0 two.0 i)
    (same_number a.line b.line two.1 i))

pub place_itself : (a : CtxPlace) → same_place a a ≡ true
place_itself a =
    (λ i. context_itself a.ctx i && (eq-eqb a.file.0 a.file.0 refl i && eq-eqb a.line a.line refl i))

pub arc_total : IsTotalOrder arc_order
arc_total =
    then_total (on_total (λ (k : CtxArcKey). k.caller) nat_list_cmp_total)
    (then_total (on_total (λ (k : CtxArcKey). k.file.0) nat_cmp_total)
    (then_total (on_total (λ (k : CtxArcKey). k.line) nat_cmp_total)
    (on_total (λ (k : CtxArcKey). k.callee) nat_list_cmp_total)))

make_arc : Context → ℕ → ℕ → Context → CtxArcKey
make_arc caller file line callee =
    record { caller = caller; file = record { 0 = file }; line = line; callee = callee }

pub arc_only : IsAntisymmetric arc_order
unfolding make_arc
arc_only a b e =
    let one = then_equal (context_order a.caller b.caller) _ e in
    let two = then_equal (nat_cmp a.file.0 b.file.0) _ one.1 in
    let three = then_equal (nat_cmp a.line b.line) (context_order a.callee b.callee) two.1 in
    (λ i. make_arc (context_only a.caller b.caller one.0 i) (nat_cmp-IsAntisymmetric a.file.0 b.file.0 two.0 i)
    (nat_cmp-IsAntisymmetric a.line b.line three.0 i) (context_only a.callee b.callee three.1 i))

pub arc_alike : (a b : CtxArcKey) → same_arc a b ≡ true → a ≡ b
unfolding make_arc
arc_alike a b e =
    let one = and_parts (same_context a.caller b.caller) _ e in
    let two = and_parts (a.file.0 == b.file.0) _ one.1 in
    let three = and_parts (a.line == b.line) (same_context a.callee b.callee) two.1 in
    (λ i. make_arc (context_alike a.caller b.caller one.0 i) (same_number a.file.0 b.file.0 two.0 i)
    (same_number a.line b.line three.0 i) (context_alike a.callee b.callee three.1 i))

pub arc_itself : (a : CtxArcKey) → same_arc a a ≡ true
arc_itself a =
    (λ i. context_itself a.caller i
    && (eq-eqb a.file.0 a.file.0 refl i && (eq-eqb a.line a.line refl i && context_itself a.callee i)))
