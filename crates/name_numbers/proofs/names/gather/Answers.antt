use Rattle.std.proofs.Common.{◌≡◌, ◌∷◌, ◌++◌, [], Bool, true, false, length, ap, sym, ◌∙◌, arith}
use Rattle.std.proofs.lemmas.List.{length-map, length_push}
use Rattle.name_numbers.specs.declared.name_order.Fronted.{Fronted}
use Rattle.name_numbers.specs.declared.text_place.TextPlace.{TextPlace}
use Rattle.name_numbers.specs.Texts.{text_at, texts_at}
use Rattle.name_numbers.proofs.NameOrder.{none_placed, one_front_up_to, some_placed, placed_again, placed_more, placed_all}
use Rattle.name_numbers.proofs.names.gather.Goals as goal
use Rattle.name_numbers.proofs.names.gather.Goals.{then-not-repeats+in_ok-push, else-not-repeats}

abbrev none : Fronted
none = record { front = 0; number = 0 }

abbrev nowhere : TextPlace
nowhere = record { start = 0; end = 0 }

both : {b : Bool} → b ≡ true → b ≡ false → ⊥
both p q = cc

pub order-init : goal.order-init
order-init c =
    rw c.in_ok-keys.ensures.items
    (none_placed c.args.texts.now c.args.places.now c.args.order.now c.in_ok-numbers.numbers.items
    (sym c.in_ok-numbers.numbers.ok.0 ∙ c.in_ok-numbers.ensures.len))

pub repeats-requires-clause-one_front : goal.repeats-requires-clause-one_front
repeats-requires-clause-one_front c =
    one_front_up_to (texts_at c.args.texts.now c.args.places.now) c.args.order.now c.order.i none c.order-test.true
    c.requires.one_front

pub overflow_sub-len : goal.overflow_sub-len
overflow_sub-len c =
    let count : c.len.result ≡ length c.if-not-repeats.keys.items = c.len.ensures ∙ c.if-not-repeats.keys.ok.0 in
    rw count
    (elim c.if-not-repeats.branch [
      | then-not-repeats+in_ok-push w ↦
          let items = ◌∙◌ {c = c.order.keys.items ++ _ ∷ []} (ap (λ v. v.items) w.keys-is) w.in_ok-push.ensures.items in
          let more = ap length items ∙ length_push c.order.keys.items _ in
          omega (arith, more)
      | else-not-repeats w ↦
          rw (ap (λ v. v.items) w.keys-is)
          (some_placed c.args.texts.now c.args.places.now c.args.order.now c.requires.all c.order.i
          c.order.keys.items c.order.numbers.items none c.order-test.true c.order.invariant
          (c.repeats.ensures.0 w.if-not-repeats.false))
    ])

pub order-preserved : goal.order-preserved
order-preserved c =
    let count : c.len.result ≡ length c.if-not-repeats.keys.items = c.len.ensures ∙ c.if-not-repeats.keys.ok.0 in
    rw count
    (elim c.if-not-repeats.branch [
      | then-not-repeats+in_ok-push w ↦
          rw (◌∙◌ {c = c.order.keys.items ++ _ ∷ []} (ap (λ v. v.items) w.keys-is) w.in_ok-push.ensures.items)
          (placed_more c.args.texts.now c.args.places.now c.args.order.now c.requires.all c.order.i
          c.order.keys.items c.order.numbers.items none c.order-test.true c.order.invariant nowhere c.requires.in_file
          c.requires.sorted (λ e. both (c.repeats.ensures.1 e) w.if-not-repeats.true))
      | else-not-repeats w ↦
          rw (ap (λ v. v.items) w.keys-is)
          (placed_again c.args.texts.now c.args.places.now c.args.order.now c.requires.all c.order.i
          c.order.keys.items c.order.numbers.items none c.order-test.true c.order.invariant
          (c.repeats.ensures.0 w.if-not-repeats.false))
    ])

pub returns-clause-each : goal.returns-clause-each
returns-clause-each c =
    placed_all c.args.texts.now c.args.places.now c.args.order.now c.requires.all c.order.i c.order.keys.items
    c.order.numbers.items (omega (arith, c.order-test.false)) c.order.invariant

pub returns-clause-few : goal.returns-clause-few
returns-clause-few c =
    let long = length-map c.order.keys.items (text_at c.args.texts.now) in
    omega (arith, long, c.order.invariant.gather.few, c.requires.all.as_many)
