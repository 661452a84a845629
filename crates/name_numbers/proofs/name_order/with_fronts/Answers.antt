use Rattle.std.proofs.Common.{subst, ◌∙◌, arith}
use Rattle.name_numbers.specs.inner.Fronts.{IsFront}
use Rattle.name_numbers.specs.Texts.{texts_at}
use Rattle.name_numbers.specs.inner.NameOrder.{AreAllNumbers}
use Rattle.name_numbers.proofs.NameOrder.{all_in_order, fronted_more, in_order_more}
use Rattle.name_numbers.proofs.name_order.with_fronts.Goals as goal

pub text_at-requires : goal.text_at-requires
text_at-requires c = c.tail_at.ensures.in_file c.args.texts.now c.requires.in_file

pub places-preserved : goal.places-preserved
places-preserved c =
    let names = texts_at c.args.texts.now c.args.places.now in
    let is = c.text_at.ensures ∙ c.tail_at.ensures.text c.args.texts.now c.requires.in_file in
    rw c.in_ok-push.ensures.items (record {
      fronts = fronted_more names c.args.skip c.places.fronted.items c.places.number c.front-front.result
          c.places.invariant.fronts (subst (λ bytes. IsFront bytes 8 c.front-front.result) is c.front-front.ensures);
      in_order = in_order_more c.places.fronted.items c.places.number c.front-front.result c.places.invariant.in_order;
    })

pub returns-clause-all : goal.returns-clause-all
returns-clause-all c =
    subst (λ n. AreAllNumbers n c.places.fronted.items) (omega (arith, c.places-test.false))
    (all_in_order c.places.fronted.items c.places.number c.places.invariant.in_order)
