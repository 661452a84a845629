use Rattle.std.proofs.Common.{◌++◌}
use Rattle.cg_read.specs.Ranks.{text_order}
use Rattle.cg_read.specs.inner.Texts.{numbers_order}
use Rattle.cg_read.proofs.FunctionLemmas.{functions_apart, functions_joined, functions_numbered, keys_known, known_numbers, knows_more}
use Rattle.cg_read.proofs.FunctionLemmas.{others_apart, own_apart}
use Rattle.cg_read.proofs.TextLemmas.{slice_get_kept}
use Rattle.cg_read.proofs.functions.Functions.join.Goals as goal

pub renumber-requires : goal.renumber-requires
renumber-requires c =
    let at = rw (c.deref.ensures.value, c.deref-2.ensures.value) at c.in_ok-texts.ensures.numbers in
    rw (c.deref-3.ensures.value, c.deref-4.ensures.value)
    (known_numbers (c.self.inside.texts.items ++ c.in_ok-texts.texts.added.items) c.others.inside.texts.items
    c.in_ok-texts.texts.numbers.items c.others.inside.numbered.items at c.others.invariant.0.of_texts)

pub gain-requires-2-clause-knows : goal.gain-requires-2-clause-knows
gain-requires-2-clause-knows c = rw c.deref-5.ensures.value c.self.invariant.2

pub gain-requires-2-clause-own : goal.gain-requires-2-clause-own
gain-requires-2-clause-own c =
    let at = rw (c.deref.ensures.value, c.deref-2.ensures.value) at c.in_ok-texts.ensures.numbers in
    rw c.deref-5.ensures.value
    (own_apart c.self.inside.texts.items c.others.inside.texts.items _ c.self.inside.numbered.items
    c.others.inside.numbered.items c.in_ok-texts.texts.numbers.items c.others.invariant.0 at
    (rw (← c.self.view_is) at c.requires.own) (rw (← c.others.view_is) at c.requires.others))

pub gain-requires-2-clause-others : goal.gain-requires-2-clause-others
gain-requires-2-clause-others c =
    let at = rw (c.deref.ensures.value, c.deref-2.ensures.value) at c.in_ok-texts.ensures.numbers in
    rw (c.deref-6.ensures.value, c.in_ok-others.ensures, c.deref-3.ensures.value, c.deref-4.ensures.value)
    (others_apart c.self.inside.texts.items c.others.inside.texts.items _ c.self.inside.numbered.items
    c.others.inside.numbered.items c.in_ok-texts.texts.numbers.items c.others.invariant.0 at
    (rw (← c.self.view_is) at c.requires.own) (rw (← c.others.view_is) at c.requires.others))

pub invariant_of-self-in_err-functions : goal.invariant_of-self-in_err-functions
invariant_of-self-in_err-functions c = (
  c.self.invariant.0,
  rw c.deref.ensures.value at c.in_ok-texts.ensures.knows,
  rw c.deref-5.ensures.value at c.in_err-functions.ensures.knows,
)

pub invariant_of-self-in_err-reserve : goal.invariant_of-self-in_err-reserve
invariant_of-self-in_err-reserve c =
    rw c.reserve.ensures.items (
      c.self.invariant.0,
      rw c.deref.ensures.value at c.in_ok-texts.ensures.knows,
      rw c.deref-5.ensures.value at c.in_ok-functions.ensures.knows,
    )

pub invariant_of-self-in_err-reserve-2 : goal.invariant_of-self-in_err-reserve-2
invariant_of-self-in_err-reserve-2 c =
    rw (c.reserve.ensures.items, c.reserve-2.ensures.items) (
      c.self.invariant.0,
      rw c.deref.ensures.value at c.in_ok-texts.ensures.knows,
      rw c.deref-5.ensures.value at c.in_ok-functions.ensures.knows,
    )

pub invariant_of-self-2 : goal.invariant_of-self-2
invariant_of-self-2 c =
    let at = rw (c.deref.ensures.value, c.deref-2.ensures.value) at c.in_ok-texts.ensures.numbers in
    let apart = rw (c.deref.ensures.value) at c.in_ok-texts.ensures.apart in
    let more =
    rw (
      c.deref-5.ensures.value,
      c.deref-6.ensures.value,
      c.in_ok-others.ensures,
      c.deref-3.ensures.value,
      c.deref-4.ensures.value,
    ) at c.in_ok-functions.ensures.added in
    rw (c.append_all.ensures, c.append_all-2.ensures, c.reserve.ensures.items, c.reserve-2.ensures.items) (
      record {
        differ = apart;
        of_texts = keys_known c.self.inside.texts.items c.others.inside.texts.items _ c.self.inside.numbered.items
            c.others.inside.numbered.items c.in_ok-functions.functions.added.items c.in_ok-texts.texts.numbers.items
            c.self.invariant.0 c.others.invariant.0
            (λ n text there. slice_get_kept c.self.inside.texts.items c.in_ok-texts.texts.added.items n text there) at apart more;
      },
      knows_more text_order c.self.inside.texts.items c.in_ok-texts.texts.added.items c.gain.new.self
          (rw c.deref.ensures.value at c.in_ok-texts.ensures.knows),
      knows_more numbers_order c.self.inside.numbered.items c.in_ok-functions.functions.added.items c.gain-2.new.self
          (rw c.deref-5.ensures.value at c.in_ok-functions.ensures.knows),
    )

pub returns-clause-functions : goal.returns-clause-functions
returns-clause-functions c =
    let at = rw (c.deref.ensures.value, c.deref-2.ensures.value) at c.in_ok-texts.ensures.numbers in
    let apart = rw (c.deref.ensures.value) at c.in_ok-texts.ensures.apart in
    let more =
    rw (
      c.deref-5.ensures.value,
      c.deref-6.ensures.value,
      c.in_ok-others.ensures,
      c.deref-3.ensures.value,
      c.deref-4.ensures.value,
    ) at c.in_ok-functions.ensures.added in
    rw (← c.self.view_is, ← c.others.view_is, c.append_all.ensures, c.append_all-2.ensures, c.reserve.ensures.items, c.reserve-2.ensures.items)
    (functions_joined c.self.inside.texts.items c.others.inside.texts.items _ c.self.inside.numbered.items
    c.others.inside.numbered.items c.in_ok-functions.functions.added.items c.in_ok-texts.texts.numbers.items
    c.self.invariant.0 c.others.invariant.0
    (λ n text there. slice_get_kept c.self.inside.texts.items c.in_ok-texts.texts.added.items n text there) at apart more)

pub returns-clause-numbers : goal.returns-clause-numbers
returns-clause-numbers c =
    let at = rw (c.deref.ensures.value, c.deref-2.ensures.value) at c.in_ok-texts.ensures.numbers in
    let apart = rw (c.deref.ensures.value) at c.in_ok-texts.ensures.apart in
    let more =
    rw (
      c.deref-5.ensures.value,
      c.deref-6.ensures.value,
      c.in_ok-others.ensures,
      c.deref-3.ensures.value,
      c.deref-4.ensures.value,
    ) at c.in_ok-functions.ensures.added in
    rw (← c.others.view_is, c.append_all.ensures, c.append_all-2.ensures, c.reserve.ensures.items, c.reserve-2.ensures.items)
    (functions_numbered c.self.inside.texts.items c.others.inside.texts.items _ c.self.inside.numbered.items
    c.others.inside.numbered.items c.in_ok-functions.functions.added.items c.in_ok-texts.texts.numbers.items
    c.self.invariant.0 c.others.invariant.0
    (λ n text there. slice_get_kept c.self.inside.texts.items c.in_ok-texts.texts.added.items n text there) at apart more c.in_ok-functions.functions.numbers.items
    (rw (
      c.deref-5.ensures.value,
      c.deref-6.ensures.value,
      c.in_ok-others.ensures,
      c.deref-3.ensures.value,
      c.deref-4.ensures.value,
    ) at c.in_ok-functions.ensures.numbers))

pub returns-clause-apart : goal.returns-clause-apart
returns-clause-apart c =
    let at = rw (c.deref.ensures.value, c.deref-2.ensures.value) at c.in_ok-texts.ensures.numbers in
    let apart = rw (c.deref.ensures.value) at c.in_ok-texts.ensures.apart in
    let more =
    rw (
      c.deref-5.ensures.value,
      c.deref-6.ensures.value,
      c.in_ok-others.ensures,
      c.deref-3.ensures.value,
      c.deref-4.ensures.value,
    ) at c.in_ok-functions.ensures.added in
    rw (c.append_all.ensures, c.append_all-2.ensures, c.reserve.ensures.items, c.reserve-2.ensures.items)
    (functions_apart c.self.inside.texts.items c.others.inside.texts.items _ c.self.inside.numbered.items
    c.others.inside.numbered.items c.in_ok-functions.functions.added.items c.in_ok-texts.texts.numbers.items
    c.self.invariant.0 c.others.invariant.0
    (λ n text there. slice_get_kept c.self.inside.texts.items c.in_ok-texts.texts.added.items n text there) at apart more
    (rw c.deref-5.ensures.value at c.in_ok-functions.ensures.apart))
