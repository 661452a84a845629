use Rattle.std.proofs.Common.{arith}
use Rattle.std.proofs.lemmas.List.{length-map}
use Rattle.byte_text.specs.Names.{clean_name}
use Rattle.name_numbers.specs.Texts.{text_at, texts_at}
use Rattle.name_numbers.proofs.FileNameKeys.{ranks_within, are_numbered}
use Rattle.name_numbers.proofs.file_names.number_file_names.Goals as goal

pub clean_keys-requires : goal.clean_keys-requires
clean_keys-requires c =
    rw c.deref.ensures.value
    (λ k d lt.
    let below = c.requires k d lt in
    let many = c.in_ok-bytes.ensures.each.as_many in
    let long = length-map c.args.names.now clean_name in
    omega (arith, below, many, long))

pub names_at-requires-clause-ranks : goal.names_at-requires-clause-ranks
names_at-requires-clause-ranks c =
    let made = c.in_ok-bytes.ensures in
    let apart = c.in_ok-apart.ensures in
    let long = length-map c.in_ok-bytes.field-0.places.items (text_at c.in_ok-bytes.field-0.bytes.items) in
    let within = ranks_within c.args.names.now
    (texts_at c.in_ok-bytes.field-0.bytes.items c.in_ok-bytes.field-0.places.items) c.in_ok-bytes.field-0.ranks.items
    made.each c.in_ok-bytes.field-0.unknown made.unknown c.args.unknown_file c.args.keys.now c.in_ok-clean.clean.items
    c.in_ok-apart.apart.keys.items c.in_ok-apart.apart.numbers.items c.in_ok-apart.apart.last c.requires
    (rw c.deref.ensures.value at c.in_ok-clean.ensures)
    (record { rise = apart.rise; same = apart.same; few = apart.few; each = apart.each; there = apart.last }) in
    rw (c.deref-2.ensures.value, c.deref-3.ensures.value) (λ k d lt. let below = within k d lt in omega (arith, below, long))

pub names_at-requires-clause-in_file : goal.names_at-requires-clause-in_file
names_at-requires-clause-in_file c = rw c.deref-2.ensures.value c.in_ok-bytes.ensures.in_file

pub returns : goal.returns
returns c =
    let made = c.in_ok-bytes.ensures in
    let apart = c.in_ok-apart.ensures in
    let names = rw (c.deref-2.ensures.value, c.deref-3.ensures.value) at c.in_ok-names.ensures in
    let so = are_numbered c.args.names.now
    (texts_at c.in_ok-bytes.field-0.bytes.items c.in_ok-bytes.field-0.places.items) c.in_ok-bytes.field-0.ranks.items
    made.each c.in_ok-bytes.field-0.unknown made.unknown c.args.unknown_file c.args.keys.now c.in_ok-clean.clean.items
    c.in_ok-apart.apart.keys.items c.in_ok-apart.apart.numbers.items c.in_ok-apart.apart.last c.requires
    (rw c.deref.ensures.value at c.in_ok-clean.ensures)
    (record { rise = apart.rise; same = apart.same; few = apart.few; each = apart.each; there = apart.last })
    made.rise in
    record {
      rise = rw names so.rise;
      same = rw names so.same;
      few = rw names so.few;
      each = rw names so.each;
      unknown = rw names so.unknown;
    }
