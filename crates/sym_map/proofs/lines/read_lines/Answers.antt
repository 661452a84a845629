use Rattle.std.proofs.Common.{◌≡◌, ◌∙◌, ◌<◌, ◌+◌, ◌^◌, ◌≤◌, List, ℕ, length, ap, map, refl, arith}
use Rattle.std.specs.Prelude.{All}
use Rattle.std.specs.Ordering.{nat_cmp}
use Rattle.std.specs.List.Sorted.{IsStrictlySortedBy}
use Rattle.std.proofs.lemmas.List.{length-map}
use Rattle.std.proofs.lemmas.List.Elements.{All-weaker}
use Rattle.std.proofs.lemmas.Map.Views.{length-le_from_below}
use Rattle.std.proofs.lemmas.Option.{slice_get_within}
use Rattle.dwarf_line.specs.Rows.{Rows}
use Rattle.sym_map.specs.inner.Lines.{cleaned_file}
use Rattle.sym_map.proofs.LineTables.{are_lines}
use Rattle.sym_map.proofs.Numbers.{all_there}
use Rattle.sym_map.proofs.RowPiles.{range_all}
use Rattle.sym_map.proofs.lines.read_lines.Goals as goal

pub cleaned_texts-requires : goal.cleaned_texts-requires
cleaned_texts-requires c =
    rw c.deref.ensures.value
    c.in_ok-numbers.ensures.known

pub by_file-requires-clause-within : goal.by_file-requires-clause-within
by_file-requires-clause-within c =
    rw (c.deref-2.ensures.value, c.file_count.ensures.count)
    c.in_ok-numbers.ensures.known

pub by_file-requires-clause-as_many : goal.by_file-requires-clause-as_many
by_file-requires-clause-as_many c =
    let files = c.args.rows.now.files in
    let texts : c.in_ok-texts.texts.items ≡ map (cleaned_file files) c.in_ok-numbers.numbers.items =
    c.in_ok-texts.ensures ∙ ap (map (cleaned_file files)) c.deref.ensures.value in
    let each = rw texts at c.in_ok-names.ensures.each in
    rw (c.deref-2.ensures.value, c.deref-3.ensures.value)
    (each.as_many ∙ length-map c.in_ok-numbers.numbers.items (cleaned_file files))

-- there are fewer names than 32 bits can number
few_names : (table : Rows) (numbers : List ℕ) (texts names : List (List ℕ)) (count : ℕ)
    → IsStrictlySortedBy nat_cmp numbers → All (λ n. n < length table.files) numbers → count ≡ length table.files
    → count + 4 ≤ 2 ^ 32 → texts ≡ map (cleaned_file table.files) numbers → length names ≤ length texts + 1
    → length names < 2 ^ 32
few_names table numbers texts names count rise known at few are more =
    let fewer = length-le_from_below (length table.files) numbers rise known in
    let long = length-map numbers (cleaned_file table.files) in
    let same = ap length are in
    omega (arith, fewer, at, few, long, same, more)

pub by_file-requires-clause-few : goal.by_file-requires-clause-few
by_file-requires-clause-few c =
    let names = c.in_ok-names.names.keys.items in
    let few : length names < 2 ^ 32 =
    few_names c.args.rows.now c.in_ok-numbers.numbers.items c.in_ok-texts.texts.items c.in_ok-names.names.keys.items
    c.file_count.result c.in_ok-numbers.ensures.rise
    c.in_ok-numbers.ensures.known
    c.file_count.ensures.count c.file_count.ensures.few
    (c.in_ok-texts.ensures ∙ ap (map (cleaned_file c.args.rows.now.files)) c.deref.ensures.value)
    c.in_ok-names.ensures.few in
    rw c.deref-3.ensures.value
    (All-weaker (λ n. n < length names) (λ n. n < 2 ^ 32) (λ n lt. omega (arith, lt, few)) c.in_ok-names.names.numbers.items
    (all_there names c.in_ok-names.names.numbers.items _ (length names) c.in_ok-names.ensures.each refl))

pub overflow_cast-result : goal.overflow_cast-result
overflow_cast-result c =
    let few : length c.in_ok-names.names.keys.items < 2 ^ 32 =
    few_names c.args.rows.now c.in_ok-numbers.numbers.items c.in_ok-texts.texts.items c.in_ok-names.names.keys.items
    c.file_count.result c.in_ok-numbers.ensures.rise
    c.in_ok-numbers.ensures.known
    c.file_count.ensures.count c.file_count.ensures.few
    (c.in_ok-texts.ensures ∙ ap (map (cleaned_file c.args.rows.now.files)) c.deref.ensures.value)
    c.in_ok-names.ensures.few in
    let at : c.in_ok-names.names.last < length c.in_ok-names.names.keys.items =
    slice_get_within c.in_ok-names.names.keys.items c.in_ok-names.names.last _ c.in_ok-names.ensures.last in
    omega (arith, few, at)

pub returns : goal.returns
returns c =
    let table = c.args.rows.now in
    let numbers : List ℕ = c.in_ok-numbers.numbers.items in
    let names = c.in_ok-names.names in
    let texts : c.in_ok-texts.texts.items ≡ map (cleaned_file table.files) numbers =
    c.in_ok-texts.ensures ∙ ap (map (cleaned_file table.files)) c.deref.ensures.value in
    let same = rw (texts, c.in_ok-unknown.ensures) at c.in_ok-names.ensures.same in
    let each = rw texts at c.in_ok-names.ensures.each in
    let placed = rw (c.deref-2.ensures.value, c.deref-3.ensures.value) at c.in_ok-ids.ensures.each in
    let number = rw c.in_ok-unknown.ensures at c.in_ok-names.ensures.last in
    let few : length names.keys.items < 2 ^ 32 =
    few_names c.args.rows.now c.in_ok-numbers.numbers.items c.in_ok-texts.texts.items c.in_ok-names.names.keys.items
    c.file_count.result c.in_ok-numbers.ensures.rise
    c.in_ok-numbers.ensures.known
    c.file_count.ensures.count c.file_count.ensures.few
    (c.in_ok-texts.ensures ∙ ap (map (cleaned_file c.args.rows.now.files)) c.deref.ensures.value)
    c.in_ok-names.ensures.few in
    let cut = rw (c.deref-4.ensures.value, range_all table.sequences c.sequence_count.result c.sequence_count.ensures) at c.in_ok-ranges.ensures in
    are_lines table numbers c.in_ok-numbers.ensures.same names.keys.items names.numbers.items c.in_ok-ids.ids.items each
    placed c.in_ok-numbers.ensures.bounded c.in_ok-ranges.ranges.items names.last c.in_ok-numbers.ensures.placed
    c.in_ok-numbers.ensures.rows_rise c.in_ok-names.ensures.rise same few cut number
