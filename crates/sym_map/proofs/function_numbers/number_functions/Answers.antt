use Rattle.std.proofs.Common.{◌<◌, length, map, ap, ◌∙◌, arith}
use Rattle.std.proofs.lemmas.List.{length-map}
use Rattle.std.proofs.lemmas.List.Elements.{All-map}
use Rattle.name_numbers.specs.declared.file_names.RankInFile.{RankInFile}
use Rattle.sym_map.specs.inner.NameKeys.{name_key, function_of_name}
use Rattle.sym_map.proofs.FunctionNames.{functions_rise, functions_alike, functions_each, unknown_at}
use Rattle.sym_map.proofs.function_numbers.number_functions.Goals as goal

pub number_file_names-requires : goal.number_file_names-requires
number_file_names-requires c =
    let lines = c.args.lines.now in
    let ranked = c.args.preferred.now.ranked.items in
    let key = name_key lines.ranges.items lines.unknown in
    let made = c.deref-2.ensures.value ∙ c.in_ok-keys.ensures ∙ ap (map key) c.deref.ensures.value in
    rw made
    (All-map (λ (k : RankInFile). k.rank < length c.args.preferred.now.names) key ranked c.requires.ranks)

pub returns : goal.returns
returns c =
    let lines = c.args.lines.now in
    let ranked = c.args.preferred.now.ranked.items in
    let names = c.args.preferred.now.names in
    let key = name_key lines.ranges.items lines.unknown in
    let keys = map key ranked in
    let made = c.deref-2.ensures.value ∙ c.in_ok-keys.ensures ∙ ap (map key) c.deref.ensures.value in
    let so = c.in_ok-numbered.ensures in
    let all = c.in_ok-numbered.numbered.names in
    let long = length-map all function_of_name in
    let wide = ap length made ∙ length-map ranked key in
    record {
      rise = functions_rise all so.rise;
      same = functions_alike names keys lines.unknown all (rw made at so.same);
      few = omega (arith, long, wide, so.few, c.requires.few);
      each = functions_each names keys all c.in_ok-numbered.numbered.numbers.items (rw made at so.each);
      unknown = unknown_at all c.in_ok-numbered.numbered.unknown lines.unknown so.unknown;
    }
