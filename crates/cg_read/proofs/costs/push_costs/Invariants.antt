use Rattle.std.proofs.Common.{◌≡◌, ◌≤◌, ◌+◌, length, map, is_some, vec_len}
use Rattle.std.specs.List.{list_all}
use Rattle.cg_lines.specs.Numbers.{number_of}
use Rattle.cg_read.specs.Meaning.{numbers, values}
use Rattle.cg_read.proofs.CostLemmas.{values_with}
use Rattle.cg_read.proofs.costs.push_costs.Given as goal

abbrev pub invariant-words : goal.invariant-words
invariant-words l =
    let left = map number_of l.word-iterator in
    record {
      can : (goal.iterator-words).can_next l.word-iterator;
      ends : (goal.iterator-words).is_finite l.word-iterator;
      shape : list_all is_some (numbers l.text) ≡ list_all is_some left;
      count : length (numbers l.text) ≡ vec_len l.items + length left;
      values : values (numbers l.text) ≡ values_with l.in_range l.items.items (values left);
      few : vec_len l.items ≤ l.count;
    }
