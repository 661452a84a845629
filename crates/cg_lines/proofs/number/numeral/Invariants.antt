use Rattle.std.proofs.Common.{◌≡◌, true, take}
use Rattle.std.specs.List.{list_all}
use Rattle.std.specs.Char.{is_digit}
use Rattle.std.specs.Str.Parse.{digits_value}
use Rattle.cg_lines.specs.Numbers.{checked_number}
use Rattle.cg_lines.proofs.number.numeral.Given as goal

abbrev pub invariant-digits : goal.invariant-digits
invariant-digits l = record {
  digits : list_all (λ c. is_digit c l.radix) (take l.byte-index l.digits) ≡ true;
  value : l.number ≡ checked_number (digits_value l.radix (take l.byte-index l.digits));
}
