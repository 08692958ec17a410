use Rattle.std.proofs.Common.{◌≡◌, ◌≤◌, true, drop}
use Rattle.std.specs.Str.{all_ascii_digits}
use Rattle.theory_text.specs.Token.{digits_value}
use Rattle.csp_lex.proofs.numbers.value_of.Given as goal

abbrev pub invariant-loop-digit : goal.invariant-loop-digit
invariant-loop-digit l = record {
  in_range : l.value ≤ 2147483647;
  digits : all_ascii_digits (drop l.digit-index l.digits) ≡ true;
  same : digits_value l.value (drop l.digit-index l.digits) ≡ digits_value 0 l.digits;
}
