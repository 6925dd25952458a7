use Rattle.std.proofs.Common.{◌≡◌, ◌^◌, ◌<◌, drop}
use Rattle.std.specs.Str.Parse.{digits_value_after}
use Rattle.boogie_parse.specs.Ties.Literals.{value_of}
use Rattle.boogie_parse.proofs.literals.literal.Given as goal

abbrev pub invariant-loop-digit : goal.invariant-loop-digit
invariant-loop-digit l = record {
  fits : l.value < 2 ^ 127;
  rest : digits_value_after 10 l.value (drop l.digit-index l.digits) ≡ value_of l.digits;
}
