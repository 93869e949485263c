use Rattle.std.proofs.Common.{◌≡◌, ◌≤◌, take}
use Rattle.std.specs.Char.{is_ascii_digit}
use Rattle.std.specs.Str.Parse.{digits_value}
use Rattle.httparse.specs.Grammar.{AllPass}
use Rattle.web_heads.proofs.number.decimal.Given as goal

abbrev pub invariant-loop-byte : goal.invariant-loop-byte
invariant-loop-byte l = record {
  number : l.number ≡ digits_value 10 (take l.byte-index l.text);
  digits : AllPass is_ascii_digit (take l.byte-index l.text);
  fits : l.number ≤ l.most;
}
