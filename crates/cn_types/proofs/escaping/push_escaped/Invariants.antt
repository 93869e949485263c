-- What was written, and what is left of the text as it will be printed, are what was there and the text as it is printed.
use Rattle.std.proofs.Common.{◌≡◌, ◌++◌}
use Rattle.std.specs.String.{string_bytes}
use Rattle.cn_types.specs.Printed.{escaped}
use Rattle.cn_types.proofs.escaping.push_escaped.Given as goal

abbrev pub invariant-loop-character : goal.invariant-loop-character
invariant-loop-character l =
    string_bytes l.out ++ escaped l.character-iterator.rest.now ≡ string_bytes l.initial.out ++ escaped l.text
