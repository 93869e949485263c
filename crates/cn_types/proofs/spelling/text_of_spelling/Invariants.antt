-- What was read, as it is printed, a backslash that was read, and what is left are the whole spelling.
use Rattle.std.proofs.Common.{◌≡◌, ◌++◌}
use Rattle.std.specs.String.{string_bytes}
use Rattle.cn_types.specs.Printed.{escaped, pending}
use Rattle.cn_types.proofs.spelling.text_of_spelling.Given as goal

abbrev pub invariant-loop-character : goal.invariant-loop-character
invariant-loop-character l =
    (escaped (string_bytes l.out) ++ pending l.escaping) ++ l.character-iterator.rest.now ≡ l.spelling
