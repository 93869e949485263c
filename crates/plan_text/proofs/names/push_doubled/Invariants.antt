use Rattle.std.proofs.Common.{◌≡◌, ◌++◌}
use Rattle.std.specs.String.{string_bytes}
use Rattle.plan_text.specs.Names.{doubled}
use Rattle.plan_text.proofs.names.push_doubled.Given as goal

abbrev pub invariant-loop-character : goal.invariant-loop-character
invariant-loop-character l =
    string_bytes l.out ++ doubled l.character-iterator.rest.now ≡ string_bytes l.initial.out ++ doubled l.name
