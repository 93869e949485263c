use Rattle.std.proofs.Common.{◌≡◌, ◌++◌}
use Rattle.std.specs.String.{string_bytes}
use Rattle.plan_text.specs.Names.{json_escaped}
use Rattle.plan_text.proofs.names.push_json.Given as goal

abbrev pub invariant-loop-character : goal.invariant-loop-character
invariant-loop-character l =
    string_bytes l.out ++ json_escaped l.character-iterator.rest.now ≡ string_bytes l.initial.out ++ json_escaped l.text
