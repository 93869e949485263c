use Rattle.std.specs.String.{string_bytes}
use Rattle.cn_types.proofs.Unescapes.{not_pending}
use Rattle.cn_types.proofs.spelling.text_of_spelling.Goals as goal

pub returns-then-escaping-clause-bad : goal.returns-then-escaping-clause-bad
returns-then-escaping-clause-bad c =
    λ bad t. not_pending (string_bytes c.loop-character.out) c.loop-character.character-iterator.rest.now c.args.spelling.now c.loop-character.escaping c.if-escaping.true c.in-None.ensures.steps.0.0 c.loop-character.invariant t
