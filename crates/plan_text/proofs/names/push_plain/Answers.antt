use Rattle.std.proofs.Common.{◌≤◌, arith, rules}
use Rattle.plan_text.proofs.Encoded.{json_character}
use Rattle.plan_text.proofs.names.push_plain.Goals as goal

pub returns-then-code-ge32 : goal.returns-then-code-ge32
returns-then-code-ge32 c =
    let plain : 32 ≤ c.args.character = omega arith in
    rw (json_character c.args.character c.requires.0 c.requires.1 plain) (search rules)
