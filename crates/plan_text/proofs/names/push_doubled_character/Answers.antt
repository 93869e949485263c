use Rattle.std.proofs.Common.{◌≢◌, arith, rules}
use Rattle.plan_text.proofs.Encoded.{doubled_character}
use Rattle.plan_text.proofs.names.push_doubled_character.Goals as goal

pub returns-in_default : goal.returns-in_default
returns-in_default c =
    let other : c.args.character ≢ 96 = λ e. omega arith in
    rw (doubled_character c.args.character other) (search rules)
