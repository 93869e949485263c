use Rattle.std.proofs.Common.{◌≢◌, arith, rules}
use Rattle.cn_types.proofs.Escapes.{escaped-encode}
use Rattle.cn_types.proofs.escaping.push_escaped_char.Goals as goal

pub returns-in_default : goal.returns-in_default
returns-in_default c =
    let character = c.args.character in
    let one : character ≢ 92 = λ e. omega arith in
    let two : character ≢ 9 = λ e. omega arith in
    let three : character ≢ 10 = λ e. omega arith in
    let four : character ≢ 13 = λ e. omega arith in
    rw (escaped-encode character one two three four) (search rules)
