use Rattle.std.proofs.Common.{◌≢◌, arith}
use Rattle.cn_types.proofs.Unescapes.{not_escaped, not_a_letter}
use Rattle.cn_types.proofs.spelling.plain_character.Goals as goal

pub returns-in_default-clause-none : goal.returns-in_default-clause-none
returns-in_default-clause-none c =
    let letter = c.args.letter in
    let one : letter ≢ 92 = λ e. omega arith in
    let two : letter ≢ 116 = λ e. omega arith in
    let three : letter ≢ 110 = λ e. omega arith in
    let four : letter ≢ 114 = λ e. omega arith in
    λ none t rest. not_escaped 92 _ t (not_a_letter letter one two three four rest)
