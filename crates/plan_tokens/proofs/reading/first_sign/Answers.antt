use Rattle.std.proofs.Common.{rules, [], ◌∷◌}
use Rattle.plan_tokens.specs.Bytes.{EndsInAscii}
use Rattle.plan_tokens.proofs.Boundaries.{after_sign}
use Rattle.plan_tokens.proofs.reading.first_sign.Goals as goal

pub returns-in-Some-clause-boundary : goal.returns-in-Some-clause-boundary
returns-in-Some-clause-boundary c =
    let last : EndsInAscii (c.byte_at.result ∷ c.byte_at-2.result ∷ c.byte_at-3.result ∷ []) c.in-Some.size = c.in-Some.ensures.last in
    after_sign c.args.text.now c.byte_at.result c.byte_at-2.result c.byte_at-3.result c.in-Some.size c.utf8.text (search rules) (search rules) (search rules) last
