use Rattle.std.proofs.Common.{arith}
use Rattle.plan_tokens.proofs.Boundaries.{after_first, quote_low}
use Rattle.plan_tokens.proofs.reading.enclosed.Goals as goal

pub read_quoted-requires-clause-boundary : goal.read_quoted-requires-clause-boundary
read_quoted-requires-clause-boundary c =
    let low = quote_low c.args.quote c.requires.quote in
    after_first c.args.text.now c.utf8.text (omega (arith, low.0, c.requires.first)) (omega (arith, low.1, c.requires.first))
