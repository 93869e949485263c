use Rattle.std.proofs.Common.{sym, ◌∙◌}
use Rattle.relation_eval.proofs.MatchFacts.{no_candidate}
use Rattle.relation_eval.proofs.matches.candidates.Goals as goal

pub returns-then-has_null : goal.returns-then-has_null
returns-then-has_null c = λ own is. sym (no_candidate c.args.columns.now own.now c.args.left.now c.args.rights.now.rows.now (sym c.has_null.ensures ∙ c.if-has_null.true))
