use Rattle.std.proofs.Common.{◌∙◌, ap, List, ℕ, length}
use Rattle.std.specs.Prelude.{count_by}
use Rattle.relation_eval.specs.Places.{Columns, has_key}
use Rattle.relation_eval.proofs.SetFacts.{length-places}
use Rattle.relation_eval.proofs.sets.count_in.Goals as goal

pub returns : goal.returns
returns c =
    ap (λ (ps : List ℕ). length ps) c.same.ensures ∙ length-places (has_key c.args.rows.now.columns c.args.row.now) 0 c.args.rows.now.rows.now
    ∙ ap (λ (cs : Columns). count_by (has_key cs c.args.row.now) c.args.rows.now.rows.now) c.requires.whole
