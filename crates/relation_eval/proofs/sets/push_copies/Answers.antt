use Rattle.std.proofs.Common.{◌∙◌, ◌++◌, ◌∷◌, [], ap, arith}
use Rattle.std.specs.Prelude.{replicate}
use Rattle.relation_eval.proofs.SetFacts.{replicate-more}
use Rattle.relation_eval.proofs.sets.push_copies.Goals as goal

pub loop-preserved : goal.loop-preserved
loop-preserved c =
    let copy = c.in_ok-copy.ensures in
    c.in_ok-push.ensures.items ∙ ap (λ r. c.loop.list.items ++ r ∷ []) copy ∙ replicate-more c.loop.counter c.args.row.now c.args.list.now.items c.loop.list.items c.loop.invariant

pub returns : goal.returns
returns c = c.loop.invariant ∙ ap (λ n. c.args.list.now.items ++ replicate n c.args.row.now) (omega arith)
