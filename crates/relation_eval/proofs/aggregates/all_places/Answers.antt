use Rattle.std.proofs.Common.{◌++◌, ◌∷◌, [], ◌∙◌, List, ℕ, ap, sym}
use Rattle.relation_eval.proofs.BucketFacts.{count_from_next}
use Rattle.relation_eval.proofs.aggregates.all_places.Goals as goal

pub loop-place-preserved : goal.loop-place-preserved
loop-place-preserved c = c.in_ok-push.ensures.items ∙ ap (λ (places : List ℕ). places ++ c.loop-place.place ∷ []) c.loop-place.invariant ∙ sym (count_from_next c.loop-place.place)
