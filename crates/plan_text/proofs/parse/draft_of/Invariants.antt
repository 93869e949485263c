use Rattle.std.proofs.Common.{◌≡◌}
use Rattle.std.specs.Vec.Iter.{into_iter_items}
use Rattle.plan_text.specs.Drafts.{all_built, no_draft}
use Rattle.plan_text.specs.Writable.{CanDoAll}
use Rattle.plan_text.proofs.parse.draft_of.Given as goal

abbrev pub invariant-loop-deed : goal.invariant-loop-deed
invariant-loop-deed l =
    (all_built (into_iter_items l.deed-iterator) l.draft ≡ all_built l.fn.deeds.items no_draft) × CanDoAll (into_iter_items l.deed-iterator) l.draft
