use Rattle.std.proofs.Common.{ℕ, ◌<◌, ◌≤◌}
use Rattle.web_heads.specs.HeadEnds.{EndsLines}
use Rattle.web_heads.proofs.ends.head_end.Given as goal

abbrev pub invariant-loop-at : goal.invariant-loop-at
invariant-loop-at l = (k : ℕ) → l.fn.start ≤ k → k < l.at → EndsLines l.bytes k → ⊥
