use Rattle.std.proofs.Common.{◌≡◌, ◌-◌, ◌≤◌, false, drop, length}
use Rattle.std.specs.Prelude.{IsCharBoundary, string_bytes}
use Rattle.plan_tokens.specs.Tokens.{read_quoted, and_then_read}
use Rattle.plan_tokens.proofs.quoted.read_quoted.Given as goal

abbrev pub invariant-loop-start : goal.invariant-loop-start
invariant-loop-start l =
    IsCharBoundary l.text l.start × (l.from ≤ l.start)
    × (read_quoted l.quote false (drop l.from l.text) ≡ and_then_read (string_bytes l.out) (l.start - l.from) (read_quoted l.quote false (drop l.start l.text)))

abbrev pub decreases-loop-start : goal.decreases-loop-start
decreases-loop-start l = length l.text - l.start
