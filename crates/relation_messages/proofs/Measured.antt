-- Depths, one level further out.
use Rattle.std.proofs.Common.{◌≡◌, ℕ, ◌+◌, ◌-◌, ◌^◌, ◌≤◌, max, min, arith}
use Rattle.expression_messages.specs.Depths.{told}

-- beside what all relations have in common
pub told_over : (common member depth most outer : ℕ) → common ≤ 1 → member ≡ told depth → most ≡ max common member → outer ≡ min (most + 1) (2 ^ 32 - 1) → outer ≡ told (1 + max common depth)
told_over common member depth most outer few member_is most_is outer_is = omega (arith, few, member_is, most_is, outer_is)
