-- The rows so far fit.
use Rattle.std.specs.Prelude.{All, [], ◌∷◌}
use Rattle.cn_types.specs.Fit.{FitsTypes}
use Rattle.table_store.proofs.tests.rows.Given as goal

abbrev pub invariant-loop-number : goal.invariant-loop-number
invariant-loop-number l = All (FitsTypes (l.kind ∷ [])) l.rows
