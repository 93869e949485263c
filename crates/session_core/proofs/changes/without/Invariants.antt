use Rattle.std.proofs.Common.{◌≡◌, ◌++◌, drop}
use Rattle.session_core.specs.Settings.{without}
use Rattle.session_core.proofs.changes.without.Given as goal

abbrev pub invariant-loop-pair : goal.invariant-loop-pair
invariant-loop-pair l = l.pairs ++ without l.keys (drop l.pair-index l.settings) ≡ without l.keys l.settings
