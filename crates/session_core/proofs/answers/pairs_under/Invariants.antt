use Rattle.std.proofs.Common.{◌≡◌, ◌++◌, drop, map}
use Rattle.std.specs.List.{flat_map}
use Rattle.session_core.specs.Config.{under}
use Rattle.session_core.specs.Shown.{told}
use Rattle.session_core.proofs.answers.pairs_under.Given as goal

abbrev pub invariant-loop-pair : goal.invariant-loop-pair
invariant-loop-pair l = map told l.shown.items ++ flat_map (under l.prefix) (drop l.pair-index l.settings) ≡ flat_map (under l.prefix) l.settings
