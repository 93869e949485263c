use Rattle.std.proofs.Common.{◌≡◌, drop, map}
use Rattle.session_core.specs.Config.{pair_of}
use Rattle.session_core.specs.Places.{AreFirst}
use Rattle.session_core.specs.Settings.{put_all}
use Rattle.session_core.proofs.changes.put_all.Given as goal

abbrev pub invariant-loop-pair : goal.invariant-loop-pair
invariant-loop-pair l = record { put : put_all l.pairs (map pair_of (drop l.pair-index l.new)) ≡ put_all l.settings (map pair_of l.new); places : AreFirst l.places l.pairs }
