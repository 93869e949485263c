use Rattle.std.proofs.Common.{take}
use Rattle.session_core.specs.Places.{AreFirst}
use Rattle.session_core.proofs.places.places_of.Given as goal

abbrev pub invariant-loop-place : goal.invariant-loop-place
invariant-loop-place l = AreFirst l.places (take l.place l.settings)
