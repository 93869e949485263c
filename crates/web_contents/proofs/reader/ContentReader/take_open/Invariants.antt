use Rattle.std.proofs.Common.{◌≡◌, ◌-◌, length}
use Rattle.web_contents.specs.declared.place.ContentPlace.TheVariants.{Open}
use Rattle.web_contents.specs.Contents.{place_of}
use Rattle.web_contents.proofs.Runs.{SoFar}
use Rattle.web_contents.proofs.reader.ContentReader.take_open.Given as goal

abbrev pub invariant-loop-taken : goal.invariant-loop-taken
invariant-loop-taken l = record { so_far : SoFar l.fn.self l.fn.piece l.self l.taken; is_open : place_of l.self ≡ Open }

abbrev pub decreases-loop-taken : goal.decreases-loop-taken
decreases-loop-taken l = length l.initial.piece - l.taken
