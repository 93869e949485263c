use Rattle.std.proofs.Common.{◌≡◌, length}
use Rattle.web_frames.specs.Lines.{first_value}
use Rattle.web_frames.proofs.lines.first_value.Given as goal

abbrev pub invariant-loop-stop : goal.invariant-loop-stop
invariant-loop-stop l = first_value l.name l.rest ≡ first_value l.name l.text

abbrev pub decreases-loop-stop : goal.decreases-loop-stop
decreases-loop-stop l = length l.rest
