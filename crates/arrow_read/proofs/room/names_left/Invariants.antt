-- what is left after the names so far
use Rattle.std.proofs.Common.{◌≡◌, ◌+◌, take}
use Rattle.arrow_read.specs.Room.{names_size}
use Rattle.arrow_read.proofs.room.names_left.Given as goal

abbrev pub invariant-loop-field : goal.invariant-loop-field
invariant-loop-field l = l.names + names_size (take l.field-index l.schema.0) ≡ l.room
