-- The exit statuses of `replay`.
use Rattle.std.specs.Prelude.{ℕ}
use Rattle.connect_replay.specs.declared.status.ReplayStatus.{ReplayStatus}
use Rattle.connect_replay.specs.declared.status.ReplayStatus.TheVariants.{Done, BadWords, BadScript, ReadFault, WriteFault, OutOfMemory}

abbrev pub exit_code_of : ReplayStatus → ℕ
exit_code_of Done = 0
exit_code_of BadWords = 2
exit_code_of (BadScript line) = 3
exit_code_of ReadFault = 4
exit_code_of WriteFault = 5
exit_code_of OutOfMemory = 6
