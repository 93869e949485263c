use Rattle.std.proofs.Common.{◌≡◌, take}
use Rattle.proto_fields.specs.Readings.{last_number}
use Rattle.proto_fields.specs.Views.{seen}
use Rattle.proto_fields.proofs.reading.last_number.Given as goal

abbrev pub invariant-loop-record : goal.invariant-loop-record
invariant-loop-record l = l.last ≡ last_number l.number (seen (take l.record-index l.records))
