use Rattle.std.proofs.Common.{◌≡◌, take}
use Rattle.std.specs.Prelude.{option_map}
use Rattle.proto_fields.specs.Readings.{last_payload}
use Rattle.proto_fields.specs.Views.{seen}
use Rattle.proto_fields.proofs.reading.last_payload.Given as goal

abbrev pub invariant-loop-record : goal.invariant-loop-record
invariant-loop-record l = option_map (λ payload. payload.now) l.last ≡ last_payload l.number (seen (take l.record-index l.records))
