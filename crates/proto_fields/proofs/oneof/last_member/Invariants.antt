use Rattle.std.proofs.Common.{◌≡◌, take}
use Rattle.proto_fields.specs.Readings.{last_some, member_in}
use Rattle.proto_fields.specs.Views.{seen}
use Rattle.proto_fields.proofs.oneof.last_member.Given as goal

abbrev pub invariant-loop-record : goal.invariant-loop-record
invariant-loop-record l = l.last ≡ last_some (member_in l.kind) (seen (take l.record-index l.records))
