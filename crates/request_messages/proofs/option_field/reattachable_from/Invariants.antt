-- The flag so far is that of the last option so far that has one.
use Rattle.std.proofs.Common.{◌≡◌, take, map}
use Rattle.proto_fields.specs.Readings.{last_some}
use Rattle.request_messages.specs.Requests.{option_flag}
use Rattle.request_messages.proofs.option_field.reattachable_from.Given as goal

abbrev pub invariant-loop-payload : goal.invariant-loop-payload
invariant-loop-payload l = l.last ≡ last_some option_flag (map (λ payload. payload.now) (take l.payload-index l.payload-items))
