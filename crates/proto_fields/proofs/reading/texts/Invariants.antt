use Rattle.std.proofs.Common.{◌≡◌, take, map}
use Rattle.std.specs.Str.Lossy.{utf8_lossy}
use Rattle.proto_fields.proofs.reading.texts.Given as goal

abbrev pub invariant-loop-payload : goal.invariant-loop-payload
invariant-loop-payload l = l.found ≡ map utf8_lossy (map (λ payload. payload.now) (take l.payload-index l.payload-items))
