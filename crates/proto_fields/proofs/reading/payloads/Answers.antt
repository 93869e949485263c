use Rattle.std.proofs.Common.{◌∙◌, refl}
use Rattle.proto_fields.specs.Readings.{payload_in, payloads}
use Rattle.proto_fields.specs.Views.{field_of}
use Rattle.proto_fields.proofs.ReadingLemmas.{filter_map-some, filter_map-none}
use Rattle.proto_fields.proofs.reading.payloads.Goals as goal
use Rattle.proto_fields.proofs.reading.payloads.Goals.{in-Some+in_ok-push, in_default}

pub loop-record-init : goal.loop-record-init
unfolding payloads
loop-record-init c = rw c.new-found.ensures refl

pub loop-record-preserved : goal.loop-record-preserved
unfolding payloads
loop-record-preserved c =
    elim c.match-payload_in.branch [
      | in-Some+in_ok-push w ↦
          filter_map-some (payload_in c.args.number) field_of (λ payload. payload.now) c.args.records.now c.loop-record.record-index _ c.loop-record.found c.match-payload_in.found c.payload_in.result w.in-Some.payload
          c.loop-record-test.true w.in-Some.is c.payload_in.ensures c.loop-record.invariant (w.found-is ∙ w.in_ok-push.ensures.ok)
      | in_default w ↦
          filter_map-none (payload_in c.args.number) field_of (λ payload. payload.now) c.args.records.now c.loop-record.record-index _ c.loop-record.found c.match-payload_in.found c.payload_in.result
          c.loop-record-test.true w.in_default.is c.payload_in.ensures c.loop-record.invariant w.found-is
    ]
