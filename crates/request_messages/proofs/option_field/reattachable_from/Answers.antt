-- One more option.
use Rattle.std.proofs.Common.{refl}
use Rattle.proto_fields.specs.Readings.{last_some}
use Rattle.proto_fields.proofs.ReadingLemmas.{last_some-next}
use Rattle.request_messages.specs.Requests.{option_flag}
use Rattle.request_messages.proofs.option_field.reattachable_from.Goals as goal

pub loop-payload-init : goal.loop-payload-init
unfolding last_some
loop-payload-init c = refl

pub loop-payload-preserved : goal.loop-payload-preserved
loop-payload-preserved c =
    last_some-next option_flag (λ payload. payload.now) c.as_slice-payload-items.result.now c.loop-payload.payload-index _ c.in_ok-option_flag.field-0 c.loop-payload.last c.or-last.result
    c.loop-payload-test.true c.in_ok-option_flag.ensures c.loop-payload.invariant c.or-last.ensures
