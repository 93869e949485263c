use Rattle.std.proofs.Common.{refl}
use Rattle.proto_fields.specs.Readings.{last_some, number_in}
use Rattle.proto_fields.specs.Views.{field_of}
use Rattle.proto_fields.proofs.ReadingLemmas.{last_some-next}
use Rattle.proto_fields.proofs.reading.last_number.Goals as goal

pub loop-record-init : goal.loop-record-init
unfolding last_some
loop-record-init c = refl

pub loop-record-preserved : goal.loop-record-preserved
loop-record-preserved c =
    last_some-next (number_in c.args.number) field_of c.args.records.now c.loop-record.record-index _ c.number_in.result c.loop-record.last c.or-last.result c.loop-record-test.true c.number_in.ensures c.loop-record.invariant c.or-last.ensures
