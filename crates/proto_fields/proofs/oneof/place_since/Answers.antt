-- One more record: it is the last that sets another member, or the place stays.
use Rattle.proto_fields.specs.Readings.{sets_other}
use Rattle.proto_fields.specs.Views.{field_of}
use Rattle.proto_fields.proofs.ReadingLemmas.{place-passed, place-kept}
use Rattle.proto_fields.proofs.oneof.place_since.Goals as goal
use Rattle.proto_fields.proofs.oneof.place_since.Goals.{then-sets_other, else-sets_other}

pub loop-index-preserved : goal.loop-index-preserved
loop-index-preserved c =
    elim c.if-sets_other.branch [
      | then-sets_other w ↦
          place-passed (sets_other c.args.kind c.args.number) field_of c.args.records.now c.loop-index.index _ c.sets_other.result c.if-sets_other.place c.loop-index-test.true c.sets_other.ensures w.if-sets_other.true w.place-is
      | else-sets_other w ↦
          place-kept (sets_other c.args.kind c.args.number) field_of c.args.records.now c.loop-index.index _ c.sets_other.result c.loop-index.place c.if-sets_other.place c.loop-index-test.true c.sets_other.ensures w.if-sets_other.false c.loop-index.invariant w.place-is
    ]
