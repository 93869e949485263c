use Rattle.std.proofs.Common.{◌<◌, ◌∙◌, refl, length, arith}
use Rattle.proto_wire.proofs.VarintLaws.{varint_nonempty, length-varint, length-varint-large, one_group_written, last_group_written}
use Rattle.proto_wire.proofs.writing.spell_varint.Goals as goal

pub loop-rest-init : goal.loop-rest-init
loop-rest-init c = record { started = omega arith; room = omega (arith, length-varint c.args.value (omega arith)); spelled = refl }

pub bounds-head-end : goal.bounds-head-end
bounds-head-end c = omega (arith, varint_nonempty c.loop-rest.rest)

pub loop-rest-preserved : goal.loop-rest-preserved
loop-rest-preserved c =
    let inside : c.loop-rest.end < length c.loop-rest.head = omega (arith, varint_nonempty c.loop-rest.rest) in
    record {
      started = omega arith;
      room = omega (arith, length-varint-large c.loop-rest.rest c.loop-rest-test.true);
      spelled = one_group_written c.loop-rest.head c.loop-rest.end c.loop-rest.rest inside c.loop-rest-test.true ∙ c.loop-rest.invariant.spelled;
    }

pub bounds-head-end-2 : goal.bounds-head-end-2
bounds-head-end-2 c = omega (arith, varint_nonempty c.loop-rest.rest)

pub returns-clause-spelled : goal.returns-clause-spelled
returns-clause-spelled c =
    let inside : c.loop-rest.end < length c.loop-rest.head = omega (arith, varint_nonempty c.loop-rest.rest) in
    last_group_written c.loop-rest.head c.loop-rest.end c.loop-rest.rest inside c.loop-rest-test.false ∙ c.loop-rest.invariant.spelled

pub returns-clause-within : goal.returns-clause-within
returns-clause-within c = (omega arith, omega (arith, varint_nonempty c.loop-rest.rest))
