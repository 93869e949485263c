-- What wire_fields says of the bytes is what records_in gives.
use Rattle.std.proofs.Common.{sym}
use Rattle.proto_wire.specs.declared.fault.WireFault.TheVariants.{Truncated, VarintTooLong, BadTag}
use Rattle.proto_fields.proofs.RecordsIn.{records_in-Records, records_in-WireFaulty}
use Rattle.proto_fields.proofs.finding.wire_records.Goals as goal

pub returns-in-Ok-clause-exact : goal.returns-in-Ok-clause-exact
returns-in-Ok-clause-exact c = sym (records_in-Records c.args.bytes.now c.in-Ok.fields c.in-Ok.ensures.found)

pub returns-in-Err-Truncated-clause-exact : goal.returns-in-Err-Truncated-clause-exact
returns-in-Err-Truncated-clause-exact c = sym (records_in-WireFaulty c.args.bytes.now (Truncated c.in-Err-Truncated.at) (rw c.in-Err-Truncated.field-0-is at c.in-Err-Truncated.ensures.fault))

pub returns-in-Err-VarintTooLong-clause-exact : goal.returns-in-Err-VarintTooLong-clause-exact
returns-in-Err-VarintTooLong-clause-exact c = sym (records_in-WireFaulty c.args.bytes.now (VarintTooLong c.in-Err-VarintTooLong.at) (rw c.in-Err-VarintTooLong.field-0-is at c.in-Err-VarintTooLong.ensures.fault))

pub returns-in-Err-BadTag-clause-exact : goal.returns-in-Err-BadTag-clause-exact
returns-in-Err-BadTag-clause-exact c = sym (records_in-WireFaulty c.args.bytes.now (BadTag c.in-Err-BadTag.at) (rw c.in-Err-BadTag.field-0-is at c.in-Err-BadTag.ensures.fault))
