-- Each call has less left: a level, or a smaller part of the message at the same level.
use Rattle.std.proofs.Common.{◌≡◌, ◌+◌, ◌*◌, drop}
use Rattle.proto_fields.specs.Faults.{fault_among, first_fault}
use Rattle.proto_fields.proofs.finding.+faults.Given as goal

abbrev pub decreases-message_fault : goal.decreases-message_fault
decreases-message_fault l = 4 * l.levels

abbrev pub decreases-payload_fault : goal.decreases-payload_fault
decreases-payload_fault l = 4 * l.levels + 1

abbrev pub decreases-value_fault : goal.decreases-value_fault
decreases-value_fault l = 4 * l.levels + 2

abbrev pub decreases-fault_among : goal.decreases-fault_among
decreases-fault_among l = 4 * l.levels + 3

abbrev pub invariant-fault_among-loop-field : goal.invariant-fault_among-loop-field
invariant-fault_among-loop-field l =
    fault_among (first_fault l.levels) l.kind l.base l.bytes (drop l.field-index l.fields) ≡ fault_among (first_fault l.levels) l.kind l.base l.bytes l.fields
