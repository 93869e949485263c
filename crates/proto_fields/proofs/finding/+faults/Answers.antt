-- Each return is the first fault of what the call was given.
use Rattle.std.proofs.Common.{◌≡◌, Ok, Err, refl, sym, ◌∙◌, arith}
use Rattle.proto_fields.specs.Fields.{records_in}
use Rattle.proto_fields.specs.Faults.{first_fault}
use Rattle.proto_fields.proofs.FaultLemmas.{first_fault-level, fault_among-here, fault_among-next, fault_among-end}
use Rattle.proto_fields.proofs.finding.+faults.Goals as goal

pub message_fault-returns-then-levels-eq0 : goal.message_fault-returns-then-levels-eq0
unfolding first_fault
message_fault-returns-then-levels-eq0 t c = rw c.if-levels-eq0.true refl

pub message_fault-returns-in-Err : goal.message_fault-returns-in-Err
message_fault-returns-in-Err t c =
    let read : records_in c.args.bytes.now ≡ Err c.in-Err.fault = sym c.in_ok-fields.ensures.exact ∙ c.in-Err.is in
    let level = first_fault-level c.args.levels c.args.kind c.args.base c.args.bytes.now (omega arith) in
    rw (c.placed.ensures, level, read) refl

pub message_fault-returns-in-Ok : goal.message_fault-returns-in-Ok
message_fault-returns-in-Ok t c =
    let read : records_in c.args.bytes.now ≡ Ok c.in-Ok.fields = sym c.in_ok-fields.ensures.exact ∙ c.in-Ok.is in
    let level = first_fault-level c.args.levels c.args.kind c.args.base c.args.bytes.now (omega arith) in
    rw (level, read) (rw (c.as_slice.ensures) at c.fault_among.ensures)

pub fault_among-returns-then-is_some : goal.fault_among-returns-then-is_some
fault_among-returns-then-is_some t c =
    let found = rw c.payload_of-payload.ensures at c.in_ok-found.ensures in
    let some = sym c.is_some.ensures ∙ c.if-is_some.true in
    sym (sym c.loop-field.invariant ∙ fault_among-here (first_fault c.args.levels) c.args.kind c.args.base c.args.bytes.now c.args.fields.now c.loop-field.field-index _ c.in_ok-found.found c.loop-field-test.true found some)

pub fault_among-loop-field-preserved : goal.fault_among-loop-field-preserved
fault_among-loop-field-preserved t c =
    let found = rw c.payload_of-payload.ensures at c.in_ok-found.ensures in
    let none = sym c.is_some.ensures ∙ c.if-is_some.false in
    sym (fault_among-next (first_fault c.args.levels) c.args.kind c.args.base c.args.bytes.now c.args.fields.now c.loop-field.field-index _ c.in_ok-found.found c.loop-field-test.true found none) ∙ c.loop-field.invariant

pub fault_among-returns : goal.fault_among-returns
fault_among-returns t c =
    sym (fault_among-end (first_fault c.args.levels) c.args.kind c.args.base c.args.bytes.now c.args.fields.now c.loop-field.field-index c.loop-field-test.false) ∙ c.loop-field.invariant
