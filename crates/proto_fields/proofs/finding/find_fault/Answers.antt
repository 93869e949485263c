-- The call's answer is the first fault, which is one that the message has; without one, the message is sound.
use Rattle.std.proofs.Common.{◌≡◌, Err, sym, ap, ◌∙◌, arith}
use Rattle.proto_wire.specs.Varint.{IsBytes}
use Rattle.proto_fields.specs.declared.fault.MessageFault.{MessageFault}
use Rattle.proto_fields.specs.Faults.{first_fault}
use Rattle.proto_fields.proofs.FaultLemmas.{sound_from_none, none_from_sound, fault_from_some, some_from_fault, IsCause-from_fault, Gives-same, Tells-same}
use Rattle.proto_fields.proofs.finding.find_fault.Goals as goal

pub returns-in-None-clause-sound : goal.returns-in-None-clause-sound
returns-in-None-clause-sound c =
    let fits : IsBytes c.args.bytes.now = λ i. omega (arith, c.type_inv.bytes i) in
    sound_from_none 200 c.args.kind 0 c.args.bytes.now fits (sym c.in_ok-message_fault.ensures ∙ c.in-None.is)

pub returns-in-None-clause-faulty : goal.returns-in-None-clause-faulty
returns-in-None-clause-faulty c cause has =
    let some = some_from_fault 200 c.args.kind 0 c.args.bytes.now cause has in
    let none = sym c.in_ok-message_fault.ensures ∙ c.in-None.is in
    absurd cc

pub returns-in-Some-clause-fault : goal.returns-in-Some-clause-fault
returns-in-Some-clause-fault c =
    let fits : IsBytes c.args.bytes.now = λ i. omega (arith, c.type_inv.bytes i) in
    IsCause-from_fault 200 c.args.kind c.args.bytes.now c.in-Some.fault
    (fault_from_some 200 c.args.kind 0 c.args.bytes.now c.in-Some.fault fits (sym c.in_ok-message_fault.ensures ∙ c.in-Some.is))

pub returns-in-Some-clause-accepted : goal.returns-in-Some-clause-accepted
returns-in-Some-clause-accepted c sound =
    let none = none_from_sound 200 c.args.kind 0 c.args.bytes.now sound in
    let some = sym c.in_ok-message_fault.ensures ∙ c.in-Some.is in
    absurd cc

pub returns-in-Some-clause-first : goal.returns-in-Some-clause-first
returns-in-Some-clause-first c =
    Tells-same (Unit {0}) c.in-Some.fault (first_fault 200 c.args.kind 0 c.args.bytes.now) (sym c.in_ok-message_fault.ensures ∙ c.in-Some.is)

pub returns-in-Some-clause-faulty : goal.returns-in-Some-clause-faulty
returns-in-Some-clause-faulty c cause has =
    let first = some_from_fault 200 c.args.kind 0 c.args.bytes.now cause has in
    let some = sym c.in_ok-message_fault.ensures ∙ c.in-Some.is in
    let same : cause ≡ c.in-Some.fault = cc in
    Gives-same c.in-Some.fault (Err cause) (ap (λ (f : MessageFault). Err f) same)
