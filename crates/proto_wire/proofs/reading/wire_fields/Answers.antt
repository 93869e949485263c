-- At each exit the bytes before the place are records, and what was read at the place says the rest.
use Rattle.std.proofs.Common.{◌≡◌, ℕ, take, List, Ok, Err, sym, ap, subst, arith}
use Rattle.std.proofs.lemmas.Result.{err_from_is_err_and}
use Rattle.std.proofs.lemmas.List.{take_all}
use Rattle.proto_wire.specs.declared.field.WireField.{WireField}
use Rattle.proto_wire.specs.declared.fault.WireFault.{WireFault}
use Rattle.proto_wire.specs.Varint.{IsBytes}
use Rattle.proto_wire.specs.Records.{Records}
use Rattle.proto_wire.proofs.RecordLists.{one_message, message_or_fault, one_fault}
use Rattle.proto_wire.proofs.Whole.{one_more, is_faulty, IsCaused-faulty, Gives-same}
use Rattle.proto_wire.proofs.Places.{all_within}
use Rattle.proto_wire.proofs.reading.wire_fields.Goals as goal

pub returns-in_err-field-clause-fault : goal.returns-in_err-field-clause-fault
returns-in_err-field-clause-fault c =
    let p = err_from_is_err_and c.from_residual.result c.from_residual.ensures.1 in
    let fits : IsBytes c.args.bytes.now = λ i. omega (arith, c.type_inv.bytes i) in
    let faulty = is_faulty c.args.bytes.now c.loop-at.at c.loop-at.fields c.in_err-field.field-0.0 fits c.loop-at-test.true c.loop-at.invariant.found (sym c.in_err-field.ensures.exact) in
    rw (p.1, p.2) (IsCaused-faulty c.args.bytes.now c.in_err-field.field-0.0 faulty)

pub returns-in_err-field-clause-records : goal.returns-in_err-field-clause-records
returns-in_err-field-clause-records c fields is =
    let p = err_from_is_err_and c.from_residual.result c.from_residual.ensures.1 in
    let fits : IsBytes c.args.bytes.now = λ i. omega (arith, c.type_inv.bytes i) in
    let faulty = is_faulty c.args.bytes.now c.loop-at.at c.loop-at.fields c.in_err-field.field-0.0 fits c.loop-at-test.true c.loop-at.invariant.found (sym c.in_err-field.ensures.exact) in
    rw (p.1, p.2) (Gives-same c.in_err-field.field-0.0 (Ok fields) (absurd (message_or_fault c.args.bytes.now fields c.in_err-field.field-0.0 is faulty)))

pub returns-in_err-field-clause-faulty : goal.returns-in_err-field-clause-faulty
returns-in_err-field-clause-faulty c cause is =
    let p = err_from_is_err_and c.from_residual.result c.from_residual.ensures.1 in
    let fits : IsBytes c.args.bytes.now = λ i. omega (arith, c.type_inv.bytes i) in
    let faulty = is_faulty c.args.bytes.now c.loop-at.at c.loop-at.fields c.in_err-field.field-0.0 fits c.loop-at-test.true c.loop-at.invariant.found (sym c.in_err-field.ensures.exact) in
    let one = one_fault c.args.bytes.now cause c.in_err-field.field-0.0 is faulty in
    rw (p.1, p.2) (Gives-same c.in_err-field.field-0.0 (Err cause) (ap (λ (f : WireFault). Err f) one.0))

pub loop-at-preserved : goal.loop-at-preserved
loop-at-preserved c =
    let fits : IsBytes c.args.bytes.now = λ i. omega (arith, c.type_inv.bytes i) in
    record {
      within = c.in_ok-field.ensures.within.1;
      found = rw c.in_ok-push.ensures.ok (one_more c.args.bytes.now c.loop-at.at c.loop-at.fields c.in_ok-field.field c.in_ok-field.end fits c.loop-at-test.true c.loop-at.invariant.found (sym c.in_ok-field.ensures.exact));
    }

pub returns-clause-within : goal.returns-clause-within
returns-clause-within c =
    let whole : take c.loop-at.at c.args.bytes.now ≡ c.args.bytes.now = take_all c.loop-at.at c.args.bytes.now c.loop-at-test.false in
    let found : Records c.args.bytes.now c.loop-at.fields = subst (λ (b : List ℕ). Records b c.loop-at.fields) whole c.loop-at.invariant.found in
    all_within c.args.bytes.now c.loop-at.fields found

pub returns-clause-records : goal.returns-clause-records
returns-clause-records c fields is =
    let whole : take c.loop-at.at c.args.bytes.now ≡ c.args.bytes.now = take_all c.loop-at.at c.args.bytes.now c.loop-at-test.false in
    let found : Records c.args.bytes.now c.loop-at.fields = subst (λ (b : List ℕ). Records b c.loop-at.fields) whole c.loop-at.invariant.found in
    ap (λ (f : List WireField). Ok f) (one_message c.args.bytes.now fields c.loop-at.fields is found)

pub returns-clause-faulty : goal.returns-clause-faulty
returns-clause-faulty c cause is =
    let whole : take c.loop-at.at c.args.bytes.now ≡ c.args.bytes.now = take_all c.loop-at.at c.args.bytes.now c.loop-at-test.false in
    let found : Records c.args.bytes.now c.loop-at.fields = subst (λ (b : List ℕ). Records b c.loop-at.fields) whole c.loop-at.invariant.found in
    absurd (message_or_fault c.args.bytes.now c.loop-at.fields cause found is)
