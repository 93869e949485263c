-- Each exit is what the groups so far come to.
use Rattle.std.proofs.Common.{◌≡◌, ◌+◌, ◌<◌, length, get_or, take, drop, sym, arith}
use Rattle.std.proofs.lemmas.Bool.{ltb-false}
use Rattle.proto_wire.specs.Faults.{AllContinue}
use Rattle.proto_wire.proofs.GroupLemmas.{varint_at-short, varint_at-long, varint_at-found, next_continues, next_value}
use Rattle.proto_wire.proofs.reading.varint_at.Goals as goal

pub returns-in_default-clause-exact : goal.returns-in_default-clause-exact
returns-in_default-clause-exact c =
    sym (varint_at-short c.args.bytes.now c.args.at c.loop-index.index c.loop-index.invariant.within (ltb-false _ _ (sym c.in_default.ensures.lookup.0)) (omega arith) c.loop-index.invariant.continued)

pub returns-then-byte-lt128-clause-exact : goal.returns-then-byte-lt128-clause-exact
returns-then-byte-lt128-clause-exact c =
    let is : c.in-Some.field-0.now ≡ get_or c.args.bytes.now (c.args.at + c.loop-index.index) 0 = c.in-Some.ensures.lookup.4 (omega arith) 0 in
    let inside : c.args.at + c.loop-index.index < length c.args.bytes.now = c.in-Some.ensures.lookup.3.0 in
    rw c.from-group.ensures (sym (varint_at-found c.args.bytes.now c.args.at c.loop-index.index c.in-Some.field-0.now c.loop-index.value inside (omega arith) is c.if-byte-lt128.true c.loop-index.invariant.continued c.loop-index.invariant.value))

pub loop-index-preserved : goal.loop-index-preserved
loop-index-preserved c =
    let is : c.in-Some.field-0.now ≡ get_or c.args.bytes.now (c.args.at + c.loop-index.index) 0 = c.in-Some.ensures.lookup.4 (omega arith) 0 in
    let inside : c.args.at + c.loop-index.index < length c.args.bytes.now = c.in-Some.ensures.lookup.3.0 in
    record {
      continued = next_continues c.args.bytes.now c.args.at c.loop-index.index c.in-Some.field-0.now inside is (rw is (omega (arith, c.type_inv.bytes (c.args.at + c.loop-index.index)))) c.if-byte-lt128.false c.loop-index.invariant.continued;
      value = rw c.from-group.ensures (next_value c.args.bytes.now c.args.at c.loop-index.index c.in-Some.field-0.now c.loop-index.value inside is c.loop-index.invariant.value);
      within = omega arith;
    }

pub returns-clause-exact : goal.returns-clause-exact
returns-clause-exact c =
    let ten : c.loop-index.index ≡ 10 = omega arith in
    let all : AllContinue (take 10 (drop c.args.at c.args.bytes.now)) = rw (← ten) c.loop-index.invariant.continued in
    sym (varint_at-long c.args.bytes.now c.args.at (omega arith) all)
