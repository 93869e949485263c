-- a slot that is there, and one whose entry lies outside
use Rattle.std.proofs.Common.{Some, refl, sym}
use Rattle.std.proofs.lemmas.Bool.{false≢true}
use Rattle.flat_tables.specs.Reading.{u8_field}
use Rattle.arrow_read.proofs.Presence.{there, outside, not_none, not_fault}
use Rattle.arrow_read.proofs.field.presence.Goals as goal

pub returns-then-has : goal.returns-then-has
returns-then-has c =
    let at = c.if-has.ensures.0 refl in
    sym (there c.args.table.now c.args.slot at.0 ((c.slots_are_found.ensures.found c.args.table.now.buffer c.args.table.now.place c.args.slot (Some at.0)).1 at.1))

pub returns-in-Ok-Some : goal.returns-in-Ok-Some
returns-in-Ok-Some c =
    sym (outside c.args.table.now c.args.slot
    (λ place e. false≢true (c.if-has.ensures.1 (place, (c.slots_are_found.ensures.found c.args.table.now.buffer c.args.table.now.place c.args.slot (Some place)).0 e)))
    (not_none c.u8_at.result (u8_field c.args.table.now c.args.slot) c.in-Ok-Some.field-0 c.in-Ok-Some.field-0-0 c.u8_at.ensures c.in-Ok-Some.is c.in-Ok-Some.field-0-is))

pub returns-in-Err : goal.returns-in-Err
returns-in-Err c =
    sym (outside c.args.table.now c.args.slot
    (λ place e. false≢true (c.if-has.ensures.1 (place, (c.slots_are_found.ensures.found c.args.table.now.buffer c.args.table.now.place c.args.slot (Some place)).0 e)))
    (not_fault c.u8_at.result (u8_field c.args.table.now c.args.slot) c.in-Err.field-0 c.u8_at.ensures c.in-Err.is))
