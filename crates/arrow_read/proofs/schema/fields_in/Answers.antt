-- one more field
use Rattle.std.proofs.Common.{◌≡◌, ◌+◌, ◌-◌, ◌<◌, length, arith, ap, sym, ◌∙◌}
use Rattle.arrow_read.specs.Tables.{FieldView}
use Rattle.arrow_read.proofs.FieldLoop.{fields_step, names_more}
use Rattle.arrow_read.proofs.schema.fields_in.Goals as goal

pub loop-place-preserved : goal.loop-place-preserved
loop-place-preserved c =
    let left : c.args.fields.now.count - (c.loop-place.place + 1) ≡ c.args.fields.now.count - c.loop-place.place - 1 = omega arith in
    let more : 0 < c.args.fields.now.count - c.loop-place.place = omega arith in
    let size : length c.field.inside.name.now ≡ length c.in-Some.field.name = ap (λ (f : FieldView). length f.name) c.field.view_is in
    record {
      fields = rw (c.in_ok-push.ensures.ok, left)
          (sym (fields_step c.args.fields.now c.loop-place.found c.loop-place.place (c.args.fields.now.count - c.loop-place.place) c.in-Some.field more (sym c.in-Some.ensures)) ∙ c.loop-place.invariant.fields);
      names = rw c.in_ok-push.ensures.ok (names_more c.loop-place.found c.in-Some.field _ _ _ _ size c.in_ok-names.ensures.ok c.loop-place.invariant.names);
    }
