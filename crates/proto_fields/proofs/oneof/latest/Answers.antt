-- The records after the place are those since another member was set.
use Rattle.std.proofs.Common.{◌≡◌, Some, refl, sym, ap, ◌∙◌}
use Rattle.std.specs.List.{after_last}
use Rattle.std.proofs.lemmas.List.{drop-map}
use Rattle.proto_fields.specs.Readings.{last_some, member_in, latest, sets_other}
use Rattle.proto_fields.specs.Views.{field_of, seen}
use Rattle.proto_fields.proofs.oneof.latest.Goals as goal

pub returns-in-Some : goal.returns-in-Some
unfolding latest
returns-in-Some c =
    let set : last_some (member_in c.args.kind) (seen c.args.records.now) ≡ Some c.in-Some.number = sym c.last_member.ensures ∙ c.in-Some.is in
    let since : seen c.split_at.result.1.now ≡ after_last (sets_other c.args.kind c.in-Some.number) (seen c.args.records.now) =
    ap seen c.split_at.ensures.back ∙ sym (drop-map field_of c.place_since.result c.args.records.now) ∙ c.place_since.ensures.since in
    rw (set, ← since) refl
