-- Relations, read of the fields of their messages (`relations.proto`, Relation). A level is how many messages may be nested, the message itself
-- among them.
use Rattle.std.specs.Prelude.{ℕ, zero, suc, List, None, option_map, unwrap_or}
use Rattle.proto_fields.specs.declared.kind.MessageKind.TheVariants as kinds
use Rattle.proto_fields.specs.Fields.{Field}
use Rattle.proto_fields.specs.Readings.{merged, latest}
use Rattle.relation_parts.specs.Parts.{common_of}
use Rattle.relation_members.specs.declared.member.RelationMember.TheVariants as V
use Rattle.relation_members.specs.Members.{member_at}
use Rattle.relation_messages.specs.declared.relation.Relation.{Relation}
use Rattle.relation_messages.specs.declared.relation.Relation.TheViews.{roll-Relation}

-- no relation
abbrev pub absent : Relation
absent = roll-Relation (record { common = None; member = V.Other 0 })

-- common 1 and the member that was set last, where the relations in it are read so; an absent member is Other 0
abbrev pub relation_of : (List Field → Relation) → ℕ → List Field → Relation
relation_of inner level fields = roll-Relation (record {
  common = option_map common_of (merged 1 fields);
  member = unwrap_or (option_map (member_at inner level) (latest kinds.Relation fields)) (V.Other 0);
})

-- a relation or an expression in a relation is two levels further in: the member's message stands between. Where no level is left, it is absent
unfoldable pub relation_at : ℕ → List Field → Relation
relation_at zero fields = absent
relation_at (suc zero) fields = relation_of (relation_at zero) zero fields
relation_at (suc (suc level)) fields = relation_of (relation_at level) level fields
