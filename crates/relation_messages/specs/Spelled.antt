-- Relations as fields, in one spelling: what all have in common where it is present, and then the member.
use Rattle.std.specs.Prelude.{List, ◌++◌, Option, option_map}
use Rattle.proto_fields.specs.Fields.{Field}
use Rattle.proto_fields.specs.Spelling.{spell, optional_payload_fields}
use Rattle.relation_parts.specs.declared.common.RelationCommon.{RelationCommon}
use Rattle.relation_parts.specs.Spelled.{common_fields}
use Rattle.relation_members.specs.Spelled.{member_fields}
use Rattle.relation_messages.specs.declared.relation.Relation.{Relation}
use Rattle.relation_messages.specs.declared.relation.Relation.TheOpen.{Relation-F}
use Rattle.relation_messages.specs.declared.relation.Relation.TheFolds.{fold-Relation}

-- common 1
abbrev pub common_field : Option RelationCommon → List Field
common_field common = optional_payload_fields 1 (option_map (λ present. spell (common_fields present)) common)

-- one relation, with the fields of each relation in it in its place
abbrev pub relation_fields_step : Relation-F (List Field) → List Field
relation_fields_step relation = common_field relation.common ++ member_fields (λ inner. inner) relation.member

unfoldable pub relation_fields : Relation → List Field
relation_fields = fold-Relation (List Field) relation_fields_step
