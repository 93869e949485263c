-- The field that a member is spelled as is read as the member, where its inputs are read back.
use Rattle.std.proofs.Common.{◌≡◌, ℕ, ◌+◌, ◌<◌, ◌≤◌, true, List, ◌++◌, refl, arith}
use Rattle.std.specs.Prelude.{IsTrue, IfSome}
use Rattle.std.proofs.lemmas.Bool.{false≢true}
use Rattle.proto_fields.specs.declared.kind.MessageKind.{MessageKind}
use Rattle.proto_fields.specs.declared.kind.MessageKind.TheVariants as kinds
use Rattle.proto_fields.specs.declared.kind.PayloadKind.TheVariants.{Message}
use Rattle.proto_fields.specs.Fields.{Field}
use Rattle.proto_fields.specs.Kinds.{is_payload_member, payload_of}
use Rattle.proto_fields.specs.Spelling.{spell, payload_fields}
use Rattle.expression_messages.specs.Messages.{message_at}
use Rattle.expression_messages.specs.Laws.{IsShort, IsReadBack}
use Rattle.expression_messages.proofs.Pieces.{short_two, short_payload, IsNumber, is_numbered}
use Rattle.field_groups.proofs.Groups.{three_short}
use Rattle.field_groups.proofs.Rests.{RestBack}
use Rattle.relation_parts.specs.Parts.{read_of, range_of, local_relation_of}
use Rattle.relation_parts.specs.Spelled.{read_fields, range_fields, local_relation_fields}
use Rattle.relation_parts.proofs.PartsBack.{read_read_back, range_read_back, local_relation_read_back}
use Rattle.plain_relations.specs.Plain.{limit_of, offset_of, subquery_alias_of, to_df_of, deduplicate_of, renamed_of, set_operation_of}
use Rattle.plain_relations.specs.Spelled.{limit_rest, offset_rest, subquery_alias_rest, to_df_rest, deduplicate_rest, renamed_rest, set_operation_rest}
use Rattle.plain_relations.proofs.PlainBack.{limit_back, offset_back, subquery_alias_back, to_df_back, deduplicate_back, renamed_back, set_operation_back}
use Rattle.expression_relations.specs.Reading.{project_of, filter_of, join_of, sort_of, aggregate_of, drop_columns_of, with_columns_of}
use Rattle.expression_relations.specs.Spelled.{project_rest, filter_rest, join_rest, sort_rest, aggregate_rest, drop_columns_rest, with_columns_rest}
use Rattle.expression_relations.proofs.Back.{project_back, filter_back, join_back, sort_back, aggregate_back, drop_columns_back, with_columns_back}
use Rattle.relation_members.specs.declared.member.RelationMember.{RelationMember}
use Rattle.relation_members.specs.declared.member.RelationMember.TheVariants as V
use Rattle.relation_members.specs.Members.{relation_member_of}
use Rattle.relation_members.specs.Inputs.{first_of, second_of}
use Rattle.relation_members.specs.Spelled.{member_fields}
use Rattle.relation_members.specs.Depths.{rest_depth}
use Rattle.relation_members.specs.Known.{is_known_rest, HasRestBits}
use Rattle.relation_members.proofs.Messages.{one_input, two_inputs, FieldBack, field_back}
use Rattle.relation_members.proofs.Numbers.{read_at, project_at, filter_at, join_at, set_operation_at, sort_at, limit_at, aggregate_at, local_relation_at, offset_at, deduplicate_at, range_at, subquery_alias_at, to_df_at, renamed_at, drop_columns_at, with_columns_at}

-- an input is sound and read back, where relations are spelled and read so
abbrev pub IsInputBack : {R : Type 0} → ℕ → (R → List Field) → (List Field → R) → R → Type 0
IsInputBack level inner read input = IsReadBack level kinds.Relation (inner input) read input

-- a number of a relation's oneof, whose message is of this kind
record IsMember (number : ℕ) (kind : MessageKind) : Type 0 where
  above : 1 < number
  is_number : IsNumber number
  is_kind : payload_of kinds.Relation number ≡ Message kind
  member : is_payload_member kinds.Relation number ≡ true

is_member : (number : ℕ) (kind : MessageKind) → 1 < number → number ≤ 536870911 → payload_of kinds.Relation number ≡ Message kind → is_payload_member kinds.Relation number ≡ true → IsMember number kind
is_member number kind above high is_kind member = record { above = above; is_number = is_numbered number (omega (arith, above)) high; is_kind = is_kind; member = member }

-- ---- a member without an input, over one and over two

leaf_back : {R A : Type 0} (level number : ℕ) (kind : MessageKind) (fields : List Field) (read : List Field → R) (of : List Field → A) (value : A) (made : A → RelationMember R) → IsMember number kind →
    IsShort (payload_fields number (spell fields)) → (IsShort fields → IsReadBack (1 + level) kind fields of value) → ((found : List Field) → relation_member_of read level number found ≡ made (of found)) →
    FieldBack level (payload_fields number (spell fields)) read (made value)
leaf_back level number kind fields read of value made is short back computes =
    let few = short_payload number (spell fields) short in
    field_back level number kind fields read of value made is.above is.is_number is.is_kind is.member few computes (back few)

unary_back : {R A : Type 0} (level number : ℕ) (kind : MessageKind) (fields : List Field) (read : List Field → R) (input : R) (rest : List Field) (of : R → List Field → A) (value : A) (made : A → RelationMember R) →
    IsMember number kind → payload_of kind 1 ≡ Message kinds.Relation → IsShort (payload_fields number (spell (payload_fields 1 (spell fields) ++ rest))) → IsReadBack level kinds.Relation fields read input →
    (IsShort rest → RestBack level 1 kind rest (of input) value) → ((found : List Field) → relation_member_of read level number found ≡ made (of (read (message_at 1 found)) found)) →
    FieldBack level (payload_fields number (spell (payload_fields 1 (spell fields) ++ rest))) read (made value)
unary_back level number kind fields read input rest of value made is over short input_back back computes =
    let whole = payload_fields 1 (spell fields) ++ rest in
    let few = short_payload number (spell whole) short in
    let parts = short_two (payload_fields 1 (spell fields)) rest few in
    field_back level number kind whole read (λ found. of (read (message_at 1 found)) found) value made is.above is.is_number is.is_kind is.member few computes
    (one_input level kind fields read input rest of value over (short_payload 1 (spell fields) parts.0) input_back (back parts.1))

binary_back : {R A : Type 0} (level number : ℕ) (kind : MessageKind) (fields fields2 : List Field) (read : List Field → R) (input input2 : R) (rest : List Field) (of : R → R → List Field → A) (value : A) (made : A → RelationMember R) →
    IsMember number kind → payload_of kind 1 ≡ Message kinds.Relation → payload_of kind 2 ≡ Message kinds.Relation →
    IsShort (payload_fields number (spell (payload_fields 1 (spell fields) ++ payload_fields 2 (spell fields2) ++ rest))) → IsReadBack level kinds.Relation fields read input → IsReadBack level kinds.Relation fields2 read input2 →
    (IsShort rest → RestBack level 2 kind rest (of input input2) value) → ((found : List Field) → relation_member_of read level number found ≡ made (of (read (message_at 1 found)) (read (message_at 2 found)) found)) →
    FieldBack level (payload_fields number (spell (payload_fields 1 (spell fields) ++ payload_fields 2 (spell fields2) ++ rest))) read (made value)
binary_back level number kind fields fields2 read input input2 rest of value made is over over2 short input_back input_back2 back computes =
    let whole = payload_fields 1 (spell fields) ++ payload_fields 2 (spell fields2) ++ rest in
    let few = short_payload number (spell whole) short in
    let parts = three_short (payload_fields 1 (spell fields)) (payload_fields 2 (spell fields2)) rest few in
    field_back level number kind whole read (λ found. of (read (message_at 1 found)) (read (message_at 2 found)) found) value made is.above is.is_number is.is_kind is.member few computes
    (two_inputs level kind fields fields2 read input input2 rest of value over over2 (short_payload 1 (spell fields) parts.first) (short_payload 2 (spell fields2) parts.second) input_back input_back2 (back parts.third))

-- ---- each member

pub member_back : {R : Type 0} (level : ℕ) (inner : R → List Field) (read : List Field → R) (member : RelationMember R) → IsTrue (is_known_rest member) → HasRestBits member →
    IsShort (member_fields inner member) → rest_depth member ≤ level → IfSome (first_of member) (IsInputBack level inner read) → IfSome (second_of member) (IsInputBack level inner read) →
    FieldBack level (member_fields inner member) read member
unfolding payload_of
member_back level inner read (V.Read it) known bits short deep first second =
    leaf_back level 2 kinds.Read (read_fields it) read read_of it (λ m. V.Read m) (is_member 2 kinds.Read (omega arith) (omega arith) refl refl) short
    (λ few. read_read_back (1 + level) it bits few (omega (arith, deep))) (read_at read level)
member_back level inner read (V.Project it) known bits short deep first second =
    unary_back level 3 kinds.Project (inner it.input) read it.input (project_rest it) (project_of level) it (λ m. V.Project m) (is_member 3 kinds.Project (omega arith) (omega arith) refl refl) refl short first
    (λ few. project_back level it known bits few deep) (project_at read level)
member_back level inner read (V.Filter it) known bits short deep first second =
    unary_back level 4 kinds.Filter (inner it.input) read it.input (filter_rest it) (filter_of level) it (λ m. V.Filter m) (is_member 4 kinds.Filter (omega arith) (omega arith) refl refl) refl short first
    (λ few. filter_back level it known bits few deep) (filter_at read level)
member_back level inner read (V.Join it) known bits short deep first second =
    binary_back level 5 kinds.Join (inner it.left) (inner it.right) read it.left it.right (join_rest it) (join_of level) it (λ m. V.Join m) (is_member 5 kinds.Join (omega arith) (omega arith) refl refl) refl refl short first second
    (λ few. join_back level it known bits few deep) (join_at read level)
member_back level inner read (V.SetOperation it) known bits short deep first second =
    binary_back level 6 kinds.SetOperation (inner it.left_input) (inner it.right_input) read it.left_input it.right_input (set_operation_rest it) set_operation_of it (λ m. V.SetOperation m)
    (is_member 6 kinds.SetOperation (omega arith) (omega arith) refl refl) refl refl short first second
    (λ few. set_operation_back level it bits few) (set_operation_at read level)
member_back level inner read (V.Sort it) known bits short deep first second =
    unary_back level 7 kinds.Sort (inner it.input) read it.input (sort_rest it) (sort_of level) it (λ m. V.Sort m) (is_member 7 kinds.Sort (omega arith) (omega arith) refl refl) refl short first
    (λ few. sort_back level it known bits few deep) (sort_at read level)
member_back level inner read (V.Limit it) known bits short deep first second =
    unary_back level 8 kinds.Limit (inner it.input) read it.input (limit_rest it) limit_of it (λ m. V.Limit m) (is_member 8 kinds.Limit (omega arith) (omega arith) refl refl) refl short first
    (λ few. limit_back level it bits few) (limit_at read level)
member_back level inner read (V.Aggregate it) known bits short deep first second =
    unary_back level 9 kinds.Aggregate (inner it.input) read it.input (aggregate_rest it) (aggregate_of level) it (λ m. V.Aggregate m) (is_member 9 kinds.Aggregate (omega arith) (omega arith) refl refl) refl short first
    (λ few. aggregate_back level it known bits few deep) (aggregate_at read level)
member_back level inner read (V.LocalRelation it) known bits short deep first second =
    leaf_back level 11 kinds.LocalRelation (local_relation_fields it) read local_relation_of it (λ m. V.LocalRelation m) (is_member 11 kinds.LocalRelation (omega arith) (omega arith) refl refl) short
    (λ few. local_relation_read_back (1 + level) it bits few (omega arith)) (local_relation_at read level)
member_back level inner read (V.Offset it) known bits short deep first second =
    unary_back level 13 kinds.Offset (inner it.input) read it.input (offset_rest it) offset_of it (λ m. V.Offset m) (is_member 13 kinds.Offset (omega arith) (omega arith) refl refl) refl short first
    (λ few. offset_back level it bits few) (offset_at read level)
member_back level inner read (V.Deduplicate it) known bits short deep first second =
    unary_back level 14 kinds.Deduplicate (inner it.input) read it.input (deduplicate_rest it) deduplicate_of it (λ m. V.Deduplicate m) (is_member 14 kinds.Deduplicate (omega arith) (omega arith) refl refl) refl short first
    (λ few. deduplicate_back level it bits few) (deduplicate_at read level)
member_back level inner read (V.Range it) known bits short deep first second =
    leaf_back level 15 kinds.Range (range_fields it) read range_of it (λ m. V.Range m) (is_member 15 kinds.Range (omega arith) (omega arith) refl refl) short
    (λ few. range_read_back (1 + level) it bits few (omega arith)) (range_at read level)
member_back level inner read (V.SubqueryAlias it) known bits short deep first second =
    unary_back level 16 kinds.SubqueryAlias (inner it.input) read it.input (subquery_alias_rest it) subquery_alias_of it (λ m. V.SubqueryAlias m) (is_member 16 kinds.SubqueryAlias (omega arith) (omega arith) refl refl) refl short first
    (λ few. subquery_alias_back level it bits few) (subquery_alias_at read level)
member_back level inner read (V.ToDf it) known bits short deep first second =
    unary_back level 18 kinds.ToDf (inner it.input) read it.input (to_df_rest it) to_df_of it (λ m. V.ToDf m) (is_member 18 kinds.ToDf (omega arith) (omega arith) refl refl) refl short first
    (λ few. to_df_back level it bits few) (to_df_at read level)
member_back level inner read (V.WithColumnsRenamed it) known bits short deep first second =
    unary_back level 19 kinds.WithColumnsRenamed (inner it.input) read it.input (renamed_rest it) renamed_of it (λ m. V.WithColumnsRenamed m)
    (is_member 19 kinds.WithColumnsRenamed (omega arith) (omega arith) refl refl) refl short first
    (λ few. renamed_back level it bits few deep) (renamed_at read level)
member_back level inner read (V.DropColumns it) known bits short deep first second =
    unary_back level 21 kinds.Drop (inner it.input) read it.input (drop_columns_rest it) (drop_columns_of level) it (λ m. V.DropColumns m) (is_member 21 kinds.Drop (omega arith) (omega arith) refl refl) refl short first
    (λ few. drop_columns_back level it known bits few deep) (drop_columns_at read level)
member_back level inner read (V.WithColumns it) known bits short deep first second =
    unary_back level 23 kinds.WithColumns (inner it.input) read it.input (with_columns_rest it) (with_columns_of level) it (λ m. V.WithColumns m) (is_member 23 kinds.WithColumns (omega arith) (omega arith) refl refl) refl short first
    (λ few. with_columns_back level it known bits few deep) (with_columns_at read level)
member_back level inner read (V.Other number) known bits short deep first second = absurd (false≢true known)
