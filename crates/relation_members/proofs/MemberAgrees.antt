-- What is read of a member of a sound relation is the same at every level that suffices, where that of its inputs is.
use Rattle.std.proofs.Common.{◌≡◌, ℕ, ◌-◌, ◌≤◌, List, refl, sym, ap, ◌∙◌, arith}
use Rattle.std.specs.List.{AllByRecursion}
use Rattle.proto_fields.specs.declared.kind.MessageKind.{MessageKind}
use Rattle.proto_fields.specs.declared.kind.MessageKind.TheVariants as kinds
use Rattle.proto_fields.specs.declared.kind.PayloadKind.TheVariants.{Message}
use Rattle.proto_fields.specs.Fields.{Field}
use Rattle.proto_fields.specs.Kinds.{payload_of}
use Rattle.proto_fields.specs.Faults.{IsSoundField, IsSound}
use Rattle.proto_fields.specs.Readings.{payloads, Member}
use Rattle.expression_messages.specs.Messages.{message_at}
use Rattle.expression_messages.proofs.Agreement.{AreSound, fields_in, message_at-joined, payloads_sound, message_sound}
use Rattle.plain_relations.specs.Plain.{limit_of, offset_of, subquery_alias_of, to_df_of, deduplicate_of, renamed_of, set_operation_of}
use Rattle.expression_relations.specs.Reading.{project_of, filter_of, join_of, sort_of, aggregate_of, drop_columns_of, with_columns_of}
use Rattle.expression_relations.proofs.Agree.{project_agrees, filter_agrees, join_agrees, sort_agrees, aggregate_agrees, drop_columns_agrees, with_columns_agrees}
use Rattle.relation_members.specs.declared.member.RelationMember.{RelationMember}
use Rattle.relation_members.specs.declared.member.RelationMember.TheVariants as V
use Rattle.relation_members.specs.Members.{relation_member_of, member_at}
use Rattle.relation_members.proofs.Numbers.{read_at, project_at, filter_at, join_at, set_operation_at, sort_at, limit_at, aggregate_at, local_relation_at, offset_at, deduplicate_at, range_at, subquery_alias_at, to_df_at, renamed_at, drop_columns_at, with_columns_at, outside_at, OfNumbers, by_number}

-- what two readers agree on: all messages of relations, one after another, that are sound with so many levels
abbrev pub InputsAgree : {R : Type 0} → ℕ → (List Field → R) → (List Field → R) → Type 0
InputsAgree level read read_more = (messages : List (List ℕ)) → AllByRecursion (IsSound level kinds.Relation) messages → read_more (fields_in messages) ≡ read (fields_in messages)

-- the payloads in a message are sound with so many levels
abbrev AreSoundIn : ℕ → MessageKind → List Field → Type 0
AreSoundIn level kind fields = AllByRecursion (IsSoundField (IsSound level) kind) fields

-- ---- members over one input and over two

input_agrees : {R : Type 0} (level number : ℕ) (kind : MessageKind) (read read_more : List Field → R) → InputsAgree level read read_more → payload_of kind number ≡ Message kinds.Relation →
    (fields : List Field) → AreSoundIn level kind fields → read_more (message_at number fields) ≡ read (message_at number fields)
input_agrees level number kind read read_more agree is fields sound =
    let joined = message_at-joined number fields in
    ap read_more joined ∙ agree (payloads number fields) (payloads_sound level kind kinds.Relation number is fields sound) ∙ ap read (sym joined)

unary_agrees : {R A : Type 0} (level number more : ℕ) (kind : MessageKind) (read read_more : List Field → R) (of of_more : R → List Field → A) (made : A → RelationMember R) →
    InputsAgree level read read_more → payload_of kind 1 ≡ Message kinds.Relation →
    ((fields : List Field) → relation_member_of read level number fields ≡ made (of (read (message_at 1 fields)) fields)) →
    ((fields : List Field) → relation_member_of read_more more number fields ≡ made (of_more (read_more (message_at 1 fields)) fields)) →
    ((input : R) (fields : List Field) → AreSoundIn level kind fields → of_more input fields ≡ of input fields) →
    (fields : List Field) → AreSoundIn level kind fields → relation_member_of read_more more number fields ≡ relation_member_of read level number fields
unary_agrees {R} {A} level number more kind read read_more of of_more made agree over computes computes_more same fields sound =
    computes_more fields
    ∙ ap made (same (read_more (message_at 1 fields)) fields sound)
    ∙ ap (λ (input : R). made (of input fields)) (input_agrees level 1 kind read read_more agree over fields sound)
    ∙ sym (computes fields)

binary_agrees : {R A : Type 0} (level number more : ℕ) (kind : MessageKind) (read read_more : List Field → R) (of of_more : R → R → List Field → A) (made : A → RelationMember R) →
    InputsAgree level read read_more → payload_of kind 1 ≡ Message kinds.Relation → payload_of kind 2 ≡ Message kinds.Relation →
    ((fields : List Field) → relation_member_of read level number fields ≡ made (of (read (message_at 1 fields)) (read (message_at 2 fields)) fields)) →
    ((fields : List Field) → relation_member_of read_more more number fields ≡ made (of_more (read_more (message_at 1 fields)) (read_more (message_at 2 fields)) fields)) →
    ((input input2 : R) (fields : List Field) → AreSoundIn level kind fields → of_more input input2 fields ≡ of input input2 fields) →
    (fields : List Field) → AreSoundIn level kind fields → relation_member_of read_more more number fields ≡ relation_member_of read level number fields
binary_agrees {R} {A} level number more kind read read_more of of_more made agree over over2 computes computes_more same fields sound =
    computes_more fields
    ∙ ap made (same (read_more (message_at 1 fields)) (read_more (message_at 2 fields)) fields sound)
    ∙ ap (λ (input : R). made (of input (read_more (message_at 2 fields)) fields)) (input_agrees level 1 kind read read_more agree over fields sound)
    ∙ ap (λ (input : R). made (of (read (message_at 1 fields)) input fields)) (input_agrees level 2 kind read read_more agree over2 fields sound)
    ∙ sym (computes fields)

-- ---- each member

-- what is read of fields as a member of this number, where they are sound as a message of its kind
abbrev NumberAgrees : {R : Type 0} → ℕ → ℕ → (List Field → R) → (List Field → R) → ℕ → Type 0
NumberAgrees level more read read_more number =
    (fields : List Field) → ((kind : MessageKind) → payload_of kinds.Relation number ≡ Message kind → AreSoundIn level kind fields) → relation_member_of read_more more number fields ≡ relation_member_of read level number fields

numbers_agree : {R : Type 0} (level more : ℕ) (read read_more : List Field → R) → level ≤ more → InputsAgree level read read_more → OfNumbers (NumberAgrees level more read read_more)
unfolding payload_of
numbers_agree level more read read_more upper agree = record {
  read = λ fields sound. read_at read_more more fields ∙ sym (read_at read level fields);
  project = λ fields sound. unary_agrees level 3 more kinds.Project read read_more (project_of level) (project_of more) (λ m. V.Project m) agree refl (project_at read level) (project_at read_more more)
      (λ input found inside. project_agrees level more input found upper inside) fields (sound kinds.Project refl);
  filter = λ fields sound. unary_agrees level 4 more kinds.Filter read read_more (filter_of level) (filter_of more) (λ m. V.Filter m) agree refl (filter_at read level) (filter_at read_more more)
      (λ input found inside. filter_agrees level more input found upper inside) fields (sound kinds.Filter refl);
  join = λ fields sound. binary_agrees level 5 more kinds.Join read read_more (join_of level) (join_of more) (λ m. V.Join m) agree refl refl (join_at read level) (join_at read_more more)
      (λ left right found inside. join_agrees level more left right found upper inside) fields (sound kinds.Join refl);
  set_operation = λ fields sound. binary_agrees level 6 more kinds.SetOperation read read_more set_operation_of set_operation_of (λ m. V.SetOperation m) agree refl refl
      (set_operation_at read level) (set_operation_at read_more more) (λ left right found inside. refl) fields (sound kinds.SetOperation refl);
  sort = λ fields sound. unary_agrees level 7 more kinds.Sort read read_more (sort_of level) (sort_of more) (λ m. V.Sort m) agree refl (sort_at read level) (sort_at read_more more)
      (λ input found inside. sort_agrees level more input found upper inside) fields (sound kinds.Sort refl);
  limit = λ fields sound. unary_agrees level 8 more kinds.Limit read read_more limit_of limit_of (λ m. V.Limit m) agree refl (limit_at read level) (limit_at read_more more)
      (λ input found inside. refl) fields (sound kinds.Limit refl);
  aggregate = λ fields sound. unary_agrees level 9 more kinds.Aggregate read read_more (aggregate_of level) (aggregate_of more) (λ m. V.Aggregate m) agree refl (aggregate_at read level) (aggregate_at read_more more)
      (λ input found inside. aggregate_agrees level more input found upper inside) fields (sound kinds.Aggregate refl);
  local_relation = λ fields sound. local_relation_at read_more more fields ∙ sym (local_relation_at read level fields);
  offset = λ fields sound. unary_agrees level 13 more kinds.Offset read read_more offset_of offset_of (λ m. V.Offset m) agree refl (offset_at read level) (offset_at read_more more)
      (λ input found inside. refl) fields (sound kinds.Offset refl);
  deduplicate = λ fields sound. unary_agrees level 14 more kinds.Deduplicate read read_more deduplicate_of deduplicate_of (λ m. V.Deduplicate m) agree refl (deduplicate_at read level) (deduplicate_at read_more more)
      (λ input found inside. refl) fields (sound kinds.Deduplicate refl);
  range = λ fields sound. range_at read_more more fields ∙ sym (range_at read level fields);
  subquery_alias = λ fields sound. unary_agrees level 16 more kinds.SubqueryAlias read read_more subquery_alias_of subquery_alias_of (λ m. V.SubqueryAlias m) agree refl
      (subquery_alias_at read level) (subquery_alias_at read_more more) (λ input found inside. refl) fields (sound kinds.SubqueryAlias refl);
  to_df = λ fields sound. unary_agrees level 18 more kinds.ToDf read read_more to_df_of to_df_of (λ m. V.ToDf m) agree refl (to_df_at read level) (to_df_at read_more more)
      (λ input found inside. refl) fields (sound kinds.ToDf refl);
  renamed = λ fields sound. unary_agrees level 19 more kinds.WithColumnsRenamed read read_more renamed_of renamed_of (λ m. V.WithColumnsRenamed m) agree refl
      (renamed_at read level) (renamed_at read_more more) (λ input found inside. refl) fields (sound kinds.WithColumnsRenamed refl);
  drop_columns = λ fields sound. unary_agrees level 21 more kinds.Drop read read_more (drop_columns_of level) (drop_columns_of more) (λ m. V.DropColumns m) agree refl
      (drop_columns_at read level) (drop_columns_at read_more more) (λ input found inside. drop_columns_agrees level more input found upper inside) fields (sound kinds.Drop refl);
  with_columns = λ fields sound. unary_agrees level 23 more kinds.WithColumns read read_more (with_columns_of level) (with_columns_of more) (λ m. V.WithColumns m) agree refl
      (with_columns_at read level) (with_columns_at read_more more) (λ input found inside. with_columns_agrees level more input found upper inside) fields (sound kinds.WithColumns refl);
  outside = λ number out fields sound. outside_at read_more more number fields out ∙ sym (outside_at read level number fields out);
}

-- the member of a relation whose fields are sound at the lower level; its inputs and its expressions are two levels further in
pub member_agrees : {R : Type 0} (level more : ℕ) (read read_more : List Field → R) → level ≤ more → InputsAgree (level - 1 - 1) read read_more → (member : Member) → AreSound level kinds.Relation member.since →
    member_at read_more (more - 1 - 1) member ≡ member_at read (level - 1 - 1) member
member_agrees level more read read_more upper agree member sound =
    by_number (NumberAgrees (level - 1 - 1) (more - 1 - 1) read read_more) (numbers_agree (level - 1 - 1) (more - 1 - 1) read read_more (omega (arith, upper)) agree)
    member.number (message_at member.number member.since) (λ kind is. message_sound level kinds.Relation kind member.number is member.since sound)
