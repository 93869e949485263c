-- A member by its number: each number of the profile, and any other.
use Rattle.std.proofs.Common.{◌≡◌, ℕ, ◌==◌, Bool, true, false, List, refl, sym, subst}
use Rattle.std.proofs.lemmas.Bool.{eqb-true}
use Rattle.proto_fields.specs.Fields.{Field}
use Rattle.expression_messages.specs.Messages.{message_at}
use Rattle.relation_parts.specs.Parts.{read_of, range_of, local_relation_of}
use Rattle.plain_relations.specs.Plain.{limit_of, offset_of, subquery_alias_of, to_df_of, deduplicate_of, renamed_of, set_operation_of}
use Rattle.expression_relations.specs.Reading.{project_of, filter_of, join_of, sort_of, aggregate_of, drop_columns_of, with_columns_of}
use Rattle.relation_members.specs.declared.member.RelationMember.TheVariants as V
use Rattle.relation_members.specs.Members.{leaf_of, unary_of, binary_of, input_count, relation_member_of}

-- ---- the numbers of the profile

pub read_at : {R : Type 0} (inner : List Field → R) (level : ℕ) (fields : List Field) → relation_member_of inner level 2 fields ≡ V.Read (read_of fields)
unfolding relation_member_of input_count leaf_of
read_at inner level fields = refl

pub project_at : {R : Type 0} (inner : List Field → R) (level : ℕ) (fields : List Field) → relation_member_of inner level 3 fields ≡ V.Project (project_of level (inner (message_at 1 fields)) fields)
unfolding relation_member_of input_count unary_of
project_at inner level fields = refl

pub filter_at : {R : Type 0} (inner : List Field → R) (level : ℕ) (fields : List Field) → relation_member_of inner level 4 fields ≡ V.Filter (filter_of level (inner (message_at 1 fields)) fields)
unfolding relation_member_of input_count unary_of
filter_at inner level fields = refl

pub join_at : {R : Type 0} (inner : List Field → R) (level : ℕ) (fields : List Field) →
    relation_member_of inner level 5 fields ≡ V.Join (join_of level (inner (message_at 1 fields)) (inner (message_at 2 fields)) fields)
unfolding relation_member_of input_count binary_of
join_at inner level fields = refl

pub set_operation_at : {R : Type 0} (inner : List Field → R) (level : ℕ) (fields : List Field) →
    relation_member_of inner level 6 fields ≡ V.SetOperation (set_operation_of (inner (message_at 1 fields)) (inner (message_at 2 fields)) fields)
unfolding relation_member_of input_count binary_of
set_operation_at inner level fields = refl

pub sort_at : {R : Type 0} (inner : List Field → R) (level : ℕ) (fields : List Field) → relation_member_of inner level 7 fields ≡ V.Sort (sort_of level (inner (message_at 1 fields)) fields)
unfolding relation_member_of input_count unary_of
sort_at inner level fields = refl

pub limit_at : {R : Type 0} (inner : List Field → R) (level : ℕ) (fields : List Field) → relation_member_of inner level 8 fields ≡ V.Limit (limit_of (inner (message_at 1 fields)) fields)
unfolding relation_member_of input_count unary_of
limit_at inner level fields = refl

pub aggregate_at : {R : Type 0} (inner : List Field → R) (level : ℕ) (fields : List Field) → relation_member_of inner level 9 fields ≡ V.Aggregate (aggregate_of level (inner (message_at 1 fields)) fields)
unfolding relation_member_of input_count unary_of
aggregate_at inner level fields = refl

pub local_relation_at : {R : Type 0} (inner : List Field → R) (level : ℕ) (fields : List Field) → relation_member_of inner level 11 fields ≡ V.LocalRelation (local_relation_of fields)
unfolding relation_member_of input_count leaf_of
local_relation_at inner level fields = refl

pub offset_at : {R : Type 0} (inner : List Field → R) (level : ℕ) (fields : List Field) → relation_member_of inner level 13 fields ≡ V.Offset (offset_of (inner (message_at 1 fields)) fields)
unfolding relation_member_of input_count unary_of
offset_at inner level fields = refl

pub deduplicate_at : {R : Type 0} (inner : List Field → R) (level : ℕ) (fields : List Field) → relation_member_of inner level 14 fields ≡ V.Deduplicate (deduplicate_of (inner (message_at 1 fields)) fields)
unfolding relation_member_of input_count unary_of
deduplicate_at inner level fields = refl

pub range_at : {R : Type 0} (inner : List Field → R) (level : ℕ) (fields : List Field) → relation_member_of inner level 15 fields ≡ V.Range (range_of fields)
unfolding relation_member_of input_count leaf_of
range_at inner level fields = refl

pub subquery_alias_at : {R : Type 0} (inner : List Field → R) (level : ℕ) (fields : List Field) → relation_member_of inner level 16 fields ≡ V.SubqueryAlias (subquery_alias_of (inner (message_at 1 fields)) fields)
unfolding relation_member_of input_count unary_of
subquery_alias_at inner level fields = refl

pub to_df_at : {R : Type 0} (inner : List Field → R) (level : ℕ) (fields : List Field) → relation_member_of inner level 18 fields ≡ V.ToDf (to_df_of (inner (message_at 1 fields)) fields)
unfolding relation_member_of input_count unary_of
to_df_at inner level fields = refl

pub renamed_at : {R : Type 0} (inner : List Field → R) (level : ℕ) (fields : List Field) → relation_member_of inner level 19 fields ≡ V.WithColumnsRenamed (renamed_of (inner (message_at 1 fields)) fields)
unfolding relation_member_of input_count unary_of
renamed_at inner level fields = refl

pub drop_columns_at : {R : Type 0} (inner : List Field → R) (level : ℕ) (fields : List Field) → relation_member_of inner level 21 fields ≡ V.DropColumns (drop_columns_of level (inner (message_at 1 fields)) fields)
unfolding relation_member_of input_count unary_of
drop_columns_at inner level fields = refl

pub with_columns_at : {R : Type 0} (inner : List Field → R) (level : ℕ) (fields : List Field) → relation_member_of inner level 23 fields ≡ V.WithColumns (with_columns_of level (inner (message_at 1 fields)) fields)
unfolding relation_member_of input_count unary_of
with_columns_at inner level fields = refl

-- ---- the others

-- a number outside the profile
pub record IsOutside (number : ℕ) : Type 0 where
  pub read : (number == 2) ≡ false
  pub project : (number == 3) ≡ false
  pub filter : (number == 4) ≡ false
  pub join : (number == 5) ≡ false
  pub set_operation : (number == 6) ≡ false
  pub sort : (number == 7) ≡ false
  pub limit : (number == 8) ≡ false
  pub aggregate : (number == 9) ≡ false
  pub local_relation : (number == 11) ≡ false
  pub offset : (number == 13) ≡ false
  pub deduplicate : (number == 14) ≡ false
  pub range : (number == 15) ≡ false
  pub subquery_alias : (number == 16) ≡ false
  pub to_df : (number == 18) ≡ false
  pub renamed : (number == 19) ≡ false
  pub drop_columns : (number == 21) ≡ false
  pub with_columns : (number == 23) ≡ false

outside_count : (number : ℕ) → IsOutside number → input_count number ≡ 0
unfolding input_count
outside_count number out =
    rw (out.join, out.set_operation, out.project, out.filter, out.sort, out.limit)
    (rw (out.aggregate, out.offset, out.deduplicate, out.subquery_alias, out.to_df) (rw (out.renamed, out.drop_columns, out.with_columns) refl))

pub outside_at : {R : Type 0} (inner : List Field → R) (level number : ℕ) (fields : List Field) → IsOutside number → relation_member_of inner level number fields ≡ V.Other number
unfolding relation_member_of leaf_of
outside_at inner level number fields out = rw (outside_count number out) (rw (out.read, out.local_relation, out.range) refl)

-- ---- a fact of every number

by_test : (P : ℕ → Type 0) (number k : ℕ) (test : Bool) → (number == k) ≡ test → P k → ((number == k) ≡ false → P number) → P number
by_test P number k true is here other = subst P (sym (eqb-true number k is)) here
by_test P number k false is here other = other is

at_or : (P : ℕ → Type 0) (number k : ℕ) → P k → ((number == k) ≡ false → P number) → P number
at_or P number k here other = by_test P number k (number == k) refl here other

-- a fact of each number of the profile, and of those outside
pub record OfNumbers (P : ℕ → Type 0) : Type 0 where
  pub read : P 2
  pub project : P 3
  pub filter : P 4
  pub join : P 5
  pub set_operation : P 6
  pub sort : P 7
  pub limit : P 8
  pub aggregate : P 9
  pub local_relation : P 11
  pub offset : P 13
  pub deduplicate : P 14
  pub range : P 15
  pub subquery_alias : P 16
  pub to_df : P 18
  pub renamed : P 19
  pub drop_columns : P 21
  pub with_columns : P 23
  pub outside : (number : ℕ) → IsOutside number → P number

pub by_number : (P : ℕ → Type 0) → OfNumbers P → (number : ℕ) → P number
by_number P each number =
    at_or P number 2 each.read (λ read. at_or P number 3 each.project (λ project. at_or P number 4 each.filter (λ filter.
    at_or P number 5 each.join (λ join. at_or P number 6 each.set_operation (λ set_operation. at_or P number 7 each.sort (λ sort.
    at_or P number 8 each.limit (λ limit. at_or P number 9 each.aggregate (λ aggregate. at_or P number 11 each.local_relation (λ local_relation.
    at_or P number 13 each.offset (λ offset. at_or P number 14 each.deduplicate (λ deduplicate. at_or P number 15 each.range (λ range.
    at_or P number 16 each.subquery_alias (λ subquery_alias. at_or P number 18 each.to_df (λ to_df. at_or P number 19 each.renamed (λ renamed.
    at_or P number 21 each.drop_columns (λ drop_columns. at_or P number 23 each.with_columns (λ with_columns.
    each.outside number (record {
      read = read;
      project = project;
      filter = filter;
      join = join;
      set_operation = set_operation;
      sort = sort;
      limit = limit;
      aggregate = aggregate;
      local_relation = local_relation;
      offset = offset;
      deduplicate = deduplicate;
      range = range;
      subquery_alias = subquery_alias;
      to_df = to_df;
      renamed = renamed;
      drop_columns = drop_columns;
      with_columns = with_columns;
    }))))))))))))))))))
