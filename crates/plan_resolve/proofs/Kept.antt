-- What each rule keeps, every relation that is resolved has.
use Rattle.std.proofs.Common.{◌≡◌, ℕ, Bool, List, Option, None, Some, Ok, Err, sym, subst}
use Rattle.std.specs.Prelude.{IfOk, IfSome, nat_eq, unwrap_or, ℤ, pos}
use Rattle.table_store.specs.declared.tables.NamedTable.{NamedTable}
use Rattle.relation_parts.specs.declared.common.RelationCommon.{RelationCommon}
use Rattle.relation_members.specs.declared.member.RelationMember.{RelationMember}
use Rattle.relation_members.specs.declared.member.RelationMember.TheVariants as V
use Rattle.relation_members.specs.Inputs.{first_of, second_of}
use Rattle.relation_messages.specs.declared.relation.Relation.{Relation}
use Rattle.relation_messages.specs.declared.relation.Relation.TheViews.{out-Relation}
use Rattle.resolve_names.specs.Checks.{Checked, ◌>>=◌}
use Rattle.resolve_relations.specs.declared.found.FoundOf.{FoundOf}
use Rattle.resolve_relations.specs.Columns.{ids_from, within_limits}
use Rattle.resolve_sound.specs.Laws.{AggregatesAre, FewerColumnsAre, KeptRelationsAre, LeavesAre, ProjectionsAre, RenamedRelationsAre, TestedRelationsAre}
use Rattle.resolve_sound.specs.PairLaws.{JoinsAre, SetOperationsAre}
use Rattle.resolve_sound.proofs.Chains.{then_holds}
use Rattle.plan_resolve.specs.Drawing.{counted}
use Rattle.plan_resolve.specs.Given.{behind_first, behind_inputs, given, input_found, walked}
use Rattle.plan_resolve.specs.Local.{local_rule}
use Rattle.plan_resolve.specs.Members.{identifier_of, is_set, limited, member_rule, plan_id_of, tagged}
use Rattle.plan_resolve.proofs.Induction.{by_inputs}
use Rattle.plan_resolve.proofs.Walked.{is_walked}

-- every rule makes such relations of such ones, over tables of which this holds
pub record AllKeep (Are : List NamedTable → Type 0) (Is : FoundOf ℕ → Type 0) : Type 0 where
  pub leaves : LeavesAre ℕ Are Is
  pub locals : (fresh : ℕ → ℕ) (payload schema : Option (List ℕ)) → IfOk (local_rule fresh payload schema) Is
  pub rows : KeptRelationsAre ℕ Is
  pub names : RenamedRelationsAre ℕ Is
  pub fewer : FewerColumnsAre ℕ Is
  pub tests : TestedRelationsAre Is
  pub projections : ProjectionsAre Is
  pub aggregates : AggregatesAre Is
  pub joins : JoinsAre Is
  pub sets : SetOperationsAre ℕ Is
  pub tags : (found : FoundOf ℕ) (plan : Option ℤ) → Is found → Is (tagged found plan)

module _ (Are : List NamedTable → Type 0) (Is : FoundOf ℕ → Type 0) (keep : AllKeep Are Is) (exact : Bool) (tables : List NamedTable) (are : Are tables) where
  over_one : {R : Type 0} (input : R) (f : Option (FoundOf ℕ)) (rule : FoundOf ℕ → Checked (FoundOf ℕ)) → IfSome f Is →
      ((x : FoundOf ℕ) → Is x → IfOk (rule x) Is) → IfOk (given f input >>= rule) Is
  over_one input (Some x) rule is keeps = keeps x is
  over_one input None rule is keeps = tt

  over_two : {R : Type 0} (left right : R) (f s : Option (FoundOf ℕ)) (rule : FoundOf ℕ → FoundOf ℕ → Checked (FoundOf ℕ)) → IfSome f Is → IfSome s Is →
      ((x y : FoundOf ℕ) → Is x → Is y → IfOk (rule x y) Is) → IfOk (given f left >>= λ x. given s right >>= λ y. rule x y) Is
  over_two left right (Some x) s rule first second keeps = over_one right s (rule x) second (λ y is. keeps x y first is)
  over_two left right None s rule first second keeps = tt

  module _ (fresh : ℕ → ℕ) (f s : Option (FoundOf ℕ)) (first : IfSome f Is) (second : IfSome s Is) where
    member_keeps : (member : RelationMember Relation) → IfOk (member_rule nat_eq exact tables fresh (given f) (given s) member) Is
    unfolding member_rule
    member_keeps (V.Read it) = keep.leaves.tables fresh tables (identifier_of it) are
    member_keeps (V.Project it) = over_one it.input f _ first (λ x is. keep.aggregates.projections exact fresh it.expressions x is)
    member_keeps (V.Filter it) = over_one it.input f _ first (λ x is. keep.tests.filters exact it.condition x is)
    member_keeps (V.Join it) = over_two it.left it.right f s _ first second
        (λ x y one other. keep.joins.joins exact fresh it.join_type it.join_condition it.using_columns x y one other)
    member_keeps (V.SetOperation it) = over_two it.left_input it.right_input f s _ first second
        (λ x y one other. keep.sets.set_operations exact fresh it.set_op_type (is_set it.is_all) (is_set it.by_name) (is_set it.allow_missing_columns) x y one other)
    member_keeps (V.Sort it) = over_one it.input f _ first (λ x is. keep.tests.sorts exact it.order x is)
    member_keeps (V.Limit it) = over_one it.input f _ first (λ x is. keep.rows.limits it.number x is)
    member_keeps (V.Aggregate it) = over_one it.input f _ first
        (λ x is. keep.aggregates.groups exact fresh it.group_type it.grouping_expressions it.aggregate_expressions x is)
    member_keeps (V.LocalRelation it) = keep.locals fresh it.payload it.schema
    member_keeps (V.Offset it) = over_one it.input f _ first (λ x is. keep.rows.offsets it.number x is)
    member_keeps (V.Deduplicate it) = over_one it.input f _ first (λ x is. keep.rows.distinct_rows exact (is_set it.all_columns_as_keys) it.column_names x is)
    member_keeps (V.Range it) = keep.leaves.ranges fresh (unwrap_or it.start (pos 0)) it.end it.step
    member_keeps (V.SubqueryAlias it) = over_one it.input f _ first (λ x is. keep.rows.aliases it.alias x is)
    member_keeps (V.ToDf it) = over_one it.input f _ first (λ x is. keep.names.all_renamed fresh it.column_names x is)
    member_keeps (V.WithColumnsRenamed it) = over_one it.input f _ first (λ x is. keep.names.some_renamed exact fresh it.rename_map.entries x is)
    member_keeps (V.DropColumns it) = over_one it.input f _ first (λ x is. keep.fewer.fewer_columns nat_eq exact it.columns it.column_names x is)
    member_keeps (V.WithColumns it) = over_one it.input f _ first (λ x is. keep.projections.more_columns exact fresh it.aliases x is)
    member_keeps (V.Other number) = tt

  limited_keeps : (common : Option RelationCommon) (answer : Checked (FoundOf ℕ)) → IfOk answer Is → IfOk (limited common answer) Is
  unfolding limited
  limited_keeps common (Ok found) is = then_holds Is (within_limits found.columns) _ (λ w e. keep.tags found (plan_id_of common) is)
  limited_keeps common (Err stop) is = tt

  -- ---- the walk

  abbrev InputIs : Option (FoundOf ℕ) → Type 0
  InputIs input = IfSome input Is

  after_input : (input : Checked (Option (FoundOf ℕ))) (next : Option (FoundOf ℕ) → Checked (FoundOf ℕ)) → IfOk input InputIs →
      ((f : Option (FoundOf ℕ)) → InputIs f → IfOk (next f) Is) → IfOk (input >>= next) Is
  after_input (Ok f) next is keeps = keeps f is
  after_input (Err stop) next is keeps = tt

  as_input : (answer : Checked (FoundOf ℕ)) → IfOk answer Is → IfOk (answer >>= λ x. Ok (Some x)) InputIs
  as_input (Ok found) is = is
  as_input (Err stop) is = tt

  abbrev Held : Relation → Type 0
  Held relation = (base : ℕ) → IfOk ((counted exact tables relation).found base) Is

  input_keeps : (input : Option Relation) (base : ℕ) → IfSome input Held → IfOk (input_found exact tables input base) InputIs
  input_keeps (Some input) base held = as_input ((counted exact tables input).found base) (held base)
  input_keeps None base held = tt

  walked_keeps : (relation : Relation) (base : ℕ) → IfSome (first_of (out-Relation relation).member) Held → IfSome (second_of (out-Relation relation).member) Held →
      IfOk (walked exact tables relation base) Is
  unfolding walked
  walked_keeps relation base first second =
      let layer = out-Relation relation in
      after_input _ _ (input_keeps (first_of layer.member) base first) (λ f one.
      after_input _ _ (input_keeps (second_of layer.member) (behind_first exact tables layer.member base) second) (λ s other.
      limited_keeps layer.common _ (member_keeps (ids_from (behind_inputs exact tables layer.member base)) f s one other layer.member)))

  pub found_is : (relation : Relation) (base : ℕ) → IfOk ((counted exact tables relation).found base) Is
  found_is = by_inputs Held (λ relation first second base.
      subst (λ (a : Checked (FoundOf ℕ)). IfOk a Is) (sym (is_walked exact tables relation base)) (walked_keeps relation base first second))
