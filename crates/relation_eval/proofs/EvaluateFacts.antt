-- A plan's outcome from those of its inputs, and what the evaluation of each kind of relation asks for.
use Rattle.std.proofs.Common.{◌≡◌, inl, inr, ℕ, ℤ, Bool, false, Option, None, Some, Ok, Err, List, [], ◌∷◌, ◌++◌, length, refl, sym, ap, ◌∙◌, subst}
use Rattle.std.specs.Prelude.{All, IfSome, is_ok}
use Rattle.std.specs.List.{AllZip}
use Rattle.std.proofs.lemmas.Bool.{false≢true}
use Rattle.std.proofs.lemmas.List.{length-map}
use Rattle.std.proofs.lemmas.List.Elements.{All-nil, All-cons}
use Rattle.cn_types.specs.declared.row.Row.{Row}
use Rattle.cn_types.specs.declared.schema.Schema.{Schema}
use Rattle.cn_types.specs.declared.value.DataType.{DataType}
use Rattle.plan_model.specs.declared.expression.TypedExpr.{TypedExpr}
use Rattle.plan_model.specs.declared.node.AggregateCall.{AggregateCall}
use Rattle.plan_model.specs.declared.node.JoinKind.{JoinKind}
use Rattle.plan_model.specs.declared.node.Node.{Node}
use Rattle.plan_model.specs.declared.node.Node.TheVariants as V
use Rattle.plan_model.specs.declared.node.SetKind.{SetKind}
use Rattle.plan_model.specs.declared.node.SortKey.{SortKey}
use Rattle.plan_model.specs.Allows.{Allows, joining_of}
use Rattle.plan_model.specs.Counts.{SameCounts}
use Rattle.plan_model.specs.Groups.{IsAggregate, IsDistinctOn}
use Rattle.plan_model.specs.Joins.{IsJoin}
use Rattle.plan_model.specs.NodeTypes.{kind_of, join_types, types}
use Rattle.plan_model.specs.Outcomes.{Evaluated, Allowed, Bounded, After}
use Rattle.plan_model.specs.Ranges.{IsRange}
use Rattle.plan_model.specs.Selections.{projected, selected, sliced}
use Rattle.plan_model.specs.SetOperations.{IsSetOperation}
use Rattle.plan_model.specs.Sorting.{IsSort}
use Rattle.plan_model.specs.WellFormed.{IsOver, IsCallOver, IsCondition, IsWellFormed}
use Rattle.plan_model.proofs.Fitting.{rows_have_the_types}
use Rattle.plan_model.proofs.KindFacts.{outcomes_of_kinds, types_of_kinds, conditions_of_kinds}
use Rattle.expr_eval.specs.Dated.{HasLiteralsInRange}
use Rattle.expr_eval.proofs.ConditionFacts.{well_formed_in_range}
use Rattle.relation_eval.specs.Calls.{HasArgumentInRange}
use Rattle.relation_eval.specs.Joined.{widths_joining}
use Rattle.relation_eval.specs.SortKeys.{HaveLiteralsInRange}
use Rattle.relation_eval.specs.Steps.{Then, AreDated}

-- ---- outcomes

pub dated_outcome : (node : Node) → IsWellFormed node → (outcome : Evaluated) → Allows node outcome → AreDated outcome
dated_outcome node sound (Ok rows) allowed = λ k d h. well_formed_in_range.dates (types node) _ (rows_have_the_types node sound rows allowed k d h)
dated_outcome node sound (Err error) allowed = tt

pub then_after : (input : Allowed) (Next : List Row → Allowed) (i o : Evaluated) → input i → Then i Next o → After input Next o
then_after input Next (Ok rows) o p h = inr (rows, p, h)
then_after input Next (Err error) o p h = inl (error, p, h)

-- an error of the left input comes before the right one is evaluated
pub left_error : (input : Allowed) (Next : List Row → Allowed) (o : Evaluated) → is_ok o ≡ false → input o → After input Next o
left_error input Next (Ok rows) h p = absurd (false≢true (sym h))
left_error input Next (Err error) h p = inl (error, p, refl)

pub then_both : (left right : Allowed) (Next : List Row → List Row → Allowed) (i j o : Evaluated) → left i → right j → Then i (λ a. Then j (λ b. Next a b)) o → After left (λ a. After right (λ b. Next a b)) o
then_both left right Next (Ok rows) j o p q h = inr (rows, p, then_after right (λ b. Next rows b) j o q h)
then_both left right Next (Err error) j o p q h = inl (error, p, h)

-- ---- what is asked for

literals_of : (columns : List DataType) (exprs : List TypedExpr) → All (IsOver columns) exprs → All HasLiteralsInRange exprs
literals_of columns exprs over k d h = well_formed_in_range.literals columns _ (over k d h)

argument_of : (columns : List DataType) (argument : Option TypedExpr) → IfSome argument (IsOver columns) → IfSome argument HasLiteralsInRange
argument_of columns None over = tt
argument_of columns (Some argument) over = well_formed_in_range.literals columns argument over

arguments_of : (columns kinds : List DataType) (calls : List AggregateCall) → AllZip (IsCallOver columns) calls kinds → All HasArgumentInRange calls
arguments_of columns kinds [] over = All-nil HasArgumentInRange
arguments_of columns [] (call ∷ calls) over = absurd over
arguments_of columns (kind ∷ kinds) (call ∷ calls) over = All-cons HasArgumentInRange call calls (argument_of columns call.argument over.0.argument) (arguments_of columns kinds calls over.1)

pub project_asks : (input : Node) (items : List TypedExpr) → IsWellFormed (V.Project input items) → All HasLiteralsInRange items × IsWellFormed input
project_asks input items sound = let parts = (conditions_of_kinds.project input items).0 sound in (literals_of (types input) items parts.0, parts.1)

pub filter_asks : (input : Node) (condition : TypedExpr) → IsWellFormed (V.Filter input condition) → HasLiteralsInRange condition × IsWellFormed input
filter_asks input condition sound = let parts = (conditions_of_kinds.filter input condition).0 sound in (well_formed_in_range.literals (types input) condition parts.0.over, parts.1)

pub record AggregateAsks (input : Node) (keys : List TypedExpr) (calls : List AggregateCall) (items : List TypedExpr) : Type 0 where
  pub keys_fine : All HasLiteralsInRange keys
  pub calls_fine : All HasArgumentInRange calls
  pub items_fine : All HasLiteralsInRange items
  pub input_sound : IsWellFormed input

pub aggregate_asks : (input : Node) (keys : List TypedExpr) (calls : List AggregateCall) (items : List TypedExpr) → IsWellFormed (V.Aggregate input keys calls items) → AggregateAsks input keys calls items
aggregate_asks input keys calls items sound =
    let parts = (conditions_of_kinds.aggregate input keys calls items).0 sound in
    record {
      keys_fine = literals_of (types input) keys parts.0.keys_over;
      calls_fine = arguments_of (types input) parts.0.call_types calls parts.0.calls_over;
      items_fine = literals_of _ items parts.0.items_over;
      input_sound = parts.1;
    }

pub sort_asks : (input : Node) (keys : List SortKey) → IsWellFormed (V.Sort input keys) → HaveLiteralsInRange keys × IsWellFormed input
sort_asks input keys sound = let parts = (conditions_of_kinds.sort input keys).0 sound in (λ k d h. well_formed_in_range.literals (types input) _ (parts.0 k d h), parts.1)

pub condition_asks : (columns : List DataType) (condition : Option TypedExpr) → IfSome condition (IsCondition columns) → IfSome condition HasLiteralsInRange
condition_asks columns None sound = tt
condition_asks columns (Some condition) sound = well_formed_in_range.literals columns condition sound.over

-- a join by widths is one by the inputs' types
pub widths_are : (condition : Option TypedExpr) (left right : Node) (m n : ℕ) → m ≡ length (types left) → n ≡ length (types right) → widths_joining condition m n ≡ joining_of condition left right
widths_are condition left right m n e f = ap (λ k. widths_joining condition k n) e ∙ ap (λ k. widths_joining condition (length (types left)) k) f

-- ---- what each kind of relation allows

pub rows_allow : (node : Node) (schema : Schema) (rows : List Row) (o : Evaluated) → node ≡ V.Rows schema rows → Bounded (λ list. SameCounts list rows) o → Allows node o
rows_allow node schema rows o e h = subst (λ n. Allows n o) (sym e) ((outcomes_of_kinds.rows schema rows o).1 h)

pub range_allows : (node : Node) (start end step : ℤ) (o : Evaluated) → node ≡ V.Range start end step → Bounded (IsRange start end step) o → Allows node o
range_allows node start end step o e h = subst (λ n. Allows n o) (sym e) ((outcomes_of_kinds.range start end step o).1 h)

pub project_allows : (node input at : Node) (items : List TypedExpr) (i o : Evaluated) → node ≡ V.Project input items → at ≡ input → Allows at i → Then i (λ a. Bounded (λ list. list ≡ projected items a)) o → Allows node o
project_allows node input at items i o e f p h = subst (λ n. Allows n o) (sym e) ((outcomes_of_kinds.project input items o).1 (then_after (Allows input) (λ a. Bounded (λ list. list ≡ projected items a)) i o (subst (λ n. Allows n i) f p) h))

pub filter_allows : (node input at : Node) (condition : TypedExpr) (i o : Evaluated) → node ≡ V.Filter input condition → at ≡ input → Allows at i → Then i (λ a. Bounded (λ list. list ≡ selected condition a)) o → Allows node o
filter_allows node input at condition i o e f p h = subst (λ n. Allows n o) (sym e) ((outcomes_of_kinds.filter input condition o).1 (then_after (Allows input) (λ a. Bounded (λ list. list ≡ selected condition a)) i o (subst (λ n. Allows n i) f p) h))

pub aggregate_allows : (node input at : Node) (keys : List TypedExpr) (calls : List AggregateCall) (items : List TypedExpr) (i o : Evaluated) → node ≡ V.Aggregate input keys calls items → at ≡ input → Allows at i → Then i (λ a. Bounded (IsAggregate keys calls items a)) o → Allows node o
aggregate_allows node input at keys calls items i o e f p h = subst (λ n. Allows n o) (sym e) ((outcomes_of_kinds.aggregate input keys calls items o).1 (then_after (Allows input) (λ a. Bounded (IsAggregate keys calls items a)) i o (subst (λ n. Allows n i) f p) h))

pub distinct_on_allows : (node input at : Node) (columns : List ℕ) (i o : Evaluated) → node ≡ V.DistinctOn input columns → at ≡ input → Allows at i → Then i (λ a. Bounded (IsDistinctOn columns a)) o → Allows node o
distinct_on_allows node input at columns i o e f p h = subst (λ n. Allows n o) (sym e) ((outcomes_of_kinds.distinct_on input columns o).1 (then_after (Allows input) (λ a. Bounded (IsDistinctOn columns a)) i o (subst (λ n. Allows n i) f p) h))

pub sort_allows : (node input at : Node) (keys : List SortKey) (i o : Evaluated) → node ≡ V.Sort input keys → at ≡ input → Allows at i → Then i (λ a. Bounded (IsSort keys a)) o → Allows node o
sort_allows node input at keys i o e f p h = subst (λ n. Allows n o) (sym e) ((outcomes_of_kinds.sort input keys o).1 (then_after (Allows input) (λ a. Bounded (IsSort keys a)) i o (subst (λ n. Allows n i) f p) h))

pub slice_allows : (node input at : Node) (skip : ℕ) (most : Option ℕ) (i o : Evaluated) → node ≡ V.Slice input skip most → at ≡ input → Allows at i → Then i (λ a. Bounded (λ list. list ≡ sliced skip most a)) o → Allows node o
slice_allows node input at skip most i o e f p h = subst (λ n. Allows n o) (sym e) ((outcomes_of_kinds.slice input skip most o).1 (then_after (Allows input) (λ a. Bounded (λ list. list ≡ sliced skip most a)) i o (subst (λ n. Allows n i) f p) h))

pub join_allows : (node left right at behind : Node) (kind : JoinKind) (condition : Option TypedExpr) (o : Evaluated) → node ≡ V.Join left right kind condition → at ≡ left → behind ≡ right
    → After (Allows at) (λ a. After (Allows behind) (λ b. Bounded (IsJoin kind (joining_of condition at behind) a b))) o → Allows node o
join_allows node left right at behind kind condition o e f g h =
    subst (λ n. Allows n o) (sym e)
    ((outcomes_of_kinds.join left right kind condition o).1
    (subst (λ n. After (Allows left) (λ a. After (Allows n) (λ b. Bounded (IsJoin kind (joining_of condition left n) a b))) o) g
    (subst (λ n. After (Allows n) (λ a. After (Allows behind) (λ b. Bounded (IsJoin kind (joining_of condition n behind) a b))) o) f h)))

pub set_allows : (node left right at behind : Node) (kind : SetKind) (all : Bool) (o : Evaluated) → node ≡ V.SetOp left right kind all → at ≡ left → behind ≡ right
    → After (Allows at) (λ a. After (Allows behind) (λ b. Bounded (IsSetOperation kind all a b))) o → Allows node o
set_allows node left right at behind kind all o e f g h =
    subst (λ n. Allows n o) (sym e)
    ((outcomes_of_kinds.set_op left right kind all o).1
    (subst (λ n. After (Allows left) (λ a. After (Allows n) (λ b. Bounded (IsSetOperation kind all a b))) o) g
    (subst (λ n. After (Allows n) (λ a. After (Allows behind) (λ b. Bounded (IsSetOperation kind all a b))) o) f h)))

-- what is asked for of a join's inputs and of a set operation's
pub record JoinAsks (left right : Node) (condition : Option TypedExpr) : Type 0 where
  pub left_sound : IsWellFormed left
  pub right_sound : IsWellFormed right
  pub condition_sound : IfSome condition (IsCondition (types left ++ types right))

pub join_asks : (node left right at behind : Node) (kind : JoinKind) (condition : Option TypedExpr) → node ≡ V.Join left right kind condition → at ≡ left → behind ≡ right → IsWellFormed node → JoinAsks at behind condition
join_asks node left right at behind kind condition e f g sound =
    let parts = (conditions_of_kinds.join left right kind condition).0 (subst IsWellFormed e sound) in
    record {
      left_sound = subst IsWellFormed (sym f) parts.1;
      right_sound = subst IsWellFormed (sym g) parts.2;
      condition_sound = subst (λ n. IfSome condition (IsCondition (types n ++ types behind))) (sym f) (subst (λ n. IfSome condition (IsCondition (types left ++ types n))) (sym g) parts.0);
    }

pub set_asks : (node left right at behind : Node) (kind : SetKind) (all : Bool) → node ≡ V.SetOp left right kind all → at ≡ left → behind ≡ right → IsWellFormed node → IsWellFormed at × IsWellFormed behind
set_asks node left right at behind kind all e f g sound =
    let parts = (conditions_of_kinds.set_op left right kind all).0 (subst IsWellFormed e sound) in
    (subst IsWellFormed (sym f) parts.1, subst IsWellFormed (sym g) parts.2)

-- a join by widths, where both inputs have rows
pub joined_after : (left right : Node) (kind : JoinKind) (condition : Option TypedExpr) (m n : ℕ) (i j o : Evaluated) → m ≡ length (types left) → n ≡ length (types right) → Allows left i → Allows right j
    → Then i (λ a. Then j (λ b. Bounded (IsJoin kind (widths_joining condition m n) a b))) o → After (Allows left) (λ a. After (Allows right) (λ b. Bounded (IsJoin kind (joining_of condition left right) a b))) o
joined_after left right kind condition m n i j o e f p q h =
    subst (λ joining. After (Allows left) (λ a. After (Allows right) (λ b. Bounded (IsJoin kind joining a b))) o) (widths_are condition left right m n e f)
    (then_both (Allows left) (Allows right) (λ a b. Bounded (IsJoin kind (widths_joining condition m n) a b)) i j o p q h)

-- ---- widths

pub rows_width : (node : Node) (schema : Schema) (rows : List Row) → node ≡ V.Rows schema rows → length schema.0 ≡ length (types node)
rows_width node schema rows e = sym (ap (λ n. length (types n)) e ∙ ap (λ (ks : List DataType). length ks) (types_of_kinds.rows schema rows) ∙ length-map schema.0 (λ field. field.kind))

pub range_width : (node : Node) (start end step : ℤ) → node ≡ V.Range start end step → 1 ≡ length (types node)
range_width node start end step e = sym (ap (λ n. length (types n)) e ∙ ap (λ (ks : List DataType). length ks) (types_of_kinds.range start end step))

pub project_width : (node input : Node) (items : List TypedExpr) → node ≡ V.Project input items → length items ≡ length (types node)
project_width node input items e = sym (ap (λ n. length (types n)) e ∙ ap (λ (ks : List DataType). length ks) (types_of_kinds.project input items) ∙ length-map items kind_of)

pub aggregate_width : (node input : Node) (keys : List TypedExpr) (calls : List AggregateCall) (items : List TypedExpr) → node ≡ V.Aggregate input keys calls items → length items ≡ length (types node)
aggregate_width node input keys calls items e = sym (ap (λ n. length (types n)) e ∙ ap (λ (ks : List DataType). length ks) (types_of_kinds.aggregate input keys calls items) ∙ length-map items kind_of)

-- a relation with the columns of its input, or of a join
pub same_width : (node input at : Node) (width : ℕ) → types node ≡ types input → at ≡ input → width ≡ length (types at) → width ≡ length (types node)
same_width node input at width e f h = h ∙ ap (λ n. length (types n)) f ∙ ap (λ (ks : List DataType). length ks) (sym e)

pub join_width : (node left right at behind : Node) (kind : JoinKind) (condition : Option TypedExpr) (width : ℕ) → node ≡ V.Join left right kind condition → at ≡ left → behind ≡ right
    → width ≡ length (join_types kind (types at) (types behind)) → width ≡ length (types node)
join_width node left right at behind kind condition width e f g h =
    h ∙ ap (λ n. length (join_types kind (types n) (types behind))) f ∙ ap (λ n. length (join_types kind (types left) (types n))) g
    ∙ sym (ap (λ n. length (types n)) e ∙ ap (λ (ks : List DataType). length ks) (types_of_kinds.join left right kind condition))
