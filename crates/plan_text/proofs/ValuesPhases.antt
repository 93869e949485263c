-- The columns and rows that a text's deeds put into a stream can be written: how far `values` are read, where a symbol comes next.
use Rattle.std.proofs.Common.{◌≡◌, ℕ, ◌≤◌, Bool, true, false, cond, List, [], ◌∷◌, ◌++◌, length, refl, sym, subst, arith, rules}
use Rattle.std.specs.Prelude.{Option, Some, None, ◌&&◌}
use Rattle.std.proofs.lemmas.Bool.{and_parts}
use Rattle.std.proofs.lemmas.Option.{same_Some}
use Rattle.cn_types.specs.declared.value.DataType.{DataType}
use Rattle.cn_types.specs.declared.value.DataType.TheVariants as kind
use Rattle.plan_tokens.specs.declared.keyword.Keyword.TheVariants as word
use Rattle.plan_tokens.specs.declared.token.Sign.TheVariants as sign
use Rattle.plan_tokens.specs.declared.token.Token.{Token}
use Rattle.plan_tokens.specs.Tokens.{tokens_of}
use Rattle.plan_grammar.specs.declared.symbol.Action.{Action}
use Rattle.plan_grammar.specs.declared.symbol.Action.TheVariants as action
use Rattle.plan_grammar.specs.declared.symbol.StepAction.{StepAction}
use Rattle.plan_grammar.specs.declared.symbol.StepAction.TheVariants as stepactions
use Rattle.plan_grammar.specs.declared.symbol.Cell.TheVariants as cells
use Rattle.plan_grammar.specs.declared.symbol.Columns.{Columns}
use Rattle.plan_grammar.specs.declared.symbol.Deed.{Deed}
use Rattle.plan_grammar.specs.declared.symbol.Use.{Use}
use Rattle.plan_grammar.specs.declared.symbol.Use.TheVariants as uses
use Rattle.plan_grammar.specs.declared.symbol.Test.{Test}
use Rattle.plan_grammar.specs.declared.symbol.Test.TheVariants as test
use Rattle.plan_grammar.specs.declared.symbol.Symbol.{Symbol}
use Rattle.plan_grammar.specs.declared.symbol.Symbol.TheVariants as symbol
use Rattle.plan_grammar.specs.declared.symbol.PipelineSymbol.{PipelineSymbol}
use Rattle.plan_grammar.specs.declared.symbol.PipelineSymbol.TheVariants as pipelines
use Rattle.plan_grammar.specs.declared.symbol.StepSymbol.{StepSymbol}
use Rattle.plan_grammar.specs.declared.symbol.StepSymbol.TheVariants as steps
use Rattle.plan_grammar.specs.declared.symbol.ExpressionSymbol.{ExpressionSymbol}
use Rattle.plan_grammar.specs.declared.symbol.ExpressionSymbol.TheVariants as expressions
use Rattle.plan_grammar.specs.declared.symbol.UnitSymbol.{UnitSymbol}
use Rattle.plan_grammar.specs.declared.symbol.UnitSymbol.TheVariants as units
use Rattle.plan_grammar.specs.declared.symbol.ValuesSymbol.{ValuesSymbol}
use Rattle.plan_grammar.specs.declared.symbol.ValuesSymbol.TheVariants as valuess
use Rattle.plan_grammar.specs.Tests.{passes}
use Rattle.plan_grammar.specs.Productions.{Production, or_else, does, need, pipeline, values}
use Rattle.plan_grammar.specs.PipelineRules.{pipeline_rule}
use Rattle.plan_grammar.specs.StepRules.{step_rule}
use Rattle.plan_grammar.specs.ExpressionRules.{expression_rule}
use Rattle.plan_grammar.specs.UnitRules.{unit_rule}
use Rattle.plan_grammar.specs.ValuesRules.{kind_rule, minus_rule, minus_cell_rule}
use Rattle.plan_grammar.specs.Grammar.{rule}
use Rattle.plan_grammar.specs.Derivation.{Derives, over, does as doing, goes, takes, IsPipeline, only_tokens, wanted_of, behind_use, after_doing, deed_of, kept, next_of}
use Rattle.plan_text.specs.declared.draft.Draft.{Draft}
use Rattle.plan_text.specs.Drafts.{no_draft, taken, built}
use Rattle.plan_text.specs.Writable.{CanStep, CanAct, CanDo, CanDoAll}
use Rattle.plan_text.proofs.TokenSizes.{contents, AreDays, text_room}
use Rattle.plan_text.proofs.ValuesHeld.{Held, Begun, Named, Ended, Wanting, IsBefore, held_behind, begun_behind, named_behind, ended_behind, wanting_behind, new_columns, name_taken, cell_taken, column_done, row_done, begun_ended, values_held}

-- ---- phases

-- anything; columns are read, and no row; the name of a column was read; between rows; a cell or a row's end comes next; a date; a row's end
data Phase : Type 0 where
  Any : Phase
  AtColumns : Phase
  AtKind : Phase
  AtRows : Phase
  AtCell : Phase
  AtDate : Phase
  AtEnd : Phase

abbrev Holds : Phase → Columns → Draft → List Token → Type 0
Holds Any columns draft left = Unit {0}
Holds AtColumns columns draft left = Begun columns draft left
Holds AtKind columns draft left = Named columns draft left
Holds AtRows columns draft left = Ended columns draft left
Holds AtCell columns draft left = Held columns draft left
Holds AtDate columns draft left = Wanting (Some kind.Date) columns draft left
Holds AtEnd columns draft left = Wanting None columns draft left

abbrev at_columns : Phase → Bool
at_columns AtColumns = true
at_columns other = false

abbrev at_kind : Phase → Bool
at_kind AtKind = true
at_kind other = false

abbrev at_rows : Phase → Bool
at_rows AtColumns = true
at_rows AtRows = true
at_rows other = false

abbrev at_cell : Phase → Bool
at_cell AtCell = true
at_cell other = false

abbrev at_date : Phase → Bool
at_date AtDate = true
at_date other = false

abbrev at_end : Phase → Bool
at_end AtEnd = true
at_end other = false

abbrev values_allows : ValuesSymbol → Phase → Bool
values_allows valuess.Column phase = at_columns phase
values_allows valuess.Columns phase = at_columns phase
values_allows valuess.ColumnKind phase = at_kind phase
values_allows valuess.Rows phase = at_rows phase
values_allows valuess.Cell phase = at_cell phase
values_allows valuess.MinusCell phase = at_cell phase
values_allows valuess.DateCell phase = at_date phase
values_allows valuess.CellEnd phase = at_cell phase

abbrev step_allows : StepAction → Phase → Bool
step_allows stepactions.Values phase = at_rows phase
step_allows other phase = true

abbrev act_allows : Action → Phase → Bool
act_allows (action.Step one) phase = step_allows one phase
act_allows other phase = true

-- whether a symbol may come next
abbrev allows : Symbol → Phase → Bool
allows (symbol.Values one) phase = values_allows one phase
allows (symbol.Column kind) phase = at_kind phase
allows symbol.Row phase = at_end phase
allows (symbol.Act one) phase = act_allows one phase
allows other phase = true

abbrev name_leaves : Phase → Phase
name_leaves AtColumns = AtKind
name_leaves other = Any

abbrev pipeline_leaves : PipelineSymbol → Phase → Phase
pipeline_leaves pipelines.Name phase = name_leaves phase
pipeline_leaves other phase = Any

abbrev values_leaves : ValuesSymbol → Phase
values_leaves valuess.Column = AtColumns
values_leaves valuess.Columns = AtColumns
values_leaves valuess.ColumnKind = AtColumns
values_leaves other = AtRows

-- how far `values` are behind it
abbrev leaves : Symbol → Phase → Phase
leaves (symbol.Pipeline one) phase = pipeline_leaves one phase
leaves (symbol.Step one) phase = Any
leaves (symbol.Expression one) phase = Any
leaves (symbol.Unit one) phase = Any
leaves (symbol.Values one) phase = values_leaves one
leaves (symbol.Need test) phase = phase
leaves (symbol.Act one) phase = Any
leaves (symbol.Column kind) phase = AtColumns
leaves symbol.Row phase = AtRows

abbrev accepts : Phase → List Symbol → Bool
accepts phase [] = true
accepts phase (one ∷ more) = allows one phase && accepts (leaves one phase) more

-- how far `values` are, and that the symbols may come next
record Phased (columns : Columns) (draft : Draft) (left : List Token) (symbols : List Symbol) : Type 0 where
  phase : Phase
  holds : Holds phase columns draft left
  accepted : accepts phase symbols ≡ true

false_true : false ≡ true → ⊥
false_true e = cc

never : {B : Type 0} → false ≡ true → B
never e = absurd (false_true e)

both : (x y : Bool) → x ≡ true → y ≡ true → (x && y) ≡ true
both true y e f = f
both false y e f = e

-- ---- productions without symbols of `values`

abbrev is_plain_step : StepAction → Bool
is_plain_step stepactions.Values = false
is_plain_step other = true

abbrev is_plain_action : Action → Bool
is_plain_action (action.Step one) = is_plain_step one
is_plain_action other = true

abbrev is_plain : Symbol → Bool
is_plain (symbol.Values one) = false
is_plain (symbol.Column kind) = false
is_plain symbol.Row = false
is_plain (symbol.Act one) = is_plain_action one
is_plain other = true

abbrev all_plain : List Symbol → Bool
all_plain [] = true
all_plain (one ∷ more) = is_plain one && all_plain more

abbrev plain : Option Production → Bool
plain None = true
plain (Some (used, production)) = all_plain production

pick : (test : Bool) (x y : Option Production) → plain x ≡ true → plain y ≡ true → plain (cond test x y) ≡ true
pick true x y e f = e
pick false x y e f = f

either : (x y : Option Production) → plain x ≡ true → plain y ≡ true → plain (or_else x y) ≡ true
either None y e f = f
either (Some x) y e f = e

abbrev is_source : PipelineSymbol → Bool
is_source pipelines.Source = true
is_source other = false

pipeline_plain : (one : PipelineSymbol) (token : Token) → is_source one ≡ false → plain (pipeline_rule one token) ≡ true
pipeline_plain pipelines.Source token e = never (sym e)
pipeline_plain pipelines.Whole token e = refl
pipeline_plain pipelines.Nested token e = refl
pipeline_plain pipelines.Finish token e = search (rules, pick)
pipeline_plain pipelines.StepOrWrite token e = search (rules, pick)
pipeline_plain pipelines.Mode token e = search (rules, pick)
pipeline_plain pipelines.Steps token e = search (rules, pick)
pipeline_plain pipelines.Name token e = search (rules, pick)
pipeline_plain pipelines.Names token e = search (rules, pick)
pipeline_plain pipelines.Integer token e = search (rules, pick)
pipeline_plain pipelines.NegativeInteger token e = search (rules, pick)
pipeline_plain pipelines.Long token e = search (rules, pick)
pipeline_plain pipelines.NegativeLong token e = search (rules, pick)

step_plain : (one : StepSymbol) (token : Token) → plain (step_rule one token) ≡ true
step_plain steps.Step token = search (rules, pick, either)
step_plain steps.Assignment token = refl
step_plain steps.Renaming token = refl
step_plain steps.Key token = refl
step_plain steps.Assignments token = search (rules, pick)
step_plain steps.Renamings token = search (rules, pick)
step_plain steps.Keys token = search (rules, pick)
step_plain steps.Direction token = search (rules, pick)
step_plain steps.NullOrder token = search (rules, pick)
step_plain steps.NullPlace token = search (rules, pick)
step_plain steps.DistinctNames token = search (rules, pick)
step_plain steps.GroupKeys token = search (rules, pick)
step_plain steps.JoinKind token = search (rules, pick)
step_plain steps.JoinEnd token = search (rules, pick)
step_plain steps.All token = search (rules, pick)

expression_plain : (one : ExpressionSymbol) (token : Token) → plain (expression_rule one token) ≡ true
expression_plain expressions.Operators token = refl
expression_plain expressions.Expr token = refl
expression_plain expressions.Conj token = refl
expression_plain expressions.Sum token = refl
expression_plain expressions.Prod token = refl
expression_plain expressions.Item token = search (rules, pick)
expression_plain expressions.ItemName token = search (rules, pick)
expression_plain expressions.ItemPart token = search (rules, pick)
expression_plain expressions.Items token = search (rules, pick)
expression_plain expressions.As token = search (rules, pick)
expression_plain expressions.Ors token = search (rules, pick)
expression_plain expressions.Ands token = search (rules, pick)
expression_plain expressions.Neg token = search (rules, pick)
expression_plain expressions.Comparison token = search (rules, pick)
expression_plain expressions.IsNull token = search (rules, pick)
expression_plain expressions.Sums token = search (rules, pick)
expression_plain expressions.Products token = search (rules, pick)
expression_plain expressions.Exprs token = search (rules, pick)

unit_plain : (one : UnitSymbol) (token : Token) → plain (unit_rule one token) ≡ true
unit_plain units.Unit token = search (rules, pick, either)
unit_plain units.NegativeLiteral token = search (rules, pick)
unit_plain units.DateText token = search (rules, pick)
unit_plain units.PlanNumber token = search (rules, pick)
unit_plain units.UnitName token = search (rules, pick)
unit_plain units.Part token = search (rules, pick)
unit_plain units.Parts token = search (rules, pick)
unit_plain units.Arguments token = search (rules, pick)
unit_plain units.ArgumentList token = search (rules, pick)
unit_plain units.Kind token = search (rules, pick)

plain_allowed : (one : Symbol) → is_plain one ≡ true → allows one Any ≡ true
plain_allowed (symbol.Pipeline one) e = refl
plain_allowed (symbol.Step one) e = refl
plain_allowed (symbol.Expression one) e = refl
plain_allowed (symbol.Unit one) e = refl
plain_allowed (symbol.Need test) e = refl
plain_allowed (symbol.Act (action.Step stepactions.Values)) e = never e
plain_allowed (symbol.Act (action.Step one)) e = refl
plain_allowed (symbol.Act one) e = refl
plain_allowed (symbol.Values one) e = never e
plain_allowed (symbol.Column kind) e = never e
plain_allowed symbol.Row e = never e

plain_leaves : (one : Symbol) → is_plain one ≡ true → leaves one Any ≡ Any
plain_leaves (symbol.Pipeline pipelines.Name) e = refl
plain_leaves (symbol.Pipeline one) e = refl
plain_leaves (symbol.Step one) e = refl
plain_leaves (symbol.Expression one) e = refl
plain_leaves (symbol.Unit one) e = refl
plain_leaves (symbol.Need test) e = refl
plain_leaves (symbol.Act one) e = refl
plain_leaves (symbol.Values one) e = never e
plain_leaves (symbol.Column kind) e = never e
plain_leaves symbol.Row e = never e

plain_accepted : (production more : List Symbol) → all_plain production ≡ true → accepts Any more ≡ true → accepts Any (production ++ more) ≡ true
plain_accepted [] more e a = a
plain_accepted (one ∷ production) more e a =
    let parts = and_parts _ _ e in
    let rest = plain_accepted production more parts.1 a in
    both _ _ (plain_allowed one parts.0) (subst (λ (phase : Phase). accepts phase (production ++ more) ≡ true) (sym (plain_leaves one parts.0)) rest)

-- ---- what a phase says

begun : (phase : Phase) (columns : Columns) (draft : Draft) (left : List Token) → at_columns phase ≡ true → Holds phase columns draft left → Begun columns draft left
begun AtColumns columns draft left a h = h
begun other columns draft left a h = never a

named : (phase : Phase) (columns : Columns) (draft : Draft) (left : List Token) → at_kind phase ≡ true → Holds phase columns draft left → Named columns draft left
named AtKind columns draft left a h = h
named other columns draft left a h = never a

ended : (phase : Phase) (columns : Columns) (draft : Draft) (left : List Token) → at_rows phase ≡ true → Holds phase columns draft left → Ended columns draft left
ended AtColumns columns draft left a h = begun_ended columns draft left h
ended AtRows columns draft left a h = h
ended other columns draft left a h = never a

in_row : (phase : Phase) (columns : Columns) (draft : Draft) (left : List Token) → at_cell phase ≡ true → Holds phase columns draft left → Held columns draft left
in_row AtCell columns draft left a h = h
in_row other columns draft left a h = never a

at_a_date : (phase : Phase) (columns : Columns) (draft : Draft) (left : List Token) → at_date phase ≡ true → Holds phase columns draft left → Wanting (Some kind.Date) columns draft left
at_a_date AtDate columns draft left a h = h
at_a_date other columns draft left a h = never a

at_row_end : (phase : Phase) (columns : Columns) (draft : Draft) (left : List Token) → at_end phase ≡ true → Holds phase columns draft left → Wanting None columns draft left
at_row_end AtEnd columns draft left a h = h
at_row_end other columns draft left a h = never a

holds_behind : (phase : Phase) (columns : Columns) (draft : Draft) (one : Token) (before after : List Token) → IsBefore one before after → Holds phase columns draft before → Holds phase columns draft after
holds_behind Any columns draft one before after next h = tt
holds_behind AtColumns columns draft one before after next h = begun_behind columns draft one before after next h
holds_behind AtKind columns draft one before after next h = named_behind columns draft one before after next h
holds_behind AtRows columns draft one before after next h = ended_behind columns draft one before after next h
holds_behind AtCell columns draft one before after next h = held_behind columns draft one before after next h
holds_behind AtDate columns draft one before after next h = wanting_behind columns draft one before after next (Some kind.Date) h
holds_behind AtEnd columns draft one before after next h = wanting_behind columns draft one before after next None h

-- ---- productions

-- the tokens that are left have room, and dates in range
record Roomy (left : List Token) : Type 0 where
  texts : contents left ≤ 3145728
  count : length left ≤ 1048576
  days : AreDays left

abbrev PhasedBehind : Columns → Draft → Token → List Token → List Symbol → Option Production → Type 0
PhasedBehind columns draft one before more None = Unit {0}
PhasedBehind columns draft one before more (Some (None, production)) = Phased columns draft before (production ++ more)
PhasedBehind columns draft one before more (Some (Some used, production)) =
    (after : List Token) → IsBefore one before after → Phased (behind_use used columns) (taken used one draft) after (production ++ more)

chosen : (P : Option Production → Type 0) (test : Bool) (x y : Option Production) → P x → P y → P (cond test x y)
chosen P true x y e f = e
chosen P false x y e f = f

plain_phased : (columns : Columns) (draft : Draft) (one : Token) (before : List Token) (more : List Symbol) (found : Option Production) → plain found ≡ true → accepts Any more ≡ true
    → PhasedBehind columns draft one before more found
plain_phased columns draft one before more None p a = tt
plain_phased columns draft one before more (Some (None, production)) p a = record { phase = Any; holds = tt; accepted = plain_accepted production more p a }
plain_phased columns draft one before more (Some (Some used, production)) p a = λ after next. record { phase = Any; holds = tt; accepted = plain_accepted production more p a }

module _ (columns : Columns) (draft : Draft) (one : Token) (before : List Token) (more : List Symbol) where
  abbrev Behind : Option Production → Type 0
  Behind found = PhasedBehind columns draft one before more found

  abbrev take : Use → List Symbol → Option Production
  take used production = Some (Some used, production)

  source_phased : Roomy before → accepts Any more ≡ true → Behind (rule (wanted_of columns) (symbol.Pipeline pipelines.Source) one)
  source_phased room a =
      let from_range : List Symbol = pipeline pipelines.Long ∷ pipeline pipelines.Long ∷ pipeline pipelines.Long ∷ does (action.Step stepactions.Range) ∷ [] in
      let from_table : List Symbol = pipeline pipelines.Name ∷ does (action.Step stepactions.Read) ∷ [] in
      let from_values : List Symbol =
      need (test.Sign sign.Open) ∷ values valuess.Column ∷ values valuess.Columns ∷ need (test.Sign sign.Close) ∷ values valuess.Rows ∷ does (action.Step stepactions.Values) ∷ [] in
      let or_values : Option Production = cond (passes (test.Word word.Values) one) (take uses.NewColumns from_values) None in
      let or_table : Option Production = cond (passes (test.Word word.Table) one) (take uses.Nothing from_table) or_values in
      chosen Behind (passes (test.Word word.Range) one) (take uses.Nothing from_range) or_table (λ after next. record { phase = Any; holds = tt; accepted = a })
      (chosen Behind (passes (test.Word word.Table) one) (take uses.Nothing from_table) or_values (λ after next. record { phase = Any; holds = tt; accepted = a })
      (chosen Behind (passes (test.Word word.Values) one) (take uses.NewColumns from_values) None
      (λ after next. record { phase = AtColumns; holds = new_columns columns draft one before after next room.texts room.count; accepted = a }) tt))

  name_phased : (phase : Phase) → Holds phase columns draft before → accepts (name_leaves phase) more ≡ true → Behind (rule (wanted_of columns) (symbol.Pipeline pipelines.Name) one)
  name_phased AtColumns h a =
      chosen Behind (passes test.Name one) (take uses.Name []) None (λ after next. record { phase = AtKind; holds = name_taken columns draft one before after next h; accepted = a }) tt
  name_phased other h a = chosen Behind (passes test.Name one) (take uses.Name []) None (λ after next. record { phase = Any; holds = tt; accepted = a }) tt

  need_phased : (test : Test) (phase : Phase) → Holds phase columns draft before → accepts phase more ≡ true → Behind (rule (wanted_of columns) (symbol.Need test) one)
  need_phased test phase h a =
      chosen Behind (passes test one) (take uses.Nothing []) None (λ after next. record { phase = phase; holds = holds_behind phase columns draft one before after next h; accepted = a }) tt

  kind_phased : Named columns draft before → accepts AtColumns more ≡ true → Behind (rule (wanted_of columns) (symbol.Values valuess.ColumnKind) one)
  kind_phased h a =
      let from : (kind : DataType) → Behind (take uses.Nothing (symbol.Column kind ∷ [])) = λ kind after next. record { phase = AtKind; holds = named_behind columns draft one before after next h; accepted = a } in
      let or_date : Option Production = cond (passes (test.Word word.Date) one) (take uses.Nothing (symbol.Column kind.Date ∷ [])) None in
      let or_boolean : Option Production = cond (passes (test.Word word.Boolean) one) (take uses.Nothing (symbol.Column kind.Boolean ∷ [])) or_date in
      let or_text : Option Production = cond (passes (test.Word word.String) one) (take uses.Nothing (symbol.Column kind.Text ∷ [])) or_boolean in
      let or_long : Option Production = cond (passes (test.Word word.Long) one) (take uses.Nothing (symbol.Column kind.Long ∷ [])) or_text in
      chosen Behind (passes (test.Word word.Integer) one) (take uses.Nothing (symbol.Column kind.Integer ∷ [])) or_long (from kind.Integer)
      (chosen Behind (passes (test.Word word.Long) one) (take uses.Nothing (symbol.Column kind.Long ∷ [])) or_text (from kind.Long)
      (chosen Behind (passes (test.Word word.String) one) (take uses.Nothing (symbol.Column kind.Text ∷ [])) or_boolean (from kind.Text)
      (chosen Behind (passes (test.Word word.Boolean) one) (take uses.Nothing (symbol.Column kind.Boolean ∷ [])) or_date (from kind.Boolean)
      (chosen Behind (passes (test.Word word.Date) one) (take uses.Nothing (symbol.Column kind.Date ∷ [])) None (from kind.Date) tt))))

  columns_phased : Begun columns draft before → accepts AtColumns more ≡ true → Behind (rule (wanted_of columns) (symbol.Values valuess.Columns) one)
  columns_phased h a =
      chosen Behind (passes (test.Sign sign.Comma) one) (take uses.Nothing (values valuess.Column ∷ values valuess.Columns ∷ [])) (Some (None, []))
      (λ after next. record { phase = AtColumns; holds = begun_behind columns draft one before after next h; accepted = a }) (record { phase = AtColumns; holds = h; accepted = a })

  rows_phased : Ended columns draft before → accepts AtRows more ≡ true → Behind (rule (wanted_of columns) (symbol.Values valuess.Rows) one)
  rows_phased h a =
      chosen Behind (passes (test.Sign sign.Open) one) (take uses.Nothing (values valuess.Cell ∷ [])) (Some (None, []))
      (λ after next. record { phase = AtCell; holds = held_behind columns draft one before after next h.values; accepted = a }) (record { phase = AtRows; holds = h; accepted = a })

  module _ (h : Held columns draft before) (a : accepts AtRows more ≡ true) where
    minus_phased : Behind (minus_rule one)
    minus_phased =
        chosen Behind (passes test.Minus one) (take uses.Nothing (values valuess.MinusCell ∷ [])) None
        (λ after next. record { phase = AtCell; holds = held_behind columns draft one before after next h; accepted = a }) tt

    kinds_phased : (kind : DataType) → wanted_of columns ≡ Some kind → Behind (kind_rule kind one)
    kinds_phased kind.Integer w =
        chosen Behind (passes test.Integer one) (take (uses.Cell cells.Integer) (values valuess.CellEnd ∷ [])) (minus_rule one)
        (λ after next. record { phase = AtCell; holds = cell_taken columns draft one before after next cells.Integer kind.Integer h w tt; accepted = a }) minus_phased
    kinds_phased kind.Long w =
        chosen Behind (passes test.Long one) (take (uses.Cell cells.Long) (values valuess.CellEnd ∷ [])) (minus_rule one)
        (λ after next. record { phase = AtCell; holds = cell_taken columns draft one before after next cells.Long kind.Long h w tt; accepted = a }) minus_phased
    kinds_phased kind.Text w =
        chosen Behind (passes test.Quotation one) (take (uses.Cell cells.Text) (values valuess.CellEnd ∷ [])) None
        (λ after next. record { phase = AtCell; holds = cell_taken columns draft one before after next cells.Text kind.Text h w tt; accepted = a }) tt
    kinds_phased kind.Boolean w =
        let or_false : Option Production = cond (passes (test.Word word.False) one) (take (uses.Cell cells.False) (values valuess.CellEnd ∷ [])) None in
        chosen Behind (passes (test.Word word.True) one) (take (uses.Cell cells.True) (values valuess.CellEnd ∷ [])) or_false
        (λ after next. record { phase = AtCell; holds = cell_taken columns draft one before after next cells.True kind.Boolean h w tt; accepted = a })
        (chosen Behind (passes (test.Word word.False) one) (take (uses.Cell cells.False) (values valuess.CellEnd ∷ [])) None
        (λ after next. record { phase = AtCell; holds = cell_taken columns draft one before after next cells.False kind.Boolean h w tt; accepted = a }) tt)
    kinds_phased kind.Date w =
        chosen Behind (passes (test.Word word.Date) one) (take uses.Nothing (values valuess.DateCell ∷ [])) None
        (λ after next. record { phase = AtDate; holds = record { values = held_behind columns draft one before after next h; wants = w }; accepted = a }) tt

    cell_phased : (wanted : Option DataType) → wanted_of columns ≡ wanted → Behind (rule wanted (symbol.Values valuess.Cell) one)
    cell_phased None w = tt
    cell_phased (Some kind) w =
        chosen Behind (passes (test.Word word.Null) one) (take (uses.Cell cells.Null) (values valuess.CellEnd ∷ [])) (kind_rule kind one)
        (λ after next. record { phase = AtCell; holds = cell_taken columns draft one before after next cells.Null kind h w tt; accepted = a }) (kinds_phased kind w)

    digits_phased : (kind : DataType) → wanted_of columns ≡ Some kind → Behind (minus_cell_rule kind one)
    digits_phased kind.Integer w =
        chosen Behind (passes test.NegativeInteger one) (take (uses.Cell cells.NegativeInteger) (values valuess.CellEnd ∷ [])) None
        (λ after next. record { phase = AtCell; holds = cell_taken columns draft one before after next cells.NegativeInteger kind.Integer h w tt; accepted = a }) tt
    digits_phased kind.Long w =
        chosen Behind (passes test.NegativeLong one) (take (uses.Cell cells.NegativeLong) (values valuess.CellEnd ∷ [])) None
        (λ after next. record { phase = AtCell; holds = cell_taken columns draft one before after next cells.NegativeLong kind.Long h w tt; accepted = a }) tt
    digits_phased kind.Text w = tt
    digits_phased kind.Boolean w = tt
    digits_phased kind.Date w = tt

    minus_cell_phased : (wanted : Option DataType) → wanted_of columns ≡ wanted → Behind (rule wanted (symbol.Values valuess.MinusCell) one)
    minus_cell_phased None w = tt
    minus_cell_phased (Some kind) w = digits_phased kind w

    cell_end_phased : (wanted : Option DataType) → wanted_of columns ≡ wanted → Behind (rule wanted (symbol.Values valuess.CellEnd) one)
    cell_end_phased None w =
        chosen Behind (passes (test.Sign sign.Close) one) (take uses.Nothing (symbol.Row ∷ values valuess.Rows ∷ [])) None
        (λ after next. record { phase = AtEnd; holds = record { values = held_behind columns draft one before after next h; wants = w }; accepted = a }) tt
    cell_end_phased (Some kind) w =
        chosen Behind (passes (test.Sign sign.Comma) one) (take uses.Nothing (values valuess.Cell ∷ [])) None
        (λ after next. record { phase = AtCell; holds = held_behind columns draft one before after next h; accepted = a }) tt

  date_phased : Wanting (Some kind.Date) columns draft before → accepts AtRows more ≡ true → Behind (rule (wanted_of columns) (symbol.Values valuess.DateCell) one)
  date_phased h a =
      chosen Behind (passes test.DateText one) (take (uses.Cell cells.Date) (values valuess.CellEnd ∷ [])) None
      (λ after next. record { phase = AtCell; holds = cell_taken columns draft one before after next cells.Date kind.Date h.values h.wants next.day; accepted = a }) tt

  values_phased : (head : ValuesSymbol) (phase : Phase) → Holds phase columns draft before → values_allows head phase ≡ true → accepts (values_leaves head) more ≡ true
      → Behind (rule (wanted_of columns) (symbol.Values head) one)
  values_phased valuess.Column phase h allowed a = record { phase = AtColumns; holds = begun phase columns draft before allowed h; accepted = a }
  values_phased valuess.Columns phase h allowed a = columns_phased (begun phase columns draft before allowed h) a
  values_phased valuess.ColumnKind phase h allowed a = kind_phased (named phase columns draft before allowed h) a
  values_phased valuess.Rows phase h allowed a = rows_phased (ended phase columns draft before allowed h) a
  values_phased valuess.Cell phase h allowed a = cell_phased (in_row phase columns draft before allowed h) a (wanted_of columns) refl
  values_phased valuess.MinusCell phase h allowed a = minus_cell_phased (in_row phase columns draft before allowed h) a (wanted_of columns) refl
  values_phased valuess.DateCell phase h allowed a = date_phased (at_a_date phase columns draft before allowed h) a
  values_phased valuess.CellEnd phase h allowed a = cell_end_phased (in_row phase columns draft before allowed h) a (wanted_of columns) refl

  pipeline_phased : (head : PipelineSymbol) (phase : Phase) → Roomy before → Holds phase columns draft before → accepts (pipeline_leaves head phase) more ≡ true
      → Behind (rule (wanted_of columns) (symbol.Pipeline head) one)
  pipeline_phased pipelines.Source phase room h a = source_phased room a
  pipeline_phased pipelines.Name phase room h a = name_phased phase h a
  pipeline_phased other phase room h a = plain_phased columns draft one before more (pipeline_rule other one) (pipeline_plain other one refl) a

  rule_phased : (head : Symbol) (phase : Phase) → Roomy before → Holds phase columns draft before → accepts phase (head ∷ more) ≡ true → Behind (rule (wanted_of columns) head one)
  rule_phased (symbol.Pipeline head) phase room h a = pipeline_phased head phase room h a
  rule_phased (symbol.Step head) phase room h a = plain_phased columns draft one before more (step_rule head one) (step_plain head one) a
  rule_phased (symbol.Expression head) phase room h a = plain_phased columns draft one before more (expression_rule head one) (expression_plain head one) a
  rule_phased (symbol.Unit head) phase room h a = plain_phased columns draft one before more (unit_rule head one) (unit_plain head one) a
  rule_phased (symbol.Values head) phase room h a = let parts = and_parts _ _ a in values_phased head phase h parts.0 parts.1
  rule_phased (symbol.Need test) phase room h a = need_phased test phase h a
  rule_phased (symbol.Act action) phase room h a = tt
  rule_phased (symbol.Column kind) phase room h a = tt
  rule_phased symbol.Row phase room h a = tt

-- ---- deeds

record DoneAt (columns : Columns) (draft : Draft) (left : List Token) (more : List Symbol) (done : Deed) : Type 0 where
  can : CanDo done draft
  phased : Phased (after_doing done columns) (built done draft) left more

can_step : (one : StepAction) (phase : Phase) (columns : Columns) (draft : Draft) (left : List Token) → step_allows one phase ≡ true → Holds phase columns draft left → CanStep one draft
can_step stepactions.Values phase columns draft left allowed h = values_held columns draft left (ended phase columns draft left allowed h).values
can_step other phase columns draft left allowed h = tt

can_act : (one : Action) (phase : Phase) (columns : Columns) (draft : Draft) (left : List Token) → act_allows one phase ≡ true → Holds phase columns draft left → CanAct one draft
can_act (action.Step one) phase columns draft left allowed h = can_step one phase columns draft left allowed h
can_act other phase columns draft left allowed h = tt

none_some : {A B : Type 0} {x : A} → ◌≡◌ {A = Option A} None (Some x) → B
none_some e = absurd (none_is_some e)
  where
    none_is_some : {A : Type 0} {x : A} → ◌≡◌ {A = Option A} None (Some x) → ⊥
    none_is_some e = cc

done_at : (columns : Columns) (draft : Draft) (left : List Token) (one : Symbol) (more : List Symbol) (done : Deed) (phase : Phase) → deed_of one ≡ Some done
    → Holds phase columns draft left → accepts phase (one ∷ more) ≡ true → DoneAt columns draft left more done
done_at columns draft left (symbol.Act one) more done phase e h a =
    let parts = and_parts (act_allows one phase) (accepts Any more) a in
    subst (λ (done : Deed). DoneAt columns draft left more done) (same_Some _ _ e)
    (record { can = can_act one phase columns draft left parts.0 h; phased = record { phase = Any; holds = tt; accepted = parts.1 } })
done_at columns draft left (symbol.Column kind) more done phase e h a =
    let parts = and_parts (at_kind phase) (accepts AtColumns more) a in
    subst (λ (done : Deed). DoneAt columns draft left more done) (same_Some _ _ e)
    (record { can = tt; phased = record { phase = AtColumns; holds = column_done columns draft left kind (named phase columns draft left parts.0 h); accepted = parts.1 } })
done_at columns draft left symbol.Row more done phase e h a =
    let parts = and_parts (at_end phase) (accepts AtRows more) a in
    subst (λ (done : Deed). DoneAt columns draft left more done) (same_Some _ _ e)
    (record { can = tt; phased = record { phase = AtRows; holds = row_done columns draft left (at_row_end phase columns draft left parts.0 h); accepted = parts.1 } })
done_at columns draft left (symbol.Pipeline one) more done phase e h a = none_some e
done_at columns draft left (symbol.Step one) more done phase e h a = none_some e
done_at columns draft left (symbol.Expression one) more done phase e h a = none_some e
done_at columns draft left (symbol.Unit one) more done phase e h a = none_some e
done_at columns draft left (symbol.Values one) more done phase e h a = none_some e
done_at columns draft left (symbol.Need test) more done phase e h a = none_some e

-- what a token is kept for needs nothing
can_take : (used : Use) (one : Token) (deeds : List Deed) (draft : Draft) → CanDoAll deeds (taken used one draft) → CanDoAll (kept used one ++ deeds) draft
can_take uses.Nothing one deeds draft can = can
can_take other one deeds draft can = (tt, can)

roomy_behind : (one : Token) (tokens : List Token) → Roomy (one ∷ tokens) → Roomy tokens
roomy_behind one tokens room = record { texts = omega (arith, room.texts); count = omega (arith, room.count); days = room.days.1 }

is_before : (one : Token) (tokens : List Token) → Roomy (one ∷ tokens) → IsBefore one (one ∷ tokens) tokens
is_before one tokens room = record { texts = omega arith; count = omega arith; day = room.days.0 }

can_all : {columns : Columns} {symbols : List Symbol} {tokens : List Token} {deeds : List Deed} → Derives columns symbols tokens deeds
    → (draft : Draft) → Roomy tokens → Phased columns draft tokens symbols → CanDoAll deeds draft
can_all (over columns) draft room p = tt
can_all (doing columns one symbols tokens deeds done e more) draft room p =
    let at = done_at columns draft tokens one symbols done p.phase e p.holds p.accepted in
    (at.can, can_all more (built done draft) room at.phased)
can_all (goes columns one symbols production tokens deeds e more) draft room p =
    let behind = rule_phased columns draft (next_of tokens) tokens symbols one p.phase room p.holds p.accepted in
    can_all more draft room (subst (λ (found : Option Production). PhasedBehind columns draft (next_of tokens) tokens symbols found) e behind)
can_all (takes columns one symbols production token tokens deeds used e more) draft room p =
    let behind = rule_phased columns draft token (token ∷ tokens) symbols one p.phase room p.holds p.accepted in
    let phased = subst (λ (found : Option Production). PhasedBehind columns draft token (token ∷ tokens) symbols found) e behind tokens (is_before token tokens room) in
    can_take used token deeds draft (can_all more (taken used token draft) (roomy_behind token tokens room) phased)

text_roomy : (text : List ℕ) → length text ≤ 1048576 → Roomy (only_tokens (tokens_of text))
text_roomy text short = let room = text_room text in record { texts = omega (arith, room.texts, short); count = omega (arith, room.count, short); days = room.days }

-- what a text of at most 1 MiB puts into a stream can be written
pub deeds_can_be_done : (text : List ℕ) (deeds : List Deed) → length text ≤ 1048576 → IsPipeline (only_tokens (tokens_of text)) deeds → CanDoAll deeds no_draft
deeds_can_be_done text deeds short derived = can_all derived no_draft (text_roomy text short) (record { phase = Any; holds = tt; accepted = refl })
