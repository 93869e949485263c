-- What a reader has read can be ended, so that it begins a pipeline.
use Rattle.std.proofs.Common.{◌≡◌, ℕ, ◌+◌, ◌<◌, Bool, true, false, cond, List, [], ◌∷◌, ◌++◌, refl, sym, ap, subst, ◌∙◌, length, inl, inr, arith}
use Rattle.std.specs.Prelude.{◌&&◌, ◌||◌, not, Option, Some, None, unwrap_or, ◌⊎◌}
use Rattle.std.proofs.lemmas.Bool.{and_parts}
use Rattle.std.proofs.lemmas.Option.{same_Some}
use Rattle.cn_types.specs.declared.value.DataType.{DataType}
use Rattle.cn_types.specs.declared.value.DataType.TheVariants as kind
use Rattle.plan_tokens.specs.declared.keyword.Keyword.{Keyword}
use Rattle.plan_tokens.specs.declared.keyword.Keyword.TheVariants as word
use Rattle.plan_tokens.specs.declared.token.Sign.{Sign}
use Rattle.plan_tokens.specs.declared.token.Sign.TheVariants as sign
use Rattle.plan_tokens.specs.declared.token.Token.{Token}
use Rattle.plan_tokens.specs.declared.token.Token.TheVariants as token
use Rattle.plan_grammar.specs.declared.symbol.Action.{Action}
use Rattle.plan_grammar.specs.declared.symbol.Action.TheVariants as action
use Rattle.plan_grammar.specs.declared.symbol.Choice.TheVariants as choices
use Rattle.plan_grammar.specs.declared.symbol.Part.TheVariants as parts
use Rattle.plan_grammar.specs.declared.symbol.Unary.TheVariants as unarys
use Rattle.plan_grammar.specs.declared.symbol.UnitAction.TheVariants as unitactions
use Rattle.plan_grammar.specs.declared.symbol.StepAction.TheVariants as stepactions
use Rattle.plan_grammar.specs.declared.symbol.Columns.{Columns}
use Rattle.plan_grammar.specs.declared.symbol.Deed.{Deed}
use Rattle.plan_grammar.specs.declared.symbol.Deed.TheVariants as deed
use Rattle.plan_grammar.specs.declared.symbol.Cell.TheVariants as cells
use Rattle.plan_grammar.specs.declared.symbol.Use.{Use}
use Rattle.plan_grammar.specs.declared.symbol.Use.TheVariants as uses
use Rattle.plan_grammar.specs.declared.symbol.Test.{Test}
use Rattle.plan_grammar.specs.declared.symbol.Test.TheVariants as test
use Rattle.plan_grammar.specs.declared.symbol.Symbol.{Symbol}
use Rattle.plan_grammar.specs.declared.symbol.Symbol.TheVariants as symbol
use Rattle.plan_grammar.specs.declared.symbol.PipelineSymbol.{PipelineSymbol}
use Rattle.plan_grammar.specs.declared.symbol.PipelineSymbol.TheVariants as pipelines
use Rattle.plan_grammar.specs.declared.symbol.StepSymbol.{StepSymbol}
use Rattle.plan_grammar.specs.declared.symbol.StepSymbol.TheVariants as steps
use Rattle.plan_grammar.specs.declared.symbol.ExpressionSymbol.{ExpressionSymbol}
use Rattle.plan_grammar.specs.declared.symbol.ExpressionSymbol.TheVariants as expressions
use Rattle.plan_grammar.specs.declared.symbol.UnitSymbol.{UnitSymbol}
use Rattle.plan_grammar.specs.declared.symbol.UnitSymbol.TheVariants as units
use Rattle.plan_grammar.specs.declared.symbol.ValuesSymbol.{ValuesSymbol}
use Rattle.plan_grammar.specs.declared.symbol.ValuesSymbol.TheVariants as valuess
use Rattle.plan_grammar.specs.Tests.{passes, is_same_word, is_same_sign}
use Rattle.plan_grammar.specs.Productions.{does, need, pipeline, step, expression, unit, values}
use Rattle.plan_grammar.specs.Grammar.{rule}
use Rattle.plan_grammar.specs.Derivation.{Derives, IsPipeline, BeginsPipeline, Reads, begins, has_done, has_gone, has_taken, wanted_of, behind_use, after_doing, deed_of, kept, head_of, next_of, no_columns, whole}
use Rattle.plan_grammar.specs.Productions.{Production, or_else}
use Rattle.plan_grammar.specs.ValuesRules.{kind_rule, minus_rule, minus_cell_rule}
use Rattle.plan_grammar.proofs.Steps.{read_with}
use Rattle.plan_grammar.proofs.Stacks.{Stop, AtEnd, AtClose, AtAgg, AtAs, first_of, first_of_all, needs, is_ready, implied, is_ready_behind, is_plain, all_plain, holds_values, keeps}
use Rattle.plan_grammar.proofs.Kept.{rule_keeps}
use Rattle.plan_grammar.proofs.Phases.{Phase, Any, Fresh, Filled, Wanting, Signed, InRow, HasColumns, Holds, allows, leaves, accepts}
use Rattle.plan_grammar.proofs.Ended.{never}
use Rattle.plan_grammar.proofs.AllEnds.{no_cell_taken, are_filled, are_wanting, are_signed, are_in_row, one_more_filled, wanted_has_columns, filled_wants, signed_has_columns, all_ended}

both : (x y : Bool) → x ≡ true → y ≡ true → (x && y) ≡ true
both true y e f = f
both false y e f = e

-- ---- what stands behind

first_joined : (production more : List Symbol) (behind : Option Stop) → first_of_all (production ++ more) behind ≡ first_of_all production (first_of_all more behind)
first_joined [] more behind = refl
first_joined (one ∷ production) more behind = ap (first_of one) (first_joined production more behind)

ready_joined : (production more : List Symbol) (behind : Option Stop) → is_ready production (first_of_all more behind) ≡ true → is_ready more behind ≡ true → is_ready (production ++ more) behind ≡ true
ready_joined [] more behind e f = f
ready_joined (one ∷ production) more behind e f =
    let ready = and_parts _ _ e in
    both _ _ (ap (needs one) (first_joined production more behind) ∙ ready.0) (ready_joined production more behind ready.1 f)

follows : (needed ready : Bool) → (not needed || ready) ≡ true → needed ≡ true → ready ≡ true
follows true ready e f = e
follows false ready e f = never f

each_implied : (one : Symbol) (production : List Symbol) (behind : Option Stop) → is_ready_behind one production ≡ true → implied one production behind ≡ true
each_implied one production behind e =
    let before_as : Bool = implied one production (Some AtAs) in
    let before_agg : Bool = implied one production (Some AtAgg) && before_as in
    let before_close : Bool = implied one production (Some AtClose) && before_agg in
    let before_end : Bool = implied one production (Some AtEnd) && before_close in
    let none = and_parts (implied one production None) before_end e in
    let at_end = and_parts (implied one production (Some AtEnd)) before_close none.1 in
    let at_close = and_parts (implied one production (Some AtClose)) before_agg at_end.1 in
    let at_agg = and_parts (implied one production (Some AtAgg)) before_as at_close.1 in
    elim behind as (λ (b : Option Stop). implied one production b ≡ true) [
      | None ↦ none.0
      | Some stop ↦ elim stop as (λ (s : Stop). implied one production (Some s) ≡ true) [ AtEnd ↦ at_end.0 | AtClose ↦ at_close.0 | AtAgg ↦ at_agg.0 | AtAs ↦ at_agg.1 ]
    ]

ready_behind : (one : Symbol) (production : List Symbol) (behind : Option Stop) → is_ready_behind one production ≡ true → needs one behind ≡ true → is_ready production behind ≡ true
ready_behind one production behind e n = follows (needs one behind) (is_ready production behind) (each_implied one production behind e) n

production_ready : (one : Symbol) (more production : List Symbol) (used : Option Use) → keeps one (Some (used, production)) ≡ true → is_ready (one ∷ more) (Some AtEnd) ≡ true
    → is_ready (production ++ more) (Some AtEnd) ≡ true
production_ready one more production used k r =
    let ready = and_parts _ _ r in
    ready_joined production more (Some AtEnd) (ready_behind one production (first_of_all more (Some AtEnd)) (and_parts _ _ (and_parts _ _ k).1).1 ready.0) ready.1

-- ---- columns

-- how far the columns are, and that the symbols may come next
record Phased (columns : Columns) (symbols : List Symbol) : Type 0 where
  phase : Phase
  holds : Holds phase columns
  accepted : accepts phase symbols ≡ true

abbrev columns_behind : Option Use → Columns → Columns
columns_behind None columns = columns
columns_behind (Some used) columns = behind_use used columns

abbrev PhasedBehind : Columns → List Symbol → Option Production → Type 0
PhasedBehind columns more None = Unit {0}
PhasedBehind columns more (Some (used, production)) = Phased (columns_behind used columns) (production ++ more)

chosen : (P : Option Production → Type 0) (test : Bool) (x y : Option Production) → P x → P y → P (cond test x y)
chosen P true x y e f = e
chosen P false x y e f = f

plain_allowed : (one : Symbol) → is_plain one ≡ true → allows one Any ≡ true
plain_allowed (symbol.Pipeline one) e = refl
plain_allowed (symbol.Step one) e = refl
plain_allowed (symbol.Expression one) e = refl
plain_allowed (symbol.Unit one) e = refl
plain_allowed (symbol.Need test) e = refl
plain_allowed (symbol.Act action) e = refl
plain_allowed (symbol.Values one) e = never e
plain_allowed (symbol.Column kind) e = never e
plain_allowed symbol.Row e = never e

plain_leaves : (one : Symbol) → is_plain one ≡ true → leaves one Any ≡ Any
plain_leaves (symbol.Pipeline pipelines.Name) e = refl
plain_leaves (symbol.Pipeline one) e = refl
plain_leaves (symbol.Step one) e = refl
plain_leaves (symbol.Expression one) e = refl
plain_leaves (symbol.Unit one) e = refl
plain_leaves (symbol.Need test) e = refl
plain_leaves (symbol.Act action) e = refl
plain_leaves (symbol.Values one) e = never e
plain_leaves (symbol.Column kind) e = never e
plain_leaves symbol.Row e = never e

plain_accepted : (production more : List Symbol) → all_plain production ≡ true → accepts Any more ≡ true → accepts Any (production ++ more) ≡ true
plain_accepted [] more e a = a
plain_accepted (one ∷ production) more e a =
    let plain = and_parts _ _ e in
    let rest = plain_accepted production more plain.1 a in
    both _ _ (plain_allowed one plain.0) (subst (λ (phase : Phase). accepts phase (production ++ more) ≡ true) (sym (plain_leaves one plain.0)) rest)

all_are_plain : (one : Symbol) (production : List Symbol) → holds_values one ≡ false → (holds_values one || all_plain production) ≡ true → all_plain production ≡ true
all_are_plain one production none e = subst (λ (b : Bool). (b || all_plain production) ≡ true) none e

plain_phased : (columns : Columns) (one : Symbol) (more : List Symbol) (found : Option Production) → holds_values one ≡ false → keeps one found ≡ true → accepts Any more ≡ true → PhasedBehind columns more found
plain_phased columns one more None none k a = tt
plain_phased columns one more (Some (used, production)) none k a =
    record { phase = Any; holds = tt; accepted = plain_accepted production more (all_are_plain one production none (and_parts _ _ k).0) a }

module _ (columns : Columns) (more : List Symbol) (token : Token) where
  abbrev Behind : Option Production → Type 0
  Behind found = PhasedBehind columns more found

  any_phase : (production : List Symbol) (used : Option Use) → accepts Any (production ++ more) ≡ true → Phased (columns_behind used columns) (production ++ more)
  any_phase production used a = record { phase = Any; holds = tt; accepted = a }

  source_phased : accepts Any more ≡ true → Behind (rule (wanted_of columns) (symbol.Pipeline pipelines.Source) token)
  source_phased a =
      let from_range : List Symbol = pipeline pipelines.Long ∷ pipeline pipelines.Long ∷ pipeline pipelines.Long ∷ does (action.Step stepactions.Range) ∷ [] in
      let from_table : List Symbol = pipeline pipelines.Name ∷ does (action.Step stepactions.Read) ∷ [] in
      let from_values : List Symbol =
      need (test.Sign sign.Open) ∷ values valuess.Column ∷ values valuess.Columns ∷ need (test.Sign sign.Close) ∷ values valuess.Rows ∷ does (action.Step stepactions.Values) ∷ [] in
      let or_values : Option Production = cond (passes (test.Word word.Values) token) (Some (Some uses.NewColumns, from_values)) None in
      let or_table : Option Production = cond (passes (test.Word word.Table) token) (Some (Some uses.Nothing, from_table)) or_values in
      chosen Behind (passes (test.Word word.Range) token) (Some (Some uses.Nothing, from_range)) or_table (record { phase = Any; holds = tt; accepted = a })
      (chosen Behind (passes (test.Word word.Table) token) (Some (Some uses.Nothing, from_table)) or_values (record { phase = Any; holds = tt; accepted = a })
      (chosen Behind (passes (test.Word word.Values) token) (Some (Some uses.NewColumns, from_values)) None (record { phase = Fresh; holds = refl; accepted = a }) tt))

  name_phased : (phase : Phase) → Holds phase columns → accepts phase more ≡ true → Behind (rule (wanted_of columns) (symbol.Pipeline pipelines.Name) token)
  name_phased phase h a = chosen Behind (passes test.Name token) (Some (Some uses.Name, [])) None (record { phase = phase; holds = h; accepted = a }) tt

  need_phased : (test : Test) (phase : Phase) → Holds phase columns → accepts phase more ≡ true → Behind (rule (wanted_of columns) (symbol.Need test) token)
  need_phased test phase h a = chosen Behind (passes test token) (Some (Some uses.Nothing, [])) None (record { phase = phase; holds = h; accepted = a }) tt

  fresh : columns.cells ≡ 0 → Holds Fresh columns
  fresh e = e

  kind_phased : columns.cells ≡ 0 → accepts Filled more ≡ true → Behind (rule (wanted_of columns) (symbol.Values valuess.ColumnKind) token)
  kind_phased z a =
      let from_date : Option Production = cond (passes (test.Word word.Date) token) (Some (Some uses.Nothing, symbol.Column kind.Date ∷ [])) None in
      let from_boolean : Option Production = cond (passes (test.Word word.Boolean) token) (Some (Some uses.Nothing, symbol.Column kind.Boolean ∷ [])) from_date in
      let from_string : Option Production = cond (passes (test.Word word.String) token) (Some (Some uses.Nothing, symbol.Column kind.Text ∷ [])) from_boolean in
      let from_long : Option Production = cond (passes (test.Word word.Long) token) (Some (Some uses.Nothing, symbol.Column kind.Long ∷ [])) from_string in
      let from_integer : Option Production = cond (passes (test.Word word.Integer) token) (Some (Some uses.Nothing, symbol.Column kind.Integer ∷ [])) from_long in
      chosen Behind (passes (test.Word word.Integer) token) (Some (Some uses.Nothing, symbol.Column kind.Integer ∷ [])) from_long (record { phase = Fresh; holds = z; accepted = a })
      (chosen Behind (passes (test.Word word.Long) token) (Some (Some uses.Nothing, symbol.Column kind.Long ∷ [])) from_string (record { phase = Fresh; holds = z; accepted = a })
      (chosen Behind (passes (test.Word word.String) token) (Some (Some uses.Nothing, symbol.Column kind.Text ∷ [])) from_boolean (record { phase = Fresh; holds = z; accepted = a })
      (chosen Behind (passes (test.Word word.Boolean) token) (Some (Some uses.Nothing, symbol.Column kind.Boolean ∷ [])) from_date (record { phase = Fresh; holds = z; accepted = a })
      (chosen Behind (passes (test.Word word.Date) token) (Some (Some uses.Nothing, symbol.Column kind.Date ∷ [])) None (record { phase = Fresh; holds = z; accepted = a })
      tt))))

  columns_phased : Holds Filled columns → accepts Filled more ≡ true → Behind (rule (wanted_of columns) (symbol.Values valuess.Columns) token)
  columns_phased h a = chosen Behind (passes (test.Sign sign.Comma) token) (Some (Some uses.Nothing, values valuess.Column ∷ values valuess.Columns ∷ [])) (Some (None, [])) (record { phase = Filled; holds = h; accepted = a }) (record { phase = Filled; holds = h; accepted = a })

  rows_phased : Holds Filled columns → accepts Any more ≡ true → Behind (rule (wanted_of columns) (symbol.Values valuess.Rows) token)
  rows_phased h a = chosen Behind (passes (test.Sign sign.Open) token) (Some (Some uses.Nothing, values valuess.Cell ∷ [])) (Some (None, [])) (record { phase = Wanting; holds = filled_wants columns h; accepted = a }) (record { phase = Any; holds = tt; accepted = a })

  kinds_phased : (one : DataType) → wanted_of columns ≡ Some one → accepts Any more ≡ true → Behind (kind_rule one token)
  kinds_phased kind.Integer w a =
      chosen Behind (passes test.Integer token) (Some (Some (uses.Cell cells.Integer), (values valuess.CellEnd ∷ []))) (minus_rule token) (record { phase = InRow; holds = wanted_has_columns columns kind.Integer w; accepted = a })
      (chosen Behind (passes test.Minus token) (Some (Some uses.Nothing, values valuess.MinusCell ∷ [])) None (record { phase = Signed; holds = inl w; accepted = a }) tt)
  kinds_phased kind.Long w a =
      chosen Behind (passes test.Long token) (Some (Some (uses.Cell cells.Long), (values valuess.CellEnd ∷ []))) (minus_rule token) (record { phase = InRow; holds = wanted_has_columns columns kind.Long w; accepted = a })
      (chosen Behind (passes test.Minus token) (Some (Some uses.Nothing, values valuess.MinusCell ∷ [])) None (record { phase = Signed; holds = inr w; accepted = a }) tt)
  kinds_phased kind.Text w a = chosen Behind (passes test.Quotation token) (Some (Some (uses.Cell cells.Text), (values valuess.CellEnd ∷ []))) None (record { phase = InRow; holds = wanted_has_columns columns kind.Text w; accepted = a }) tt
  kinds_phased kind.Boolean w a =
      let or_false : Option Production = cond (passes (test.Word word.False) token) (Some (Some (uses.Cell cells.False), (values valuess.CellEnd ∷ []))) None in
      chosen Behind (passes (test.Word word.True) token) (Some (Some (uses.Cell cells.True), (values valuess.CellEnd ∷ []))) or_false (record { phase = InRow; holds = wanted_has_columns columns kind.Boolean w; accepted = a })
      (chosen Behind (passes (test.Word word.False) token) (Some (Some (uses.Cell cells.False), (values valuess.CellEnd ∷ []))) None (record { phase = InRow; holds = wanted_has_columns columns kind.Boolean w; accepted = a }) tt)
  kinds_phased kind.Date w a = chosen Behind (passes (test.Word word.Date) token) (Some (Some uses.Nothing, values valuess.DateCell ∷ [])) None (record { phase = InRow; holds = wanted_has_columns columns kind.Date w; accepted = a }) tt

  cell_phased : (one : DataType) → wanted_of columns ≡ Some one → accepts Any more ≡ true → Behind (rule (Some one) (symbol.Values valuess.Cell) token)
  cell_phased one w a = chosen Behind (passes (test.Word word.Null) token) (Some (Some (uses.Cell cells.Null), (values valuess.CellEnd ∷ []))) (kind_rule one token) (record { phase = InRow; holds = wanted_has_columns columns one w; accepted = a }) (kinds_phased one w a)

  minus_phased : (one : DataType) → HasColumns columns → accepts Any more ≡ true → Behind (minus_cell_rule one token)
  minus_phased kind.Integer h a = chosen Behind (passes test.NegativeInteger token) (Some (Some (uses.Cell cells.NegativeInteger), (values valuess.CellEnd ∷ []))) None (record { phase = InRow; holds = h; accepted = a }) tt
  minus_phased kind.Long h a = chosen Behind (passes test.NegativeLong token) (Some (Some (uses.Cell cells.NegativeLong), (values valuess.CellEnd ∷ []))) None (record { phase = InRow; holds = h; accepted = a }) tt
  minus_phased kind.Text h a = tt
  minus_phased kind.Boolean h a = tt
  minus_phased kind.Date h a = tt

  date_phased : HasColumns columns → accepts Any more ≡ true → Behind (rule (wanted_of columns) (symbol.Values valuess.DateCell) token)
  date_phased h a = chosen Behind (passes test.DateText token) (Some (Some (uses.Cell cells.Date), (values valuess.CellEnd ∷ []))) None (record { phase = InRow; holds = h; accepted = a }) tt

  cell_end_phased : (wanted : Option DataType) → wanted_of columns ≡ wanted → HasColumns columns → accepts Any more ≡ true → Behind (rule wanted (symbol.Values valuess.CellEnd) token)
  cell_end_phased None w h a = chosen Behind (passes (test.Sign sign.Close) token) (Some (Some uses.Nothing, symbol.Row ∷ values valuess.Rows ∷ [])) None (record { phase = InRow; holds = h; accepted = a }) tt
  cell_end_phased (Some one) w h a = chosen Behind (passes (test.Sign sign.Comma) token) (Some (Some uses.Nothing, values valuess.Cell ∷ [])) None (record { phase = Wanting; holds = (one, w); accepted = a }) tt

  minus_cell_phased : (wanted : Option DataType) → HasColumns columns → accepts Any more ≡ true → Behind (rule wanted (symbol.Values valuess.MinusCell) token)
  minus_cell_phased None h a = tt
  minus_cell_phased (Some one) h a = minus_phased one h a

  rule_phased : (one : Symbol) (phase : Phase) → Holds phase columns → accepts phase (one ∷ more) ≡ true → Behind (rule (wanted_of columns) one token)
  rule_phased (symbol.Pipeline pipelines.Source) phase h a = source_phased a
  rule_phased (symbol.Pipeline pipelines.Name) phase h a = name_phased phase h a
  rule_phased (symbol.Pipeline pipelines.Whole) phase h a = plain_phased columns (symbol.Pipeline pipelines.Whole) more (rule (wanted_of columns) (symbol.Pipeline pipelines.Whole) token) refl (rule_keeps (wanted_of columns) (symbol.Pipeline pipelines.Whole) token) a
  rule_phased (symbol.Pipeline pipelines.Finish) phase h a = plain_phased columns (symbol.Pipeline pipelines.Finish) more (rule (wanted_of columns) (symbol.Pipeline pipelines.Finish) token) refl (rule_keeps (wanted_of columns) (symbol.Pipeline pipelines.Finish) token) a
  rule_phased (symbol.Pipeline pipelines.StepOrWrite) phase h a = plain_phased columns (symbol.Pipeline pipelines.StepOrWrite) more (rule (wanted_of columns) (symbol.Pipeline pipelines.StepOrWrite) token) refl (rule_keeps (wanted_of columns) (symbol.Pipeline pipelines.StepOrWrite) token) a
  rule_phased (symbol.Pipeline pipelines.Mode) phase h a = plain_phased columns (symbol.Pipeline pipelines.Mode) more (rule (wanted_of columns) (symbol.Pipeline pipelines.Mode) token) refl (rule_keeps (wanted_of columns) (symbol.Pipeline pipelines.Mode) token) a
  rule_phased (symbol.Pipeline pipelines.Nested) phase h a = plain_phased columns (symbol.Pipeline pipelines.Nested) more (rule (wanted_of columns) (symbol.Pipeline pipelines.Nested) token) refl (rule_keeps (wanted_of columns) (symbol.Pipeline pipelines.Nested) token) a
  rule_phased (symbol.Pipeline pipelines.Steps) phase h a = plain_phased columns (symbol.Pipeline pipelines.Steps) more (rule (wanted_of columns) (symbol.Pipeline pipelines.Steps) token) refl (rule_keeps (wanted_of columns) (symbol.Pipeline pipelines.Steps) token) a
  rule_phased (symbol.Pipeline pipelines.Names) phase h a = plain_phased columns (symbol.Pipeline pipelines.Names) more (rule (wanted_of columns) (symbol.Pipeline pipelines.Names) token) refl (rule_keeps (wanted_of columns) (symbol.Pipeline pipelines.Names) token) a
  rule_phased (symbol.Pipeline pipelines.Integer) phase h a = plain_phased columns (symbol.Pipeline pipelines.Integer) more (rule (wanted_of columns) (symbol.Pipeline pipelines.Integer) token) refl (rule_keeps (wanted_of columns) (symbol.Pipeline pipelines.Integer) token) a
  rule_phased (symbol.Pipeline pipelines.NegativeInteger) phase h a = plain_phased columns (symbol.Pipeline pipelines.NegativeInteger) more (rule (wanted_of columns) (symbol.Pipeline pipelines.NegativeInteger) token) refl (rule_keeps (wanted_of columns) (symbol.Pipeline pipelines.NegativeInteger) token) a
  rule_phased (symbol.Pipeline pipelines.Long) phase h a = plain_phased columns (symbol.Pipeline pipelines.Long) more (rule (wanted_of columns) (symbol.Pipeline pipelines.Long) token) refl (rule_keeps (wanted_of columns) (symbol.Pipeline pipelines.Long) token) a
  rule_phased (symbol.Pipeline pipelines.NegativeLong) phase h a = plain_phased columns (symbol.Pipeline pipelines.NegativeLong) more (rule (wanted_of columns) (symbol.Pipeline pipelines.NegativeLong) token) refl (rule_keeps (wanted_of columns) (symbol.Pipeline pipelines.NegativeLong) token) a
  rule_phased (symbol.Step one) phase h a = plain_phased columns (symbol.Step one) more (rule (wanted_of columns) (symbol.Step one) token) refl (rule_keeps (wanted_of columns) (symbol.Step one) token) a
  rule_phased (symbol.Expression one) phase h a = plain_phased columns (symbol.Expression one) more (rule (wanted_of columns) (symbol.Expression one) token) refl (rule_keeps (wanted_of columns) (symbol.Expression one) token) a
  rule_phased (symbol.Unit one) phase h a = plain_phased columns (symbol.Unit one) more (rule (wanted_of columns) (symbol.Unit one) token) refl (rule_keeps (wanted_of columns) (symbol.Unit one) token) a
  rule_phased (symbol.Values valuess.Column) phase h a =
      let allowed = and_parts _ _ a in record { phase = Fresh; holds = no_cell_taken phase columns allowed.0 h; accepted = allowed.1 }
  rule_phased (symbol.Values valuess.Columns) phase h a = let allowed = and_parts _ _ a in columns_phased (are_filled phase columns allowed.0 h) allowed.1
  rule_phased (symbol.Values valuess.ColumnKind) phase h a = let allowed = and_parts _ _ a in kind_phased (no_cell_taken phase columns allowed.0 h) allowed.1
  rule_phased (symbol.Values valuess.Rows) phase h a = let allowed = and_parts _ _ a in rows_phased (are_filled phase columns allowed.0 h) allowed.1
  rule_phased (symbol.Values valuess.Cell) phase h a =
      let allowed = and_parts _ _ a in
      let wants = are_wanting phase columns allowed.0 h in
      subst (λ (w : Option DataType). Behind (rule w (symbol.Values valuess.Cell) token)) (sym wants.1) (cell_phased wants.0 wants.1 allowed.1)
  rule_phased (symbol.Values valuess.MinusCell) phase h a =
      let allowed = and_parts _ _ a in minus_cell_phased (wanted_of columns) (signed_has_columns columns (are_signed phase columns allowed.0 h)) allowed.1
  rule_phased (symbol.Values valuess.DateCell) phase h a = let allowed = and_parts _ _ a in date_phased (are_in_row phase columns allowed.0 h) allowed.1
  rule_phased (symbol.Values valuess.CellEnd) phase h a = let allowed = and_parts _ _ a in cell_end_phased (wanted_of columns) refl (are_in_row phase columns allowed.0 h) allowed.1
  rule_phased (symbol.Need test) phase h a = need_phased test phase h a
  rule_phased (symbol.Act action) phase h a = tt
  rule_phased (symbol.Column one) phase h a = tt
  rule_phased symbol.Row phase h a = tt

-- ---- stacks

-- what holds of each stack that a reader comes to
record Stands (columns : Columns) (symbols : List Symbol) : Type 0 where
  phased : Phased columns symbols
  ready : is_ready symbols (Some AtEnd) ≡ true

stands_first : Stands no_columns whole
stands_first = record { phased = record { phase = Any; holds = tt; accepted = refl }; ready = refl }

stands_behind : (columns : Columns) (one : Symbol) (more : List Symbol) (token : Token) (used : Option Use) (production : List Symbol) → Stands columns (one ∷ more)
    → rule (wanted_of columns) one token ≡ Some (used, production) → Stands (columns_behind used columns) (production ++ more)
stands_behind columns one more token used production s e =
    record {
      phased = subst (λ (found : Option Production). PhasedBehind columns more found) e (rule_phased columns more token one s.phased.phase s.phased.holds s.phased.accepted);
      ready = production_ready one more production used (subst (λ (found : Option Production). keeps one found ≡ true) e (rule_keeps (wanted_of columns) one token)) s.ready;
    }

none_some : {A : Type 0} {x : A} → ◌≡◌ {A = Option A} None (Some x) → ⊥
none_some e = cc

doing_phased : (columns : Columns) (one : Symbol) (more : List Symbol) (done : Deed) → deed_of one ≡ Some done → Phased columns (one ∷ more) → Phased (after_doing done columns) more
doing_phased columns (symbol.Act action) more done e p =
    subst (λ (d : Deed). Phased (after_doing d columns) more) (same_Some (deed.Act action) done e) (record { phase = p.phase; holds = p.holds; accepted = p.accepted })
doing_phased columns (symbol.Column one) more done e p =
    let allowed = and_parts _ _ p.accepted in
    let after : Phased (after_doing (deed.Column one) columns) more = record { phase = Filled; holds = one_more_filled columns one (no_cell_taken p.phase columns allowed.0 p.holds); accepted = allowed.1 } in
    subst (λ (d : Deed). Phased (after_doing d columns) more) (same_Some (deed.Column one) done e) after
doing_phased columns symbol.Row more done e p =
    let allowed = and_parts _ _ p.accepted in
    let after : Phased (after_doing deed.Row columns) more = record { phase = Filled; holds = (refl, are_in_row p.phase columns allowed.0 p.holds); accepted = allowed.1 } in
    subst (λ (d : Deed). Phased (after_doing d columns) more) (same_Some deed.Row done e) after
doing_phased columns (symbol.Pipeline one) more done e p = absurd (none_some e)
doing_phased columns (symbol.Step one) more done e p = absurd (none_some e)
doing_phased columns (symbol.Expression one) more done e p = absurd (none_some e)
doing_phased columns (symbol.Unit one) more done e p = absurd (none_some e)
doing_phased columns (symbol.Values one) more done e p = absurd (none_some e)
doing_phased columns (symbol.Need test) more done e p = absurd (none_some e)

stands : {before : List Token} {deeds : List Deed} {columns : Columns} {symbols : List Symbol} {left : List Token} → Reads before deeds columns symbols left → Stands columns symbols
stands (begins left) = stands_first
stands (has_done before deeds columns one symbols left done read is) =
    let s = stands read in record { phased = doing_phased columns one symbols done is s.phased; ready = (and_parts _ _ s.ready).1 }
stands (has_gone before deeds columns one symbols production left read is) = stands_behind columns one symbols (next_of left) None production (stands read) is
stands (has_taken before deeds columns one symbols production token left used read is) = stands_behind columns one symbols token (Some used) production (stands read) is

-- ---- what was read is read before other tokens that begin alike

read_before : {before : List Token} {deeds : List Deed} {columns : Columns} {symbols : List Symbol} {left : List Token} → Reads before deeds columns symbols left
    → (other : List Token) → head_of other ≡ head_of left → Reads before deeds columns symbols other
read_before (begins left) other same = begins other
read_before (has_done before deeds columns one symbols left done read is) other same = has_done before deeds columns one symbols other done (read_before read other same) is
read_before (has_gone before deeds columns one symbols production left read is) other same =
    has_gone before deeds columns one symbols production other (read_before read other same) (ap (λ (o : Option Token). rule (wanted_of columns) one (unwrap_or o token.End)) same ∙ is)
read_before (has_taken before deeds columns one symbols production token left used read is) other same =
    has_taken before deeds columns one symbols production token other used (read_before read (token ∷ other) refl) is

-- where the last token was taken, before any that follow
record Taken (before : List Token) : Type 0 where
  columns : Columns
  symbols : List Symbol
  deeds : List Deed
  stack : Stands columns symbols
  read : (left : List Token) → Reads before deeds columns symbols left

last_taken : {before : List Token} {deeds : List Deed} {columns : Columns} {symbols : List Symbol} {left : List Token} → Reads before deeds columns symbols left → Taken before
last_taken (begins left) = record { columns = no_columns; symbols = whole; deeds = []; stack = stands_first; read = λ other. begins other }
last_taken (has_done before deeds columns one symbols left done read is) = last_taken read
last_taken (has_gone before deeds columns one symbols production left read is) = last_taken read
last_taken (has_taken before deeds columns one symbols production token left used read is) =
    record {
      columns = behind_use used columns;
      symbols = production ++ symbols;
      deeds = deeds ++ kept used token;
      stack = stands_behind columns one symbols token (Some used) production (stands read) is;
      read = λ other. has_taken before deeds columns one symbols production token other used (read_before read (token ∷ other) refl) is;
    }

-- what was read begins a pipeline
pub begins_pipeline : {before : List Token} {deeds : List Deed} {columns : Columns} {symbols : List Symbol} {left : List Token} → Reads before deeds columns symbols left → BeginsPipeline before
begins_pipeline read =
    let last = last_taken read in
    let rest = all_ended last.symbols last.stack.phased.phase last.columns last.stack.phased.holds last.stack.phased.accepted last.stack.ready in
    (rest.tokens, (last.deeds ++ rest.deeds, read_with (last.read rest.tokens) rest.deeds rest.derived))
