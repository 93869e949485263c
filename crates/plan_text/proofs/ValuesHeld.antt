-- What holds of the columns and rows of `values` while a text's deeds build them.
use Rattle.std.proofs.Common.{◌≡◌, ℕ, suc, ◌+◌, ◌<◌, ◌≤◌, ◌⊎◌, inl, inr, List, [], ◌∷◌, ◌++◌, length, map, take, get_or, min, true, refl, sym, ap, subst, ◌∙◌, arith, length-append}
use Rattle.std.specs.Prelude.{Option, Some, None, sum_by, slice_get, All}
use Rattle.std.proofs.Math.Seq.{take-suc}
use Rattle.std.proofs.lemmas.List.{map-append, take_all}
use Rattle.std.proofs.lemmas.List.Elements.{All-nil, All-push}
use Rattle.std.proofs.lemmas.List.Sums.{sum_by_push}
use Rattle.std.proofs.lemmas.Option.{slice_get_within, get_or_from_slice_get, slice_get_cases}
use Rattle.cn_types.specs.declared.value.DataType.{DataType}
use Rattle.cn_types.specs.declared.value.Value.{Value}
use Rattle.cn_types.specs.declared.row.Row.{Row}
use Rattle.cn_types.specs.declared.schema.Field.{Field}
use Rattle.cn_types.specs.Fit.{HasType, HaveTypes, IsDay}
use Rattle.arrow_ipc.specs.Columns.{text_size}
use Rattle.arrow_ipc.specs.Stream.{names_and_texts}
use Rattle.plan_tokens.specs.declared.token.Token.{Token}
use Rattle.plan_grammar.specs.declared.symbol.Cell.{Cell}
use Rattle.plan_grammar.specs.declared.symbol.Cell.TheVariants as cells
use Rattle.plan_grammar.specs.declared.symbol.Use.TheVariants as uses
use Rattle.plan_grammar.specs.declared.symbol.Columns.{Columns}
use Rattle.plan_grammar.specs.declared.symbol.Deed.TheVariants as deed
use Rattle.plan_grammar.specs.Derivation.{no_columns, wanted_of, behind_use, after_doing}
use Rattle.plan_text.specs.declared.draft.Draft.{Draft}
use Rattle.plan_text.specs.Piles.{top}
use Rattle.plan_text.specs.Drafts.{day_in, cell_of, taken, built}
use Rattle.plan_text.specs.Writable.{HasValues}
use Rattle.plan_text.proofs.TokenSizes.{content, contents}

-- ---- what holds

-- the bytes of all names of columns, and of all texts in their cells
abbrev pub held : Draft → ℕ
held draft = names_and_texts (record { 0 = draft.columns }) draft.rows + sum_by text_size draft.row

-- the rows and the row that is read are of the columns' types, and there is room for the tokens that are left
pub record Held (columns : Columns) (draft : Draft) (left : List Token) : Type 0 where
  pub kinds : map (λ (field : Field). field.kind) draft.columns ≡ columns.kinds
  pub rows : All (λ (row : Row). HaveTypes columns.kinds row.0) draft.rows
  pub row : HaveTypes (take columns.cells columns.kinds) draft.row
  pub count : length draft.columns + length left ≤ 1048576
  pub texts : held draft + contents left ≤ 3145728

-- no row was begun
pub record Begun (columns : Columns) (draft : Draft) (left : List Token) : Type 0 where
  pub values : Held columns draft left
  pub no_rows : draft.rows ≡ []
  pub no_row : draft.row ≡ []
  pub no_cells : columns.cells ≡ 0

-- the last name is that of the next column
pub record Named (columns : Columns) (draft : Draft) (left : List Token) : Type 0 where
  pub begun : Begun columns draft left
  pub count : length draft.columns + 1 + length left ≤ 1048576
  pub texts : length (top [] draft.names) + (held draft + contents left) ≤ 3145728

-- the last row has ended
pub record Ended (columns : Columns) (draft : Draft) (left : List Token) : Type 0 where
  pub values : Held columns draft left
  pub no_row : draft.row ≡ []
  pub no_cells : columns.cells ≡ 0

-- a cell of this type comes next, or none
pub record Wanting (wanted : Option DataType) (columns : Columns) (draft : Draft) (left : List Token) : Type 0 where
  pub values : Held columns draft left
  pub wants : wanted_of columns ≡ wanted

-- ---- a token is taken

-- a token and the tokens behind it
pub record IsBefore (one : Token) (before after : List Token) : Type 0 where
  pub texts : content one + contents after ≤ contents before
  pub count : 1 + length after ≤ length before
  pub day : IsDay (day_in one)

module _ (columns : Columns) (draft : Draft) (one : Token) (before after : List Token) (next : IsBefore one before after) where
  pub held_behind : Held columns draft before → Held columns draft after
  held_behind h = record { kinds = h.kinds; rows = h.rows; row = h.row; count = omega (arith, h.count, next.count); texts = omega (arith, h.texts, next.texts) }

  pub begun_behind : Begun columns draft before → Begun columns draft after
  begun_behind h = record { values = held_behind h.values; no_rows = h.no_rows; no_row = h.no_row; no_cells = h.no_cells }

  pub named_behind : Named columns draft before → Named columns draft after
  named_behind h = record { begun = begun_behind h.begun; count = omega (arith, h.count, next.count); texts = omega (arith, h.texts, next.texts) }

  pub ended_behind : Ended columns draft before → Ended columns draft after
  ended_behind h = record { values = held_behind h.values; no_row = h.no_row; no_cells = h.no_cells }

  pub wanting_behind : (wanted : Option DataType) → Wanting wanted columns draft before → Wanting wanted columns draft after
  wanting_behind wanted h = record { values = held_behind h.values; wants = h.wants }

  pub new_columns : contents before ≤ 3145728 → length before ≤ 1048576 → Begun no_columns (taken uses.NewColumns one draft) after
  new_columns texts count =
      record {
        values = record { kinds = refl; rows = All-nil _; row = tt; count = omega (arith, count, next.count); texts = omega (arith, texts, next.texts) };
        no_rows = refl;
        no_row = refl;
        no_cells = refl;
      }

  -- the name of a column
  pub name_taken : Begun columns draft before → Named columns (taken uses.Name one draft) after
  name_taken h =
      let values = h.values in
      record {
        begun = record {
          values = record { kinds = values.kinds; rows = values.rows; row = values.row; count = omega (arith, values.count, next.count); texts = omega (arith, values.texts, next.texts) };
          no_rows = h.no_rows;
          no_row = h.no_row;
          no_cells = h.no_cells;
        };
        count = omega (arith, values.count, next.count);
        texts = omega (arith, values.texts, next.texts);
      }

  small_cell : (cell : Cell) → text_size (cell_of cell one) ≤ content one
  small_cell cells.Null = omega arith
  small_cell cells.Integer = omega arith
  small_cell cells.Long = omega arith
  small_cell cells.NegativeInteger = omega arith
  small_cell cells.NegativeLong = omega arith
  small_cell cells.Text = omega arith
  small_cell cells.True = omega arith
  small_cell cells.False = omega arith
  small_cell cells.Date = omega arith

  types_joined : (kinds : List DataType) (values : List Value) (kind : DataType) (value : Value) → HaveTypes kinds values → HasType kind value → HaveTypes (kinds ++ kind ∷ []) (values ++ value ∷ [])
  types_joined [] [] kind value h t = (t, tt)
  types_joined [] (v ∷ values) kind value h t = absurd h
  types_joined (k ∷ kinds) [] kind value h t = absurd h
  types_joined (k ∷ kinds) (v ∷ values) kind value h t = (h.0, types_joined kinds values kind value h.1 t)

  one_more : (kinds : List DataType) (cells : ℕ) (kind : DataType) → slice_get kinds cells ≡ Some kind → take (min (cells + 1) (length kinds)) kinds ≡ take cells kinds ++ kind ∷ []
  one_more kinds cells kind e =
      let within = slice_get_within kinds cells kind e in
      let size : min (cells + 1) (length kinds) ≡ suc cells = omega (arith, within) in
      ap (λ (n : ℕ). take n kinds) size ∙ take-suc kinds cells kind within ∙ ap (λ (k : DataType). take cells kinds ++ k ∷ []) (get_or_from_slice_get kinds cells kind kind e)

  -- a cell of its column's type
  pub cell_taken : (cell : Cell) (kind : DataType) → Held columns draft before → wanted_of columns ≡ Some kind → HasType kind (cell_of cell one)
      → Held (behind_use (uses.Cell cell) columns) (taken (uses.Cell cell) one draft) after
  cell_taken cell kind h wants typed =
      let more = sum_by_push text_size draft.row (cell_of cell one) in
      let small = small_cell cell in
      record {
        kinds = h.kinds;
        rows = h.rows;
        row = subst (λ (kinds : List DataType). HaveTypes kinds (draft.row ++ cell_of cell one ∷ [])) (sym (one_more columns.kinds columns.cells kind wants))
            (types_joined (take columns.cells columns.kinds) draft.row kind (cell_of cell one) h.row typed);
        count = omega (arith, h.count, next.count);
        texts = omega (arith, h.texts, next.texts, more, small);
      }

-- ---- something is done

none_some : {A : Type 0} {x : A} → ◌≡◌ {A = Option A} None (Some x) → ⊥
none_some e = cc

module _ (columns : Columns) (draft : Draft) (left : List Token) where
  pub column_done : (kind : DataType) → Named columns draft left → Begun (after_doing (deed.Column kind) columns) (built (deed.Column kind) draft) left
  column_done kind h =
      let field : Field = record { name = top [] draft.names; kind = kind; nullable = true } in
      let sizes = length-append draft.columns (field ∷ []) in
      let names = sum_by_push (λ (field : Field). length field.name) draft.columns field in
      let begun = h.begun in
      record {
        values = record {
          kinds = map-append (λ (field : Field). field.kind) draft.columns (field ∷ []) ∙ ap (λ (kinds : List DataType). kinds ++ kind ∷ []) begun.values.kinds;
          rows = subst (λ (rows : List Row). All (λ (row : Row). HaveTypes (columns.kinds ++ kind ∷ []) row.0) rows) (sym begun.no_rows) (All-nil _);
          row = none_typed (columns.kinds ++ kind ∷ []) columns.cells draft.row begun.no_cells begun.no_row;
          count = omega (arith, h.count, sizes);
          texts = omega (arith, h.texts, names);
        };
        no_rows = begun.no_rows;
        no_row = begun.no_row;
        no_cells = begun.no_cells;
      }
    where
      none_typed : (kinds : List DataType) (cells : ℕ) (row : List Value) → cells ≡ 0 → row ≡ [] → HaveTypes (take cells kinds) row
      none_typed kinds cells row e f = rw (e, f) tt

  all_cells : wanted_of columns ≡ None → take columns.cells columns.kinds ≡ columns.kinds
  all_cells e = take_all columns.cells columns.kinds (past (slice_get_cases columns.kinds columns.cells).1)
    where
      past : ((x : DataType) × (columns.cells < length columns.kinds) × (slice_get columns.kinds columns.cells ≡ Some x) × (get_or columns.kinds columns.cells x ≡ x)) ⊎ ((length columns.kinds ≤ columns.cells) × (slice_get columns.kinds columns.cells ≡ None)) → length columns.kinds ≤ columns.cells
      past (inl found) = absurd (none_some (sym e ∙ found.2))
      past (inr none) = none.0

  pub row_done : Wanting None columns draft left → Ended (after_doing deed.Row columns) (built deed.Row draft) left
  row_done h =
      let values = h.values in
      let whole = subst (λ (kinds : List DataType). HaveTypes kinds draft.row) (all_cells h.wants) values.row in
      let texts = sum_by_push (λ (row : Row). sum_by text_size row.0) draft.rows (record { 0 = draft.row }) in
      record {
        values = record {
          kinds = values.kinds;
          rows = All-push (λ (row : Row). HaveTypes columns.kinds row.0) draft.rows (record { 0 = draft.row }) values.rows whole;
          row = tt;
          count = values.count;
          texts = omega (arith, values.texts, texts);
        };
        no_row = refl;
        no_cells = refl;
      }

  pub begun_ended : Begun columns draft left → Ended columns draft left
  begun_ended h = record { values = h.values; no_row = h.no_row; no_cells = h.no_cells }

  -- the columns and rows can be written
  pub values_held : Held columns draft left → HasValues draft
  values_held h =
      record {
        fits = subst (λ (kinds : List DataType). All (λ (row : Row). HaveTypes kinds row.0) draft.rows) (sym h.kinds) h.rows;
        columns = omega (arith, h.count);
        texts = omega (arith, h.texts);
      }
