-- What keeps tables such as may stand together.
use Rattle.std.proofs.Common.{◌≡◌, ◌≢◌, ℕ, ◌-◌, ◌<◌, List, [], ◌∷◌, ◌++◌, map, length, take, get_or, Bool, true, false, cond, eqb, ◌&&◌, ◌||◌, set, refl, sym, ap, subst, ◌∙◌, arith}
use Rattle.std.specs.Prelude.{All, Option, Some, None, find, bytes_eq, codes}
use Rattle.std.specs.Prelude.{is_some, is_ok, Result, Ok, Err, OnOk, OnErr}
use Rattle.std.specs.List.{IsDistinct, slice_split, join_with_byte, list_any}
use Rattle.std.proofs.Math.Seq.{map-set_same}
use Rattle.std.proofs.lemmas.Cmp.{nat_list_eq_equiv}
use Rattle.std.proofs.lemmas.List.{map-append}
use Rattle.std.proofs.lemmas.List.Elements.{All-nil, All-same, All-push, All-set, All-map}
use Rattle.std.proofs.lemmas.Map.Keys.{IsDistinct-push}
use Rattle.std.proofs.lemmas.Option.{get_or_from_slice_get}
use Rattle.std.proofs.lemmas.Slice.Eq.{bytes_eq-Decides}
use Rattle.std.proofs.lemmas.List.Splits.{join_with_byte-slice_split}
use Rattle.cn_types.specs.declared.value.Value.{Value}
use Rattle.cn_types.specs.declared.row.Row.{Row}
use Rattle.cn_types.specs.declared.schema.Field.{Field}
use Rattle.cn_types.specs.declared.schema.Schema.{Schema}
use Rattle.cn_types.specs.Fit.{Fits, HaveTypes}
use Rattle.table_lines.specs.declared.lines.LinedTable.{LinedTable}
use Rattle.table_lines.specs.Lines.{AreCells, IsRowLine, CanStand, table_of_words, table_of_line, as_named, named_of, lined_name, with_row, last_table, with_last_row}
use Rattle.plan_tokens.specs.Bytes.{is_word}
use Rattle.table_store.specs.declared.tables.NamedTable.{NamedTable}
use Rattle.table_store.specs.Names.{folded, folded_name, has_name, table_named}
use Rattle.table_store.specs.Standing.{AreTables}

cells_fit : (fields : List Field) (pieces : List (List ℕ)) (values : List Value) → AreCells fields pieces values → HaveTypes (map (λ field. field.kind) fields) values
cells_fit [] [] [] cells = tt
cells_fit [] [] (value ∷ values) cells = absurd cells
cells_fit [] (piece ∷ pieces) values cells = absurd cells
cells_fit (field ∷ fields) [] values cells = absurd cells
cells_fit (field ∷ fields) (piece ∷ pieces) [] cells = absurd cells
cells_fit (field ∷ fields) (piece ∷ pieces) (value ∷ values) cells = (cells.0.1.type, cells_fit fields pieces values cells.1)

-- the row of a line fits the columns
pub row_fits : (schema : Schema) (line : List ℕ) (row : Row) → IsRowLine schema line row → Fits schema row
row_fits schema line row is = cells_fit schema.0 _ row.0 is.cells

table_begins : (first name : List ℕ) (columns : List (List ℕ)) → first ≡ codes "table" → take 4 (join_with_byte 32 (first ∷ name ∷ columns)) ≡ codes "tabl"
table_begins first name columns e = rw e refl

is_table : (first name : List ℕ) (columns : List (List ℕ)) (test : Bool) (made : Option LinedTable) (table : LinedTable)
    → bytes_eq first (codes "table") ≡ test → cond (test && is_word name) made None ≡ Some table → first ≡ codes "table"
is_table first name columns true made table t e = (bytes_eq-Decides first (codes "table")).0 t
is_table first name columns false made table t e = cc

begins_table : (words : List (List ℕ)) (table : LinedTable) → table_of_words words ≡ Some table → take 4 (join_with_byte 32 words) ≡ codes "tabl"
begins_table [] table e = cc
begins_table (first ∷ []) table e = cc
begins_table (first ∷ name ∷ columns) table e = table_begins first name columns (is_table first name columns _ _ table refl e)

one_byte : {A : Type 0} → codes "tabl" ≡ codes "row " → A
one_byte e = absurd (let head : get_or (codes "tabl") 0 0 ≡ get_or (codes "row ") 0 0 = ap (λ (l : List ℕ). get_or l 0 0) e in omega (arith, head))

two_begins : (front : List ℕ) → front ≡ codes "tabl" → front ≡ codes "row " → ⊥
two_begins front e f = absurd (one_byte (sym e ∙ f))

-- a table line is no row line
pub not_a_row : (line : List ℕ) (table : LinedTable) → table_of_line line ≡ Some table → take 4 line ≢ codes "row "
not_a_row line table e row =
    let begins = begins_table (slice_split (λ b. eqb b 32) line) table e in
    let same = ap (take 4) (join_with_byte-slice_split 32 line) in
    two_begins (take 4 line) (sym same ∙ begins) row

-- ---- names

any_by_test : (test : Bool) (table : LinedTable) (rest : Option NamedTable) (later : Bool) → is_some rest ≡ later → is_some (cond test (Some (as_named table)) rest) ≡ (test || later)
any_by_test true table rest later e = refl
any_by_test false table rest later e = e

pub any_named : (name : List ℕ) (tables : List LinedTable) → list_any (λ table. has_name name (as_named table)) tables ≡ is_some (table_named name (named_of tables))
any_named name [] = refl
any_named name (table ∷ tables) = sym (any_by_test (has_name name (as_named table)) table (find (has_name name) (named_of tables)) _ (sym (any_named name tables)))

none_cons : (here : Bool) (table : NamedTable) (rest : Option NamedTable) (later : Bool) → cond here (Some table) rest ≡ None → (rest ≡ None → later ≡ false) → (here || later) ≡ false
none_cons true table rest later none tail = cc
none_cons false table rest later none tail = tail none

absent_name : (name : List ℕ) (tables : List LinedTable) → table_named name (named_of tables) ≡ None → list_any (bytes_eq (folded name)) (map lined_name tables) ≡ false
absent_name name [] none = refl
absent_name name (table ∷ tables) none =
    none_cons (has_name name (as_named table)) (as_named table) (find (has_name name) (named_of tables)) _ none (absent_name name tables)

-- ---- tables that may stand together

pub stand_nil : (tables : List LinedTable) → tables ≡ [] → CanStand tables
unfolding IsDistinct
stand_nil [] e = (tt, All-nil _)
stand_nil (table ∷ tables) e = cc

pub stand_push : (tables : List LinedTable) (table : LinedTable) → CanStand tables → table_named table.name (named_of tables) ≡ None → table.rows ≡ [] → CanStand (tables ++ table ∷ [])
stand_push tables table stand new empty = (
  subst (IsDistinct bytes_eq) (sym (map-append lined_name tables (table ∷ []))) (IsDistinct-push nat_list_eq_equiv (map lined_name tables) (folded table.name) stand.0 (absent_name table.name tables new)),
  All-push (λ t. All (Fits t.schema) t.rows) tables table stand.1 (All-same (Fits table.schema) table.rows [] empty (All-nil _)),
)

pub stand_set : (tables : List LinedTable) (at : ℕ) (now : LinedTable) (rows : List Row) → CanStand tables → now ≡ get_or tables at now → All (Fits now.schema) rows
    → CanStand (set tables at (record { name = now.name; schema = now.schema; rows = rows }))
stand_set tables at now rows stand is fit =
    let changed : LinedTable = record { name = now.name; schema = now.schema; rows = rows } in
    let names = map-set_same lined_name tables at changed now (ap lined_name is) in
    (subst (IsDistinct bytes_eq) (sym names) stand.0, All-set (λ t. All (Fits t.schema) t.rows) tables at changed fit stand.1)

names_same : (tables : List LinedTable) → map folded_name (named_of tables) ≡ map lined_name tables
names_same [] = refl
names_same (table ∷ tables) = ap (λ (names : List (List ℕ)). lined_name table ∷ names) (names_same tables)

pub stand_named : (tables : List LinedTable) (named : List NamedTable) → named ≡ named_of tables → CanStand tables → AreTables (record { version = 0; named = named })
stand_named tables named is stand =
    record {
      names_differ = subst (IsDistinct bytes_eq) (sym (ap (map folded_name) is ∙ names_same tables)) stand.0;
      rows_fit = subst (All (λ t. All (Fits t.schema) t.rows)) (sym is) (All-map (λ t. All (Fits t.schema) t.rows) as_named tables stand.1);
    }

-- ---- the last table

some_last : (tables : List LinedTable) (last : LinedTable) → last_table tables ≡ Some last → length tables - 1 < length tables
some_last [] last e = cc
some_last (table ∷ tables) last e = omega arith

-- the element at the last place is the last table
pub last_is_now : (tables : List LinedTable) (at : ℕ) (now last : LinedTable) → at ≡ length tables - 1 → last_table tables ≡ Some last → now ≡ get_or tables at now → now ≡ last
last_is_now tables at now last place is here =
    here ∙ ap (λ (k : ℕ). get_or tables k now) place ∙ get_or_from_slice_get tables (length tables - 1) last now is

pushed : {E : Type 0} (P : Row → Type 0) (result : Result (Unit {0}) E) (old new : List Row) (row : Row) → OnOk result (new ≡ old ++ row ∷ []) → OnErr result (new ≡ old) → All P old → P row → All P new
pushed P (Ok done) old new row ok err fit one = All-same P new (old ++ row ∷ []) ok (All-push P old row fit one)
pushed P (Err e) old new row ok err fit one = All-same P new old err fit

-- whether a row was added to the last table or not, the tables may stand together
pub row_pushed : {E : Type 0} (tables : List LinedTable) (at : ℕ) (now last : LinedTable) (rows : List Row) (row : Row) (result : Result (Unit {0}) E)
    → CanStand tables → at ≡ length tables - 1 → last_table tables ≡ Some last → now ≡ get_or tables at now → Fits last.schema row
    → OnOk result (rows ≡ now.rows ++ row ∷ []) → OnErr result (rows ≡ now.rows) → CanStand (set tables at (record { name = now.name; schema = now.schema; rows = rows }))
row_pushed tables at now last rows row result stand place is here fits ok err =
    let within : at < length tables = (let some = some_last tables last is in omega (arith, place, some)) in
    let same : now ≡ last = last_is_now tables at now last place is here in
    let there = stand.1 at now within in
    let fit : All (Fits now.schema) now.rows = subst (λ (t : LinedTable). All (Fits t.schema) t.rows) (sym here) there in
    let one : Fits now.schema row = subst (λ (t : LinedTable). Fits t.schema row) (sym same) fits in
    stand_set tables at now rows stand here (pushed (Fits now.schema) result now.rows rows row ok err fit one)

last_known : (tables : List LinedTable) (row : Row) (last : LinedTable) → last_table tables ≡ Some last → set tables (length tables - 1) (with_row row last) ≡ with_last_row row tables
last_known tables row last is = rw is refl

pub row_added : (tables : List LinedTable) (at : ℕ) (now last : LinedTable) (rows : List Row) (row : Row) → at ≡ length tables - 1 → last_table tables ≡ Some last → now ≡ get_or tables at now
    → rows ≡ now.rows ++ row ∷ [] → set tables at (record { name = now.name; schema = now.schema; rows = rows }) ≡ with_last_row row tables
row_added tables at now last rows row place is here added =
    let same : now ≡ last = last_is_now tables at now last place is here in
    ap (λ (k : ℕ). set tables k (record { name = now.name; schema = now.schema; rows = rows })) place
    ∙ ap (λ (rs : List Row). set tables (length tables - 1) (record { name = now.name; schema = now.schema; rows = rs })) added
    ∙ ap (λ (t : LinedTable). set tables (length tables - 1) (with_row row t)) same
    ∙ last_known tables row last is

pub pushed_table : {E : Type 0} (result : Result (Unit {0}) E) (tables new : List LinedTable) (table : LinedTable) → new ≡ cond (is_ok result) (tables ++ table ∷ []) tables
    → CanStand tables → table_named table.name (named_of tables) ≡ None → table.rows ≡ [] → CanStand new
pushed_table (Ok done) tables new table is stand none empty = subst CanStand (sym is) (stand_push tables table stand none empty)
pushed_table (Err e) tables new table is stand none empty = subst CanStand (sym is) stand

pub not_some : {A : Type 0} (o : Option A) → is_some o ≡ false → o ≡ None
not_some None e = refl
not_some (Some x) e = cc
