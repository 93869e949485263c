-- An applied change leaves tables that may stand together.
use Rattle.std.proofs.Common.{◌≡◌, ℕ, List, [], ◌∷◌, ◌++◌, Bool, true, false, cond, ◌||◌, Option, Some, None, map, get_or, refl, sym, ap, subst, ◌∙◌}
use Rattle.std.specs.Prelude.{All, if◌then◌else◌}
use Rattle.std.specs.List.{IsDistinct, find, list_any, position}
use Rattle.std.specs.Str.{bytes_eq}
use Rattle.std.proofs.Math.Seq.{map-set_same}
use Rattle.std.proofs.lemmas.Cmp.{nat_list_eq_equiv}
use Rattle.std.proofs.lemmas.List.{map-append}
use Rattle.std.proofs.lemmas.List.Elements.{All-append, All-get_or, All-push, All-set}
use Rattle.std.proofs.lemmas.List.Quantifiers.{position-Some}
use Rattle.std.proofs.lemmas.Map.Keys.{IsDistinct-push}
use Rattle.std.proofs.lemmas.Option.{get_or_from_slice_get, slice_get-get_or}
use Rattle.cn_types.specs.declared.value.DataType.{DataType}
use Rattle.cn_types.specs.declared.schema.Field.{Field}
use Rattle.cn_types.specs.Fit.{Fits, FitsTypes}
use Rattle.table_store.specs.declared.change.How.{How}
use Rattle.table_store.specs.declared.change.TableChange.{TableChange}
use Rattle.table_store.specs.declared.rule.Ruling.{Ruling}
use Rattle.table_store.specs.declared.tables.NamedTable.{NamedTable}
use Rattle.table_store.specs.declared.tables.Tables.{Tables}
use Rattle.table_store.specs.Applied.{applied, changed, created, nullable_field}
use Rattle.table_store.specs.Names.{folded, folded_name, has_name, table_named}
use Rattle.table_store.specs.Rule.{ruling, ruling_on, same_types, types_of}
use Rattle.table_store.specs.Standing.{AreTables}
use Rattle.table_store.proofs.Changing.{applied-absent, applied-placed, changed-name}
use Rattle.table_store.proofs.Places.{find_absent, find_placed}
use Rattle.table_store.proofs.RuleFacts.{same_types-decides}

-- a nullable column has the same type
types-nullable : (fields : List Field) → map (λ field. field.kind) (map nullable_field fields) ≡ map (λ field. field.kind) fields
types-nullable [] = refl
types-nullable (field ∷ fields) = λ i. field.kind ∷ types-nullable fields i

-- the rows of the table that a change makes fit it
created-fits : (change : TableChange) → All (Fits change.schema) change.rows → All (Fits (created change).schema) (created change).rows
created-fits change fit = subst (λ (types : List DataType). All (FitsTypes types) change.rows) (sym (types-nullable change.schema.0)) fit

matching : (same : Bool) → (if same then Ruling.Applies else Ruling.Mismatched) ≡ Ruling.Applies → same ≡ true
matching true e = refl
matching false e = cc

-- the rows of a change fit the table whose columns have its types
rows_fit-table : (change : TableChange) (table : NamedTable) → (if same_types table.schema change.schema then Ruling.Applies else Ruling.Mismatched) ≡ Ruling.Applies →
    All (Fits change.schema) change.rows → All (Fits table.schema) change.rows
rows_fit-table change table applies fit =
    let same : types_of table.schema ≡ types_of change.schema
    = (same_types-decides table.schema change.schema).0 (matching (same_types table.schema change.schema) applies) in
    subst (λ (types : List DataType). All (FitsTypes types) change.rows) (sym same) fit

-- the rows of a changed table fit it
changed-fits : (how : How) (change : TableChange) (table : NamedTable) → ruling_on how (Some table) change.schema ≡ Ruling.Applies →
    All (Fits table.schema) table.rows → All (Fits change.schema) change.rows → All (Fits (changed how change table).schema) (changed how change table).rows
changed-fits How.CreateOnly change table applies old new = old
changed-fits How.CreateOrSkip change table applies old new = old
changed-fits How.Append change table applies old new = All-append (Fits table.schema) table.rows change.rows old (rows_fit-table change table applies new)
changed-fits How.AppendOrCreate change table applies old new = All-append (Fits table.schema) table.rows change.rows old (rows_fit-table change table applies new)
changed-fits How.Replace change table applies old new = created-fits change new
changed-fits How.ReplaceRows change table applies old new = rows_fit-table change table applies new

none-cons : (here : Bool) (table : NamedTable) (rest : Option NamedTable) (later : Bool) → cond here (Some table) rest ≡ None → (rest ≡ None → later ≡ false) → (here || later) ≡ false
none-cons true table rest later none tail = cc
none-cons false table rest later none tail = tail none

-- a name that no table has is none of the names
absent-name : (name : List ℕ) (named : List NamedTable) → find (has_name name) named ≡ None → list_any (bytes_eq (folded name)) (map folded_name named) ≡ false
absent-name name [] none = refl
absent-name name (table ∷ named) none =
    none-cons (has_name name table) table (find (has_name name) named) (list_any (bytes_eq (folded name)) (map folded_name named)) none (absent-name name named)

module _ (change : TableChange) (tables : Tables) (old : AreTables tables) (new : All (Fits change.schema) change.rows) (applies : ruling change tables ≡ Ruling.Applies) where
  at_end : position (has_name change.name) tables.named ≡ None → AreTables (applied change tables)
  at_end absent =
      let none = absent-name change.name tables.named (find_absent (has_name change.name) tables.named absent) in
      let names : IsDistinct bytes_eq (map folded_name (tables.named ++ created change ∷ []))
      = subst (IsDistinct bytes_eq) (sym (map-append folded_name tables.named (created change ∷ [])))
      (IsDistinct-push nat_list_eq_equiv (map folded_name tables.named) (folded change.name) old.names_differ none) in
      subst AreTables (sym (applied-absent change tables absent))
      (record { names_differ = names; rows_fit = All-push (λ table. All (Fits table.schema) table.rows) tables.named (created change) old.rows_fit (created-fits change new) })

  in_place : (i : ℕ) → position (has_name change.name) tables.named ≡ Some i → AreTables (applied change tables)
  in_place i placed =
      let table = get_or tables.named i (created change) in
      let at = position-Some (has_name change.name) tables.named i (created change) placed in
      let read : table ≡ get_or tables.named i table
      = sym (get_or_from_slice_get tables.named i table table (slice_get-get_or tables.named i (created change) at.0)) in
      let found : table_named change.name tables.named ≡ Some table = find_placed (has_name change.name) tables.named i table placed read in
      let applies_here : ruling_on change.how (Some table) change.schema ≡ Ruling.Applies
      = ap (λ (o : Option NamedTable). ruling_on change.how o change.schema) (sym found) ∙ applies in
      let fit = All-get_or (λ (t : NamedTable). All (Fits t.schema) t.rows) tables.named i (created change) at.0 old.rows_fit in
      let names = map-set_same folded_name tables.named i (changed change.how change table) (created change) (changed-name change.how change table at.1) in
      subst AreTables (sym (applied-placed change tables i table old.names_differ placed read))
      (record {
        names_differ = subst (IsDistinct bytes_eq) (sym names) old.names_differ;
        rows_fit = All-set (λ t. All (Fits t.schema) t.rows) tables.named i (changed change.how change table) (changed-fits change.how change table applies_here fit new) old.rows_fit;
      })

  place_cases : (o : Option ℕ) → position (has_name change.name) tables.named ≡ o → AreTables (applied change tables)
  place_cases None e = at_end e
  place_cases (Some i) e = in_place i e

  -- the tables after a change that the rule applies may stand together
  pub AreTables-applied : AreTables (applied change tables)
  AreTables-applied = place_cases (position (has_name change.name) tables.named) refl
