-- Rows that come with a plan are sound, and have nulls only where their columns may.
use Rattle.std.proofs.Common.{◌≡◌, ℕ, Bool, true, false, List, [], ◌∷◌, length, map, Option, None, Some, Ok, Err, refl, sym, ap, subst, ◌∙◌, arith, suc}
use Rattle.std.proofs.lemmas.Bool.{and_parts, eqb-true}
use Rattle.std.proofs.lemmas.List.Elements.{All-cons, All-head, All-nil, All-tail, recursion_from_All, All-from_recursion}
use Rattle.std.proofs.lemmas.Result.{IfOk-at_ok}
use Rattle.std.specs.List.{AllByRecursion, list_all, list_any}
use Rattle.std.specs.Prelude.{◌&&◌, ◌||◌, All, IfOk, IsTrue, Result, nat_eq, not, zip}
use Rattle.cn_types.specs.declared.row.Row.{Row}
use Rattle.cn_types.specs.declared.schema.Field.{Field}
use Rattle.cn_types.specs.declared.schema.Schema.{Schema}
use Rattle.cn_types.specs.declared.value.DataType.{DataType}
use Rattle.cn_types.specs.declared.value.Value.{Value}
use Rattle.cn_types.specs.Fit.{Fits, FitsTypes, HaveTypes}
use Rattle.cn_types.specs.Json.{schema_in}
use Rattle.arrow_read.specs.declared.want.Batches.{Batches}
use Rattle.arrow_read.specs.Reading.{stream_in}
use Rattle.arrow_read.proofs.RowsFit.{rows_fit}
use Rattle.plan_model.specs.declared.node.Node.TheVariants as V
use Rattle.plan_model.specs.FunctionTypes.{same_kind}
use Rattle.plan_model.specs.Truth.{is_present}
use Rattle.plan_model.specs.WellFormed.{IsSound}
use Rattle.plan_model.proofs.NodeFacts.{made-Rows}
use Rattle.plan_model.proofs.NullFacts.{same_kind-is}
use Rattle.plan_model.proofs.TypesFacts.{types-Rows}
use Rattle.resolve_names.specs.Checks.{Checked, ◌>>=◌}
use Rattle.resolve_types.specs.Calls.{unless}
use Rattle.resolve_relations.specs.declared.found.FoundOf.{FoundOf}
use Rattle.resolve_sound.specs.Sound.{FitsNulls, HaveNullsWithin, IsNullSafe, IsSoundFound, schema_flags}
use Rattle.resolve_sound.proofs.Chains.{then_holds, unless_false}
use Rattle.resolve_sound.proofs.NodeRows.{Each, each_row}
use Rattle.resolve_sound.proofs.NullFacts.{flags_numbered}
use Rattle.resolve_sound.proofs.NullRelations.{TellsNulls, safe_answer}
use Rattle.resolve_sound.proofs.Places.{kinds_numbered}
use Rattle.plan_resolve.specs.declared.local.Local.{Local}
use Rattle.plan_resolve.specs.Local.{bad_data, has_misplaced_null, has_type_of, have_same_types, is_misplaced, local_column, local_found, local_of, local_rule, or_bad, renamed_rows, under}

-- ---- tests

or_false : (a b : Bool) → (a || b) ≡ false → (a ≡ false) × (b ≡ false)
or_false false false e = (refl, refl)
or_false false true e = absurd (let h : ⊥ = cc in h)
or_false true b e = absurd (let h : ⊥ = cc in h)

may_or_is : (nullable present : Bool) → (not nullable && not present) ≡ false → (nullable || present) ≡ true
may_or_is true present e = refl
may_or_is false true e = refl
may_or_is false false e = absurd (let h : ⊥ = cc in h)

-- what is read, and then goes on
after_bad : {A F B : Type 0} (P : B → Type 0) (r : Result A F) (next : A → Checked B) → ((x : A) → r ≡ Ok x → IfOk (next x) P) → IfOk (or_bad r >>= next) P
after_bad P (Ok x) next h = h x refl
after_bad P (Err fault) next h = tt

-- ---- rows

-- the rows fit the schema, and have nulls only where it says so
pub record IsPlaced (local : Local) : Type 0 where
  pub fit : All (Fits local.schema) local.rows
  pub nulls : All (FitsNulls (schema_flags local.schema)) local.rows

values_placed : (fields : List Field) (values : List Value) → HaveTypes (map (λ field. field.kind) fields) values → list_any is_misplaced (zip fields values) ≡ false →
    HaveNullsWithin (map (λ field. field.nullable) fields) values
values_placed [] [] types e = tt
values_placed [] (value ∷ values) types e = absurd types
values_placed (field ∷ fields) [] types e = absurd types
values_placed (field ∷ fields) (value ∷ values) types e =
    let parts = or_false (is_misplaced (field, value)) (list_any is_misplaced (zip fields values)) e in
    (may_or_is field.nullable (is_present value) parts.0, values_placed fields values types.1 parts.1)

rows_placed : (schema : Schema) (rows : List Row) → AllByRecursion (Fits schema) rows → list_any (has_misplaced_null schema) rows ≡ false →
    AllByRecursion (FitsNulls (schema_flags schema)) rows
unfolding has_misplaced_null
rows_placed schema [] fit e = tt
rows_placed schema (row ∷ rows) fit e =
    let parts = or_false (has_misplaced_null schema row) (list_any (has_misplaced_null schema) rows) e in
    (values_placed schema.0 row.0 fit.0 parts.0, rows_placed schema rows fit.1 parts.1)

under_placed : (schema : Schema) (rows : List Row) → All (Fits schema) rows → IfOk (under schema rows) IsPlaced
under_placed schema rows fit = then_holds IsPlaced (unless (list_any (has_misplaced_null schema) rows) bad_data) _ (λ u is. record {
  fit = fit;
  nulls = IfOk-at_ok (λ _. All (FitsNulls (schema_flags schema)) rows) is
      (unless_false (All (FitsNulls (schema_flags schema)) rows) (list_any (has_misplaced_null schema) rows) bad_data
      (λ e. All-from_recursion (FitsNulls (schema_flags schema)) rows (rows_placed schema rows (recursion_from_All (Fits schema) rows fit) e)));
})

-- ---- two schemas of the same types

kinds_same : (fields others : List Field) → length fields ≡ length others → list_all has_type_of (zip fields others) ≡ true →
    map (λ field. field.kind) fields ≡ map (λ field. field.kind) others
kinds_same [] [] long e = refl
kinds_same [] (other ∷ others) long e = absurd (omega (arith, long))
kinds_same (field ∷ fields) [] long e = absurd (omega (arith, long))
kinds_same (field ∷ fields) (other ∷ others) long e =
    let parts = and_parts (same_kind field.kind other.kind) (list_all has_type_of (zip fields others)) e in
    let rest : length fields ≡ length others = omega (arith, long) in
    ap (λ (k : DataType). k ∷ map (λ field. field.kind) fields) (same_kind-is field.kind other.kind parts.0)
    ∙ ap (λ (ks : List DataType). other.kind ∷ ks) (kinds_same fields others rest parts.1)

types_same : (schema found : Schema) → have_same_types schema found ≡ true → map (λ field. field.kind) schema.0 ≡ map (λ field. field.kind) found.0
unfolding have_same_types
types_same schema found e =
    let parts = and_parts (nat_eq (length schema.0) (length found.0)) (list_all has_type_of (zip schema.0 found.0)) e in
    kinds_same schema.0 found.0 (eqb-true (length schema.0) (length found.0) parts.0) parts.1

not_false : (b : Bool) → not b ≡ false → b ≡ true
not_false true e = refl
not_false false e = absurd (let h : ⊥ = cc in h)

renamed_placed : (schema found : Schema) (rows : List Row) → All (Fits found) rows → IfOk (renamed_rows schema found rows) IsPlaced
unfolding renamed_rows
renamed_placed schema found rows fit = then_holds IsPlaced (unless (not (have_same_types schema found)) bad_data) _ (λ u is.
    under_placed schema rows
    (IfOk-at_ok (λ _. All (Fits schema) rows) is
    (unless_false (All (Fits schema) rows) (not (have_same_types schema found)) bad_data
    (λ e. subst (λ (ks : List DataType). All (FitsTypes ks) rows) (sym (types_same schema found (not_false (have_same_types schema found) e))) fit))))

local_placed : (payload schema : Option (List ℕ)) → IfOk (local_of payload schema) IsPlaced
unfolding local_of
local_placed None None = tt
local_placed (Some bytes) None = after_bad IsPlaced (stream_in bytes Batches.Any) _ (λ found is.
    under_placed found.0 found.1 (rows_fit bytes Batches.Any found.0 found.1 is))
local_placed None (Some text) = after_bad IsPlaced (schema_in text) _ (λ schema is. under_placed schema [] (All-nil (Fits schema)))
local_placed (Some bytes) (Some text) = after_bad IsPlaced (schema_in text) _ (λ schema is.
    after_bad IsPlaced (stream_in bytes Batches.Any) _ (λ found is_too. renamed_placed schema found.0 found.1 (rows_fit bytes Batches.Any found.0 found.1 is_too)))

-- ---- the relation

local_sound : (fresh : ℕ → ℕ) (local : Local) → IsPlaced local → IsSoundFound (local_found fresh local)
local_sound fresh local placed = record {
  node = made-Rows IsSound local.schema local.rows placed.fit;
  columns = types-Rows local.schema local.rows ∙ sym (kinds_numbered (local_column fresh) (λ field. field.kind) (λ n field. refl) 0 local.schema.0);
}

local_tells : (fresh : ℕ → ℕ) (local : Local) → IsPlaced local → TellsNulls (local_found fresh local)
local_tells fresh local placed =
    subst (λ (fs : List Bool). Each (V.Rows local.schema local.rows) (FitsNulls fs))
    (sym (flags_numbered (local_column fresh) (λ field. field.nullable) (λ n field. refl) 0 local.schema.0))
    (each_row (FitsNulls (schema_flags local.schema)) local.schema local.rows (recursion_from_All (FitsNulls (schema_flags local.schema)) local.rows placed.nulls))

locals_hold : (P : FoundOf ℕ → Type 0) → ((fresh : ℕ → ℕ) (local : Local) → IsPlaced local → P (local_found fresh local)) →
    (fresh : ℕ → ℕ) (payload schema : Option (List ℕ)) → IfOk (local_rule fresh payload schema) P
unfolding local_rule
locals_hold P h fresh payload schema = then_holds P (local_of payload schema) _ (λ local is. h fresh local (IfOk-at_ok IsPlaced is (local_placed payload schema)))

pub locals_are_sound : (fresh : ℕ → ℕ) (payload schema : Option (List ℕ)) → IfOk (local_rule fresh payload schema) IsSoundFound
locals_are_sound = locals_hold IsSoundFound local_sound

pub locals_are_safe : (fresh : ℕ → ℕ) (payload schema : Option (List ℕ)) → IfOk (local_rule fresh payload schema) IsNullSafe
locals_are_safe fresh payload schema = safe_answer (local_rule fresh payload schema) (locals_are_sound fresh payload schema) (locals_hold TellsNulls local_tells fresh payload schema)
