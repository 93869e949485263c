use Rattle.std.proofs.Common.{◌≡◌, false, List, [], ◌∷◌, length, map, refl, ap, ◌∙◌, sym, suc}
use Rattle.std.specs.Prelude.{IsTrue}
use Rattle.cn_types.specs.Fit.{HaveTypes, Fits}
use Rattle.cn_types.specs.declared.value.Value.{Value}
use Rattle.cn_types.specs.declared.value.DataType.{DataType}
use Rattle.cn_types.specs.declared.row.Row.{Row}
use Rattle.cn_types.specs.declared.schema.Field.{Field}
use Rattle.cn_types.specs.declared.schema.Schema.{Schema}
use Rattle.arrow_ipc.proofs.fit.fits.Goals as goal

HaveTypes-length : (kinds : List DataType) (values : List Value) → HaveTypes kinds values → length kinds ≡ length values
HaveTypes-length [] [] h = refl
HaveTypes-length (kind ∷ kinds) (value ∷ values) h = ap suc (HaveTypes-length kinds values h.1)
HaveTypes-length [] (value ∷ values) h = absurd h
HaveTypes-length (kind ∷ kinds) [] h = absurd h

kinds-length : (fields : List Field) → length (map (λ field. field.kind) fields) ≡ length fields
kinds-length [] = refl
kinds-length (field ∷ fields) = ap suc (kinds-length fields)

-- a row of another length doesn't fit
other_length : (schema : Schema) (row : Row) (fields : List Field) (values : List Value) → fields ≡ schema.0 → values ≡ row.0 → (length fields ≡ length values → ⊥) → Fits schema row → IsTrue false
other_length schema row fields values f v other h =
    let kinds : List DataType = map (λ (field : Field). field.kind) schema.0 in
    absurd (other (ap length f ∙ sym (kinds-length schema.0) ∙ HaveTypes-length kinds row.0 h ∙ sym (ap length v)))

no_truth : (A : Type 0) → IsTrue false → A
no_truth A h = absurd (cc)

pub returns-then-fields-values : goal.returns-then-fields-values
returns-then-fields-values c = (
  no_truth (Fits c.args.schema.now c.args.row.now),
  other_length c.args.schema.now c.args.row.now c.as_slice-fields.result.now c.as_slice-values.result.now c.as_slice-fields.ensures c.as_slice-values.ensures c.if-fields-values.true,
)
