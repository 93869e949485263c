-- The fields of a schema, read one after another.
use Rattle.std.proofs.Common.{◌≡◌, ℕ, zero, suc, ◌+◌, ◌-◌, ◌<◌, Option, None, Some, List, [], ◌∷◌, ◌++◌, length, arith, refl, ap, sym}
use Rattle.std.specs.Prelude.{sum_by}
use Rattle.std.proofs.lemmas.List.{append_assoc}
use Rattle.std.proofs.lemmas.List.Sums.{sum_by_push}
use Rattle.flat_tables.specs.Views.{VectorView}
use Rattle.arrow_read.specs.Tables.{◌>>=◌, FieldView, field_in, fields_from}

-- those that were read, and then the others
abbrev pub behind : {A : Type 0} → List A → Option (List A) → Option (List A)
behind done (Some more) = Some (done ++ more)
behind done None = None

pub fields_step : (v : VectorView) (done : List FieldView) (place left : ℕ) (x : FieldView) → 0 < left → field_in v place ≡ Some x → behind done (fields_from v place left) ≡ behind (done ++ x ∷ []) (fields_from v (place + 1) (left - 1))
fields_step v done place zero x l e = absurd (omega arith)
fields_step v done place (suc left) x l e = let same : suc left - 1 ≡ left = omega arith in rw (e, same) (next (fields_from v (place + 1) left))
  where
    next : (o : Option (List FieldView)) → behind done (o >>= λ more. Some (x ∷ more)) ≡ behind (done ++ x ∷ []) o
    next (Some more) = ap (λ z. Some z) (sym (append_assoc done (x ∷ []) more))
    next None = refl

-- the bytes of one more name
pub names_more : (done : List FieldView) (field : FieldView) (size now before room : ℕ) → size ≡ length field.name → now + size ≡ before → before + sum_by (λ (f : FieldView). length f.name) done ≡ room
    → now + sum_by (λ (f : FieldView). length f.name) (done ++ field ∷ []) ≡ room
names_more done field size now before room s n b = omega (arith, s, n, b, sum_by_push (λ (f : FieldView). length f.name) done field)
