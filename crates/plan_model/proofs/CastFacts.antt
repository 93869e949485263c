-- Casts give the type, and the test of a day.
use Rattle.std.proofs.Common.{◌≡◌, ◌≢◌, pos, negsuc, Bool, true, false, ◌&&◌, T, refl}
use Rattle.std.specs.Prelude.{int_le}
use Rattle.cn_types.specs.declared.value.DataType.{DataType}
use Rattle.cn_types.specs.declared.value.Value.{Value}
use Rattle.cn_types.specs.declared.value.Value.TheVariants.{Null, Boolean, Integer, Long, Text, Date}
use Rattle.cn_types.specs.Fit.{HasType, HasDateInRange, IsDay}
use Rattle.plan_model.specs.Casts.{cast_to}
use Rattle.plan_model.specs.DateFunctions.{is_day}
use Rattle.plan_model.specs.FunctionTypes.{can_cast}
use Rattle.plan_model.specs.ValueLaws.{CastsGiveTheType, DaysAreTested}

cast_typed : (kind : DataType) (value : Value) → HasDateInRange value → HasType kind (cast_to kind value)
cast_typed DataType.Date (Date day) h = h
cast_typed DataType.Boolean Null h = tt
cast_typed DataType.Integer Null h = tt
cast_typed DataType.Long Null h = tt
cast_typed DataType.Text Null h = tt
cast_typed kind value h = tt

cast_own : (kind : DataType) (value : Value) → HasType kind value → cast_to kind value ≡ value
cast_own DataType.Boolean Null h = refl
cast_own DataType.Integer Null h = refl
cast_own DataType.Long Null h = refl
cast_own DataType.Text Null h = refl
cast_own DataType.Date Null h = refl
cast_own DataType.Boolean (Boolean b) h = refl
cast_own DataType.Integer (Integer n) h = refl
cast_own DataType.Long (Long n) h = refl
cast_own DataType.Text (Text t) h = refl
cast_own DataType.Date (Date d) h = refl
cast_own kind value h = absurd h

cast_null : (kind : DataType) → cast_to kind Null ≡ Null
cast_null DataType.Boolean = refl
cast_null DataType.Integer = refl
cast_null DataType.Long = refl
cast_null DataType.Text = refl
cast_null DataType.Date = refl

cast_kept : (from kind : DataType) (value : Value) → HasType from value → can_cast from kind ≡ true → value ≢ Null → cast_to kind value ≢ Null
cast_kept from kind Null h e n = absurd (n refl)
cast_kept DataType.Boolean DataType.Boolean (Boolean x) h e n = λ (null : cast_to DataType.Boolean (Boolean x) ≡ Null). cc
cast_kept DataType.Boolean DataType.Integer (Boolean x) h e n = λ (null : cast_to DataType.Integer (Boolean x) ≡ Null). cc
cast_kept DataType.Boolean DataType.Long (Boolean x) h e n = λ (null : cast_to DataType.Long (Boolean x) ≡ Null). cc
cast_kept DataType.Boolean DataType.Text (Boolean x) h e n = λ (null : cast_to DataType.Text (Boolean x) ≡ Null). cc
cast_kept DataType.Boolean DataType.Date (Boolean x) h e n = cc
cast_kept DataType.Integer DataType.Boolean (Integer x) h e n = λ (null : cast_to DataType.Boolean (Integer x) ≡ Null). cc
cast_kept DataType.Integer DataType.Integer (Integer x) h e n = λ (null : cast_to DataType.Integer (Integer x) ≡ Null). cc
cast_kept DataType.Integer DataType.Long (Integer x) h e n = λ (null : cast_to DataType.Long (Integer x) ≡ Null). cc
cast_kept DataType.Integer DataType.Text (Integer x) h e n = λ (null : cast_to DataType.Text (Integer x) ≡ Null). cc
cast_kept DataType.Integer DataType.Date (Integer x) h e n = cc
cast_kept DataType.Long DataType.Boolean (Long x) h e n = λ (null : cast_to DataType.Boolean (Long x) ≡ Null). cc
cast_kept DataType.Long DataType.Integer (Long x) h e n = λ (null : cast_to DataType.Integer (Long x) ≡ Null). cc
cast_kept DataType.Long DataType.Long (Long x) h e n = λ (null : cast_to DataType.Long (Long x) ≡ Null). cc
cast_kept DataType.Long DataType.Text (Long x) h e n = λ (null : cast_to DataType.Text (Long x) ≡ Null). cc
cast_kept DataType.Long DataType.Date (Long x) h e n = cc
cast_kept DataType.Text DataType.Boolean (Text x) h e n = cc
cast_kept DataType.Text DataType.Integer (Text x) h e n = cc
cast_kept DataType.Text DataType.Long (Text x) h e n = cc
cast_kept DataType.Text DataType.Text (Text x) h e n = λ (null : cast_to DataType.Text (Text x) ≡ Null). cc
cast_kept DataType.Text DataType.Date (Text x) h e n = cc
cast_kept DataType.Date DataType.Boolean (Date x) h e n = cc
cast_kept DataType.Date DataType.Integer (Date x) h e n = cc
cast_kept DataType.Date DataType.Long (Date x) h e n = cc
cast_kept DataType.Date DataType.Text (Date x) h e n = λ (null : cast_to DataType.Text (Date x) ≡ Null). cc
cast_kept DataType.Date DataType.Date (Date x) h e n = λ (null : cast_to DataType.Date (Date x) ≡ Null). cc
cast_kept from kind value h e n = absurd h

pub casts_typed : CastsGiveTheType
casts_typed = record { typed = cast_typed; own_type = cast_own; null_stays = cast_null; never_null = cast_kept }

both : (a b : Bool) → (a && b) ≡ true → (a ≡ true) × (b ≡ true)
both true b e = (refl, e)
both false b e = cc

together : (a b : Bool) → a ≡ true → b ≡ true → (a && b) ≡ true
together true b p q = q
together false b p q = cc

pub true_is_T : (b : Bool) → b ≡ true → T b
true_is_T true e = tt
true_is_T false e = cc

pub T_is_true : (b : Bool) → T b → b ≡ true
T_is_true true t = refl
T_is_true false t = absurd t

pub days_tested : DaysAreTested
days_tested day = (
  (λ (h : is_day day ≡ true).
      let parts = both (int_le (negsuc 719161) day) (int_le day (pos 2932896)) h in
      (record { le = true_is_T (int_le (negsuc 719161) day) parts.0 }, record { le = true_is_T (int_le day (pos 2932896)) parts.1 })),
  λ (h : IsDay day). together (int_le (negsuc 719161) day) (int_le day (pos 2932896)) (T_is_true (int_le (negsuc 719161) day) h.0.le) (T_is_true (int_le day (pos 2932896)) h.1.le),
)
