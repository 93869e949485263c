-- A cast of a value that is there gives one that is there.
use Rattle.std.proofs.Common.{◌≡◌, true, refl}
use Rattle.cn_types.specs.declared.value.DataType.{DataType}
use Rattle.cn_types.specs.declared.value.DataType.TheVariants as K
use Rattle.cn_types.specs.declared.value.Value.{Value}
use Rattle.cn_types.specs.declared.value.Value.TheVariants.{Boolean, Date, Integer, Long, Null, Text}
use Rattle.cn_types.specs.Fit.{HasType}
use Rattle.plan_model.specs.Casts.{cast_to}
use Rattle.plan_model.specs.FunctionTypes.{can_cast}
use Rattle.plan_model.specs.Truth.{is_present}

pub cast_present : (a kind : DataType) (value : Value) → can_cast a kind ≡ true → HasType a value → is_present value ≡ true →
    is_present (cast_to kind value) ≡ true
cast_present K.Boolean kind Null casts typed there = cc
cast_present K.Boolean K.Boolean (Boolean b) casts typed there = refl
cast_present K.Boolean K.Integer (Boolean b) casts typed there = refl
cast_present K.Boolean K.Long (Boolean b) casts typed there = refl
cast_present K.Boolean K.Text (Boolean b) casts typed there = refl
cast_present K.Boolean K.Date (Boolean b) casts typed there = cc
cast_present K.Boolean kind (Integer n) casts typed there = absurd typed
cast_present K.Boolean kind (Long n) casts typed there = absurd typed
cast_present K.Boolean kind (Text t) casts typed there = absurd typed
cast_present K.Boolean kind (Date d) casts typed there = absurd typed
cast_present K.Integer kind Null casts typed there = cc
cast_present K.Integer K.Boolean (Integer n) casts typed there = refl
cast_present K.Integer K.Integer (Integer n) casts typed there = refl
cast_present K.Integer K.Long (Integer n) casts typed there = refl
cast_present K.Integer K.Text (Integer n) casts typed there = refl
cast_present K.Integer K.Date (Integer n) casts typed there = cc
cast_present K.Integer kind (Boolean b) casts typed there = absurd typed
cast_present K.Integer kind (Long n) casts typed there = absurd typed
cast_present K.Integer kind (Text t) casts typed there = absurd typed
cast_present K.Integer kind (Date d) casts typed there = absurd typed
cast_present K.Long kind Null casts typed there = cc
cast_present K.Long K.Boolean (Long n) casts typed there = refl
cast_present K.Long K.Integer (Long n) casts typed there = refl
cast_present K.Long K.Long (Long n) casts typed there = refl
cast_present K.Long K.Text (Long n) casts typed there = refl
cast_present K.Long K.Date (Long n) casts typed there = cc
cast_present K.Long kind (Boolean b) casts typed there = absurd typed
cast_present K.Long kind (Integer n) casts typed there = absurd typed
cast_present K.Long kind (Text t) casts typed there = absurd typed
cast_present K.Long kind (Date d) casts typed there = absurd typed
cast_present K.Text kind Null casts typed there = cc
cast_present K.Text K.Boolean (Text t) casts typed there = cc
cast_present K.Text K.Integer (Text t) casts typed there = cc
cast_present K.Text K.Long (Text t) casts typed there = cc
cast_present K.Text K.Text (Text t) casts typed there = refl
cast_present K.Text K.Date (Text t) casts typed there = cc
cast_present K.Text kind (Boolean b) casts typed there = absurd typed
cast_present K.Text kind (Integer n) casts typed there = absurd typed
cast_present K.Text kind (Long n) casts typed there = absurd typed
cast_present K.Text kind (Date d) casts typed there = absurd typed
cast_present K.Date kind Null casts typed there = cc
cast_present K.Date K.Boolean (Date d) casts typed there = cc
cast_present K.Date K.Integer (Date d) casts typed there = cc
cast_present K.Date K.Long (Date d) casts typed there = cc
cast_present K.Date K.Text (Date d) casts typed there = refl
cast_present K.Date K.Date (Date d) casts typed there = refl
cast_present K.Date kind (Boolean b) casts typed there = absurd typed
cast_present K.Date kind (Integer n) casts typed there = absurd typed
cast_present K.Date kind (Long n) casts typed there = absurd typed
cast_present K.Date kind (Text t) casts typed there = absurd typed
