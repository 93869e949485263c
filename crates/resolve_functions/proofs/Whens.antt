-- The values of a `when`, two arguments at a time.
use Rattle.std.proofs.Common.{◌≡◌, ℕ, ◌+◌, ◌-◌, ◌<◌, ◌≤◌, List, [], ◌∷◌, ◌++◌, true, false, Option, Some, None, length, get_or, drop, refl, sym, ap, ◌∙◌, arith, append_assoc, append-nil, drop-cons, add-one}
use Rattle.std.specs.Prelude.{option_and_then, option_map}
use Rattle.std.proofs.lemmas.List.{drop_all}
use Rattle.cn_types.specs.declared.value.DataType.{DataType}
use Rattle.cn_types.specs.declared.value.DataType.TheVariants.{Boolean, Integer, Long, Text, Date}
use Rattle.plan_model.specs.FunctionTypes.{common_of, same_kind, when_type, when_values}

abbrev Kinds : Type 0
Kinds = Option (List DataType)

pub when_short : (kinds : List DataType) → length kinds < 2 → when_type kinds ≡ None
when_short [] short = refl
when_short (a ∷ []) short = refl
when_short (a ∷ b ∷ kinds) short = absurd (omega arith)

pub when_long : (kinds : List DataType) → 2 ≤ length kinds → when_type kinds ≡ option_and_then common_of (when_values kinds)
when_long [] long = absurd (omega arith)
when_long (a ∷ []) long = absurd (omega arith)
when_long (a ∷ b ∷ kinds) long = refl

two : (condition value : DataType) (rest : List DataType) → same_kind condition Boolean ≡ true → when_values (condition ∷ value ∷ rest) ≡ option_map (λ values. value ∷ values) (when_values rest)
two Boolean value rest is = refl
two Integer value rest is = cc
two Long value rest is = cc
two Text value rest is = cc
two Date value rest is = cc

not_two : (condition value : DataType) (rest : List DataType) → same_kind condition Boolean ≡ false → when_values (condition ∷ value ∷ rest) ≡ None
not_two Boolean value rest is = cc
not_two Integer value rest is = refl
not_two Long value rest is = refl
not_two Text value rest is = refl
not_two Date value rest is = refl

-- these values, and those of the rest
abbrev pub IsGathered : List DataType → List DataType → ℕ → Type 0
IsGathered kinds values at = when_values kinds ≡ option_map (λ rest. values ++ rest) (when_values (drop at kinds))

drop-next : (kinds : List DataType) (at : ℕ) (d : DataType) → at < length kinds → drop at kinds ≡ get_or kinds at d ∷ drop (at + 1) kinds
drop-next kinds at d within = drop-cons kinds at d within ∙ ap (λ (n : ℕ). get_or kinds at d ∷ drop n kinds) (sym (add-one at))

drop_none : (kinds : List DataType) (at : ℕ) → length kinds ≤ at → drop at kinds ≡ []
drop_none kinds at past = drop_all at kinds past

module _ (kinds values : List DataType) (at : ℕ) where
  split : (d e : DataType) → 1 < length kinds - at → drop at kinds ≡ get_or kinds at d ∷ get_or kinds (at + 1) e ∷ drop (at + 2) kinds
  split d e more =
      let one : at < length kinds = omega arith in
      let next : at + 1 < length kinds = omega arith in
      let same : at + 1 + 1 ≡ at + 2 = omega arith in
      drop-next kinds at d one
      ∙ ap (λ (rest : List DataType). get_or kinds at d ∷ rest)
      (drop-next kinds (at + 1) e next ∙ ap (λ (n : ℕ). get_or kinds (at + 1) e ∷ drop n kinds) same)

  behind : (value : DataType) (o : Kinds) → option_map (λ rest. values ++ rest) (option_map (λ rest. value ∷ rest) o) ≡ option_map (λ rest. (values ++ value ∷ []) ++ rest) o
  behind value None = refl
  behind value (Some rest) = ap (λ (all : List DataType). let o : Kinds = Some all in o) (sym (append_assoc values (value ∷ []) rest))

  pub gather_more : (d e : DataType) → IsGathered kinds values at → 1 < length kinds - at → same_kind (get_or kinds at d) Boolean ≡ true →
      IsGathered kinds (values ++ get_or kinds (at + 1) e ∷ []) (at + 2)
  gather_more d e so_far more is =
      so_far ∙ ap (λ (rest : List DataType). option_map (λ more. values ++ more) (when_values rest)) (split d e more)
      ∙ ap (option_map (λ more. values ++ more)) (two (get_or kinds at d) (get_or kinds (at + 1) e) (drop (at + 2) kinds) is)
      ∙ behind (get_or kinds (at + 1) e) (when_values (drop (at + 2) kinds))

  pub gather_stop : (d : DataType) → IsGathered kinds values at → 1 < length kinds - at → same_kind (get_or kinds at d) Boolean ≡ false → when_values kinds ≡ None
  gather_stop d so_far more is =
      so_far ∙ ap (λ (rest : List DataType). option_map (λ more. values ++ more) (when_values rest)) (split d d more)
      ∙ ap (option_map (λ more. values ++ more)) (not_two (get_or kinds at d) (get_or kinds (at + 1) d) (drop (at + 2) kinds) is)

  pub gather_last : (d : DataType) → IsGathered kinds values at → length kinds - at ≤ 1 → at < length kinds → when_values kinds ≡ Some (values ++ get_or kinds at d ∷ [])
  gather_last d so_far few within =
      let past : drop (at + 1) kinds ≡ [] = drop_none kinds (at + 1) (omega arith) in
      so_far ∙ ap (λ (rest : List DataType). option_map (λ more. values ++ more) (when_values rest))
      (drop-next kinds at d within ∙ ap (λ (rest : List DataType). get_or kinds at d ∷ rest) past)

  pub gather_end : IsGathered kinds values at → length kinds ≤ at → when_values kinds ≡ Some values
  gather_end so_far past =
      so_far ∙ ap (λ (rest : List DataType). option_map (λ more. values ++ more) (when_values rest)) (drop_none kinds at past)
      ∙ ap (λ (all : List DataType). let o : Kinds = Some all in o) (append-nil values)

pub gather_none : (kinds : List DataType) → IsGathered kinds [] 0
gather_none kinds = by (when_values kinds)
  where
    by : (o : Kinds) → o ≡ option_map (λ rest. [] ++ rest) o
    by None = refl
    by (Some rest) = refl
