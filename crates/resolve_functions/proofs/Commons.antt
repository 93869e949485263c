-- The common type of a list, from its end.
use Rattle.std.proofs.Common.{◌≡◌, ℕ, suc, ◌-◌, ◌<◌, List, [], ◌∷◌, length, get_or, drop, refl, ap, ◌∙◌, arith, drop-cons, length-drop}
use Rattle.std.specs.Prelude.{option_and_then}
use Rattle.cn_types.specs.declared.value.DataType.{DataType}
use Rattle.plan_model.specs.FunctionTypes.{common, common_of}

common_cons : (kind : DataType) (rest : List DataType) → 0 < length rest → common_of (kind ∷ rest) ≡ option_and_then (common kind) (common_of rest)
common_cons kind [] some = absurd (omega arith)
common_cons kind (other ∷ rest) some = refl

pub common_step : (kinds : List DataType) (at : ℕ) (d : DataType) → 0 < at → at < length kinds →
    common_of (drop (at - 1) kinds) ≡ option_and_then (common (get_or kinds (at - 1) d)) (common_of (drop at kinds))
common_step kinds at d some within =
    let before : at - 1 < length kinds = omega arith in
    let next : suc (at - 1) ≡ at = omega arith in
    let rest : 0 < length (drop at kinds) = omega (arith, length-drop at kinds) in
    ap common_of (drop-cons kinds (at - 1) d before ∙ ap (λ (n : ℕ). get_or kinds (at - 1) d ∷ drop n kinds) next)
    ∙ common_cons (get_or kinds (at - 1) d) (drop at kinds) rest
