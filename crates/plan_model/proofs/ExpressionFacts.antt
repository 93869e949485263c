-- Expressions by their form: induction, and the facts of an expression and of its parts.
use Rattle.std.proofs.Common.{◌≡◌, ℕ, List, [], ◌∷◌, map, refl, sym, ap, ◌∙◌, subst}
use Rattle.std.specs.List.{AllByRecursion}
use Rattle.cn_types.specs.declared.value.DataType.{DataType}
use Rattle.cn_types.specs.declared.value.Value.{Value}
use Rattle.plan_model.specs.declared.expression.TypedExpr.{TypedExpr}
use Rattle.plan_model.specs.declared.expression.TypedExpr.TheFolds.{map-TypedExpr, ind-TypedExpr, every-TypedExpr, every_here-TypedExpr, every_held-TypedExpr, every_made-TypedExpr}
use Rattle.plan_model.specs.declared.expression.TypedExpr.TheOpen as O
use Rattle.plan_model.specs.declared.expression.TypedExpr.TheOpen.{TypedExpr-F}
use Rattle.plan_model.specs.declared.expression.TypedExpr.TheVariants as V
use Rattle.plan_model.specs.declared.expression.TypedExpr.TheViews.{out-TypedExpr, roll-TypedExpr}
use Rattle.plan_model.specs.declared.function.Function.{Function}
use Rattle.plan_model.specs.NodeTypes.{kind_in, kind_of}

-- a fact of each form of expression, given it of the parts
pub record Forms (P : TypedExpr → Type 0) : Type 0 where
  pub column : (place : ℕ) (kind : DataType) → P (V.Column place kind)
  pub literal : (value : Value) (kind : DataType) → P (V.Literal value kind)
  pub call_form : (function : Function) (arguments : List TypedExpr) (kind : DataType) → AllByRecursion P arguments → P (V.Call function arguments kind)
  pub cast : (child : TypedExpr) (kind : DataType) → P child → P (V.Cast child kind)

abbrev With : (TypedExpr → Type 0) → Type 0
With P = (expr : TypedExpr) × P expr

all_with : (P : TypedExpr → Type 0) (es : List (With P)) → AllByRecursion P (map (λ e. e.0) es)
all_with P [] = tt
all_with P (e ∷ es) = (e.1, all_with P es)

at_layer : (P : TypedExpr → Type 0) → Forms P → (y : TypedExpr-F (With P)) → P (roll-TypedExpr (map-TypedExpr (With P) TypedExpr (λ e. e.0) y))
at_layer P f (O.Column place kind) = subst P (sym (V.rolls-Column place kind)) (f.column place kind)
at_layer P f (O.Literal value kind) = subst P (sym (V.rolls-Literal value kind)) (f.literal value kind)
at_layer P f (O.Call function arguments kind) =
    subst P (sym (V.rolls-Call function (map (λ e. e.0) arguments) kind)) (f.call_form function (map (λ e. e.0) arguments) kind (all_with P arguments))
at_layer P f (O.Cast child kind) = subst P (sym (V.rolls-Cast child.0 kind)) (f.cast child.0 kind child.1)

pub induct : (P : TypedExpr → Type 0) → Forms P → (expr : TypedExpr) → P expr
induct P f = ind-TypedExpr P (λ x y is. subst (λ (z : TypedExpr-F TypedExpr). P (roll-TypedExpr z)) is (at_layer P f y))

-- ---- a fact of each form, of an expression and of its parts

abbrev pub parts : {A : Type 0} → TypedExpr-F A → List A
parts (O.Column place kind) = []
parts (O.Literal value kind) = []
parts (O.Call function arguments kind) = arguments
parts (O.Cast child kind) = child ∷ []

parts-map : {A B : Type 0} (f : A → B) (x : TypedExpr-F A) → parts (map-TypedExpr A B f x) ≡ map f (parts x)
parts-map f (O.Column place kind) = refl
parts-map f (O.Literal value kind) = refl
parts-map f (O.Call function arguments kind) = refl
parts-map f (O.Cast child kind) = refl

module _ (Q : TypedExpr-F TypedExpr → Type 0) where
  -- the fact of each part, and of the expression's own form
  pub every_part : (expr : TypedExpr) (x : TypedExpr-F TypedExpr) → out-TypedExpr expr ≡ x → every-TypedExpr Q expr → AllByRecursion (every-TypedExpr Q) (parts x)
  every_part expr x out h =
      let held = every_held-TypedExpr Q expr h in
      let same : map (λ e. e.0) (parts held.0) ≡ parts x = sym (parts-map (λ e. e.0) held.0) ∙ ap parts (held.1 ∙ out) in
      subst (AllByRecursion (every-TypedExpr Q)) same (all_with (every-TypedExpr Q) (parts held.0))

  pub every_here : (expr : TypedExpr) (x : TypedExpr-F TypedExpr) → out-TypedExpr expr ≡ x → every-TypedExpr Q expr → Q x
  every_here expr x out h = subst Q out (every_here-TypedExpr Q expr h)

  attach : (es : List TypedExpr) → AllByRecursion (every-TypedExpr Q) es → List (With (every-TypedExpr Q))
  attach [] all = []
  attach (e ∷ es) all = (e, all.0) ∷ attach es all.1

  attached : (es : List TypedExpr) (all : AllByRecursion (every-TypedExpr Q) es) → map (λ e. e.0) (attach es all) ≡ es
  unfolding attach
  attached [] all = refl
  attached (e ∷ es) all = ap (λ rest. e ∷ rest) (attached es all.1)

  -- the fact of an expression, from that of its own form and of its parts
  pub made-Column : (place : ℕ) (kind : DataType) → Q (O.Column place kind) → every-TypedExpr Q (V.Column place kind)
  made-Column place kind here = subst (every-TypedExpr Q) (V.rolls-Column place kind) (every_made-TypedExpr Q (O.Column place kind) (O.Column place kind) refl here)

  pub made-Literal : (value : Value) (kind : DataType) → Q (O.Literal value kind) → every-TypedExpr Q (V.Literal value kind)
  made-Literal value kind here = subst (every-TypedExpr Q) (V.rolls-Literal value kind) (every_made-TypedExpr Q (O.Literal value kind) (O.Literal value kind) refl here)

  pub made-Call : (function : Function) (arguments : List TypedExpr) (kind : DataType) → Q (O.Call function arguments kind) → AllByRecursion (every-TypedExpr Q) arguments → every-TypedExpr Q (V.Call function arguments kind)
  made-Call function arguments kind here all =
      subst (every-TypedExpr Q) (V.rolls-Call function arguments kind)
      (every_made-TypedExpr Q (O.Call function arguments kind) (O.Call function (attach arguments all) kind) (ap (λ (es : List TypedExpr). O.Call function es kind) (attached arguments all)) here)

  pub made-Cast : (child : TypedExpr) (kind : DataType) → Q (O.Cast child kind) → every-TypedExpr Q child → every-TypedExpr Q (V.Cast child kind)
  made-Cast child kind here of_child = subst (every-TypedExpr Q) (V.rolls-Cast child kind) (every_made-TypedExpr Q (O.Cast child kind) (O.Cast (child, of_child) kind) refl here)

-- ---- the type of each form

pub kind_of-Column : (place : ℕ) (kind : DataType) → kind_of (V.Column place kind) ≡ kind
kind_of-Column place kind = ap kind_in (V.outs-Column place kind)

pub kind_of-Literal : (value : Value) (kind : DataType) → kind_of (V.Literal value kind) ≡ kind
kind_of-Literal value kind = ap kind_in (V.outs-Literal value kind)

pub kind_of-Call : (function : Function) (arguments : List TypedExpr) (kind : DataType) → kind_of (V.Call function arguments kind) ≡ kind
kind_of-Call function arguments kind = ap kind_in (V.outs-Call function arguments kind)

pub kind_of-Cast : (child : TypedExpr) (kind : DataType) → kind_of (V.Cast child kind) ≡ kind
kind_of-Cast child kind = ap kind_in (V.outs-Cast child kind)
