-- Lists of one item, of two and of more: what functions that take so many answer.
use Rattle.std.proofs.Common.{◌≡◌, ◌≢◌, ◌<◌, ◌≤◌, Bool, List, [], ◌∷◌, true, false, cond, Option, Some, None, length, get_or, refl, ap, arith}
use Rattle.std.specs.Prelude.{option_and_then, ◌&&◌, if◌then◌else◌}
use Rattle.std.specs.List.{list_all}
use Rattle.cn_types.specs.declared.value.DataType.{DataType}
use Rattle.cn_types.specs.declared.value.DataType.TheVariants.{Boolean, Text}
use Rattle.plan_model.specs.FunctionTypes.{always, by_one, by_two, common_of, concat_type, exactly, in_type, same_kind}
use Rattle.resolve_functions.specs.Slices.{pair_of, single_of}

pub single_other : {X : Type 0} (items : List X) → length items ≢ 1 → single_of items ≡ None
single_other [] other = refl
single_other (a ∷ []) other = absurd (other refl)
single_other (a ∷ b ∷ items) other = refl

pub single_is : {X : Type 0} (items : List X) (d : X) → length items ≡ 1 → single_of items ≡ Some (get_or items 0 d)
single_is [] d is = absurd (omega (arith, is))
single_is (a ∷ []) d is = refl
single_is (a ∷ b ∷ items) d is = absurd (omega (arith, is))

pub pair_other : {X : Type 0} (items : List X) → length items ≢ 2 → pair_of items ≡ None
pair_other [] other = refl
pair_other (a ∷ []) other = refl
pair_other (a ∷ b ∷ []) other = absurd (other refl)
pair_other (a ∷ b ∷ c ∷ items) other = refl

pub pair_is : {X : Type 0} (items : List X) (d e : X) → length items ≡ 2 → pair_of items ≡ Some (get_or items 0 d, get_or items 1 e)
pair_is [] d e is = absurd (omega (arith, is))
pair_is (a ∷ []) d e is = absurd (omega (arith, is))
pair_is (a ∷ b ∷ []) d e is = refl
pair_is (a ∷ b ∷ c ∷ items) d e is = absurd (omega (arith, is))

pub ruleset singles = (single_other, single_is)

pub ruleset pairs = (pair_other, pair_is)

pub by_one_single : (f : DataType → Option DataType) (kinds : List DataType) → by_one f kinds ≡ option_and_then f (single_of kinds)
by_one_single f [] = refl
by_one_single f (a ∷ []) = refl
by_one_single f (a ∷ b ∷ kinds) = refl

pub by_two_pair : (f : DataType → DataType → Option DataType) (kinds : List DataType) → by_two f kinds ≡ option_and_then (λ p. f p.0 p.1) (pair_of kinds)
by_two_pair f [] = refl
by_two_pair f (a ∷ []) = refl
by_two_pair f (a ∷ b ∷ []) = refl
by_two_pair f (a ∷ b ∷ c ∷ kinds) = refl

and_true : (b : Bool) → (b && true) ≡ b
and_true true = refl
and_true false = refl

pub exactly_single : (taken kind : DataType) (kinds : List DataType) →
    exactly (taken ∷ []) kind kinds ≡ option_and_then (λ a. if same_kind taken a then Some kind else None) (single_of kinds)
exactly_single taken kind [] = refl
exactly_single taken kind (a ∷ []) = ap (λ (b : Bool). let o : Option DataType = cond b (Some kind) None in o) (and_true (same_kind taken a))
exactly_single taken kind (a ∷ b ∷ kinds) = ap (λ (b : Bool). let o : Option DataType = cond b (Some kind) None in o) (and_false (same_kind taken a))
  where
    and_false : (b : Bool) → (b && false) ≡ false
    and_false true = refl
    and_false false = refl

pub exactly_pair : (first second kind : DataType) (kinds : List DataType) →
    exactly (first ∷ second ∷ []) kind kinds ≡ option_and_then (λ p. if same_kind first p.0 && same_kind second p.1 then Some kind else None) (pair_of kinds)
exactly_pair first second kind [] = refl
exactly_pair first second kind (a ∷ []) = ap (λ (b : Bool). let o : Option DataType = cond b (Some kind) None in o) (and_false (same_kind first a))
  where
    and_false : (b : Bool) → (b && false) ≡ false
    and_false true = refl
    and_false false = refl
exactly_pair first second kind (a ∷ b ∷ []) =
    ap (λ (t : Bool). let o : Option DataType = cond (same_kind first a && t) (Some kind) None in o) (and_true (same_kind second b))
exactly_pair first second kind (a ∷ b ∷ c ∷ kinds) =
    ap (λ (t : Bool). let o : Option DataType = cond t (Some kind) None in o) (and_false (same_kind first a) (same_kind second b))
  where
    and_false : (x y : Bool) → (x && (y && false)) ≡ false
    and_false true true = refl
    and_false true false = refl
    and_false false true = refl
    and_false false false = refl

pub in_short : (kinds : List DataType) → length kinds < 2 → in_type kinds ≡ None
in_short [] short = refl
in_short (a ∷ []) short = refl
in_short (a ∷ b ∷ kinds) short = absurd (omega arith)

pub in_long : (kinds : List DataType) → 2 ≤ length kinds → in_type kinds ≡ always Boolean (common_of kinds)
in_long [] long = absurd (omega arith)
in_long (a ∷ []) long = absurd (omega arith)
in_long (a ∷ b ∷ kinds) long = refl

pub concat_none : (kinds : List DataType) → length kinds ≡ 0 → concat_type kinds ≡ None
concat_none [] none = refl
concat_none (a ∷ kinds) none = absurd (omega (arith, none))

pub concat_some : (kinds : List DataType) → length kinds ≢ 0 → concat_type kinds ≡ (if list_all (same_kind Text) kinds then Some Text else None)
concat_some [] some = absurd (some refl)
concat_some (a ∷ kinds) some = refl
