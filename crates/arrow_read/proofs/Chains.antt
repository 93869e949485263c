-- What a chain of steps says of each step, and that equal answers hold the same.
use Rattle.std.proofs.Common.{◌≡◌, ℕ, Bool, true, false, cond, Option, None, Some, Result, Ok, Err, arith, refl, ap, ◌∙◌}
use Rattle.std.specs.Prelude.{ℤ, pos, negsuc, ◌<ℤ◌, unwrap_or, nat_abs, int_lt}
use Rattle.std.specs.Result.{result_ok}
use Rattle.std.specs.Ordering.{int_eq}
use Rattle.std.proofs.lemmas.Int.{ints}
use Rattle.std.proofs.lemmas.Bool.Decides.{Decides-int_eq}
use Rattle.flat_tables.specs.declared.fault.FlatFault.{FlatFault}
use Rattle.arrow_ipc.specs.Holds.{or_absent}
use Rattle.arrow_read.specs.declared.fault.ArrowFault.{ArrowFault}
use Rattle.arrow_read.specs.Tables.{not_negative}
use Rattle.arrow_read.specs.Reading.{◌>>=◌, or_fault}

pub same_Ok : {A E : Type 0} → (x y : A) → (let r : Result A E = Ok x in r) ≡ Ok y → x ≡ y
same_Ok x y h = cc

pub same_Err : {A E : Type 0} → (x y : E) → (let r : Result A E = Err x in r) ≡ Err y → x ≡ y
same_Err x y h = cc

pub bind_ok : {A B : Type 0} → (r : Result A ArrowFault) (f : A → Result B ArrowFault) (y : B) → (r >>= f) ≡ Ok y → (x : A) × (r ≡ Ok x) × (f x ≡ Ok y)
bind_ok (Ok x) f y h = (x, refl, h)
bind_ok (Err e) f y h = absurd (cc)

pub fault_ok : {A : Type 0} → (e : ArrowFault) (o : Option A) (x : A) → or_fault e o ≡ Ok x → o ≡ Some x
fault_ok e (Some y) x h = let same : y ≡ x = cc in ap (λ z. Some z) same
fault_ok e None x h = absurd (cc)

pub ok_of : {A : Type 0} → (r : Result A FlatFault) (x : A) → result_ok r ≡ Some x → r ≡ Ok x
ok_of (Ok y) x h = let same : y ≡ x = cc in ap (λ z. Ok z) same
ok_of (Err e) x h = absurd (cc)

-- a field that may be absent
pub or_absent_is : {A : Type 0} → (d : A) (r : Result (Option A) FlatFault) (o : Option A) (x : A) → r ≡ Ok o → unwrap_or o d ≡ x → or_absent d r ≡ Ok x
or_absent_is d r (Some y) x e h = ap (or_absent d) e ∙ ap (λ z. Ok z) h
or_absent_is d r None x e h = ap (or_absent d) e ∙ ap (λ z. Ok z) h

pub is_or_absent : {A : Type 0} → (d : A) (r : Result (Option A) FlatFault) (x : A) → or_absent d r ≡ Ok x → (o : Option A) × (r ≡ Ok o) × (unwrap_or o d ≡ x)
is_or_absent d (Ok (Some y)) x h = let same : y ≡ x = cc in (Some y, refl, same)
is_or_absent d (Ok None) x h = let same : d ≡ x = cc in (None, refl, same)
is_or_absent d (Err e) x h = absurd (cc)

pub not_negative_is : (z : ℤ) (n : ℕ) → not_negative z ≡ Some n → z ≡ pos n
not_negative_is (pos m) n h = by_test (int_lt (pos m) (pos 0)) h
  where
    by_test : (b : Bool) → cond b None (Some m) ≡ Some n → pos m ≡ pos n
    by_test true k = absurd (cc)
    by_test false k = let same : m ≡ n = cc in ap pos same
not_negative_is (negsuc m) n h = by_test (int_lt (negsuc m) (pos 0)) refl h
  where
    by_test : (b : Bool) → int_lt (negsuc m) (pos 0) ≡ b → cond b None (Some (nat_abs (negsuc m))) ≡ Some n → negsuc m ≡ pos n
    by_test true e k = absurd (cc)
    by_test false e k = absurd (cc)

pub is_not_negative : (n : ℕ) → not_negative (pos n) ≡ Some n
is_not_negative n = grind arith

pub negative_is : (z : ℤ) → not_negative z ≡ None → z <ℤ pos 0
negative_is (pos n) h = absurd (let e = is_not_negative n in cc)
negative_is (negsuc n) h = omega (arith, ints)

pub same_int : (x y : ℤ) → int_eq x y ≡ true → x ≡ y
same_int x y h = grind (arith, Decides-int_eq)
