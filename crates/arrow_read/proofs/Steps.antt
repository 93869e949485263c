-- The same of steps that may give none.
use Rattle.std.proofs.Common.{◌≡◌, Bool, true, false, cond, Option, None, Some, refl}
use Rattle.arrow_read.specs.Tables.{◌>>=◌}

pub bind_some : {A B : Type 0} → (o : Option A) (f : A → Option B) (y : B) → (o >>= f) ≡ Some y → (x : A) × (o ≡ Some x) × (f x ≡ Some y)
bind_some (Some x) f y h = (x, refl, h)
bind_some None f y h = absurd (cc)

-- what is there only where a test holds
pub only_if : {A : Type 0} → (b : Bool) (o : Option A) (y : A) → cond b o None ≡ Some y → (b ≡ true) × (o ≡ Some y)
only_if true o y h = (refl, h)
only_if false o y h = absurd (cc)
