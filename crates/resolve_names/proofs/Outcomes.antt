-- What holds of each result holds of what is made of it.
use Rattle.std.specs.Prelude.{Result, Ok, Err, IfOk}

pub if_ok : {A E : Type 0} {P : A → Type 0} (Q : A → Type 0) (result : Result A E) → ((x : A) → P x → Q x) → IfOk result P → IfOk result Q
if_ok Q (Ok x) both h = both x h
if_ok Q (Err e) both h = tt
