-- What a chain of checks answers: a value, or the error of the first check that fails.
use Rattle.std.specs.Prelude.{Option, Some, None, Result, Ok, Err}
use Rattle.resolve_names.specs.declared.error.ResolveStop.{ResolveStop}
use Rattle.resolve_names.specs.declared.error.ResolveStop.TheVariants.{Analysis}
use Rattle.resolve_names.specs.Refusals.{Refusal}

-- a value, or why there is none
abbrev pub Checked : Type 0 → Type 0
Checked A = Result A ResolveStop

abbrev pub refused : {A : Type 0} → Refusal → Checked A
refused why = Err (Analysis why)

-- one check after another: the first that fails decides
infixl 10 ◌>>=◌
abbrev pub ◌>>=◌ : {A B : Type 0} → Checked A → (A → Checked B) → Checked B
(Ok x) >>= f = f x
(Err stop) >>= f = Err stop

-- what is there, or this error
abbrev pub or_refused : {A : Type 0} → Refusal → Option A → Checked A
or_refused why (Some x) = Ok x
or_refused why None = refused why
