-- An error of analysis, with its detail.
use Rattle.std.specs.Prelude.{ℕ, List}
use Rattle.resolve_names.specs.declared.error.ErrorName.{ErrorName}

-- an error: its name, and the bytes of its detail
pub record Refusal : Type 0 where
  pub name : ErrorName
  pub detail : List ℕ

abbrev pub refusal : ErrorName → List ℕ → Refusal
refusal name detail = record { name = name; detail = detail }
