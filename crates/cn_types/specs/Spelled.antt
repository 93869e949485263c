-- Which value of a type a text spells.
use Rattle.std.specs.Prelude.{◌≡◌, List, ℕ}
use Rattle.cn_types.specs.declared.value.DataType.{DataType}
use Rattle.cn_types.specs.declared.value.Value.{Value}
use Rattle.cn_types.specs.Fit.{HasType, HasBits}
use Rattle.cn_types.specs.Printed.{printed}

-- the text is what the value, null or of the type, is printed as
pub record Spells (kind : DataType) (text : List ℕ) (value : Value) : Type 0 where
  pub type : HasType kind value
  pub bits : HasBits value
  pub spelling : printed value ≡ text

-- one text spells at most one value of a type
abbrev pub OneValueIsSpelled : Type 0
OneValueIsSpelled = (kind : DataType) (text : List ℕ) (a b : Value) → Spells kind text a → Spells kind text b → a ≡ b
