-- Lists of one item and of two.
use Rattle.std.specs.Prelude.{List, [], ◌∷◌, Option, Some, None}

abbrev pub single_of : {X : Type 0} → List X → Option X
single_of (a ∷ []) = Some a
single_of items = None

abbrev pub pair_of : {X : Type 0} → List X → Option (X × X)
pair_of (a ∷ b ∷ []) = Some (a, b)
pair_of items = None
