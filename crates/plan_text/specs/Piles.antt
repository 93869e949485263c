-- Piles: the last thing that was put is the first.
use Rattle.std.specs.Prelude.{List, [], ◌∷◌}

-- the last one that was put, or the default
abbrev pub top : {A : Type 0} → A → List A → A
top default [] = default
top default (item ∷ items) = item

-- those below it
abbrev pub rest : {A : Type 0} → List A → List A
rest [] = []
rest (item ∷ items) = items
