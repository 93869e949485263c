-- How two maps that are merged stand to one another.
use Rattle.std.specs.Prelude.{List, [], ◌∷◌}
use Rattle.std.specs.declared.cmp.Ordering.{Ordering}
use Rattle.std.specs.declared.cmp.Ordering.TheVariants.{Less, Greater}
use Rattle.std.specs.Ordering.{nat_cmp}
use Rattle.std.specs.Cmp.Lexicographic.{slice_cmp}
use Rattle.plain_relations.specs.declared.rename_entry.RenameEntry.{RenameEntry}

-- by the bytes of their first keys; one that has none comes last
abbrev pub order_of_first : List RenameEntry → List RenameEntry → Ordering
order_of_first (first ∷ early) (second ∷ late) = slice_cmp nat_cmp first.key second.key
order_of_first (first ∷ early) [] = Less
order_of_first [] late = Greater
