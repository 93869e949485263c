-- The places of rows in a list, counted from 0.
use Rattle.std.specs.Prelude.{ℕ, suc, ◌==◌, Bool, false, if◌then◌else◌, List, [], ◌∷◌, Option, None, Some}
use Rattle.std.specs.Borrow.{Bor}
use Rattle.cn_types.specs.declared.row.Row.{Row}
use Rattle.cn_types.specs.Order.{row_eq}
use Rattle.plan_model.specs.Groups.{columns_of}

-- which columns of a row make its key: those listed, or all
abbrev pub Columns : Type 0
Columns = Option (Bor (List ℕ))

-- the row's values in these columns
abbrev pub key_by : Columns → Row → Row
key_by None row = row
key_by (Some columns) row = columns_of columns.now row

-- the places of the rows that pass a test, where the first row has this place
abbrev pub places_from : (Row → Bool) → ℕ → List Row → List ℕ
places_from test place [] = []
places_from test place (row ∷ rows) = if test row then place ∷ places_from test (suc place) rows else places_from test (suc place) rows

-- the row's values in these columns are the same as the key
abbrev pub has_key : Columns → Row → Row → Bool
has_key columns key row = row_eq key (key_by columns row)

-- the places, in order, of the rows whose values in these columns are the same as the key
abbrev pub places_of : Columns → Row → List Row → List ℕ
places_of columns key rows = places_from (has_key columns key) 0 rows

-- the list begins with the place
abbrev pub head_is : List ℕ → ℕ → Bool
head_is [] place = false
head_is (first ∷ places) place = first == place
