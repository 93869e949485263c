-- A change of the table of its name leaves the other tables, the names as they fold, and what fits.
use Rattle.std.proofs.Common.{◌≡◌, ℕ, zero, suc, ◌+◌, ◌<◌, List, [], ◌∷◌, ◌++◌, Bool, true, false, cond, Option, Some, None, map, get_or, length, refl, sym, ap, ◌∙◌, arith}
use Rattle.std.specs.Cmp.Lexicographic.{same_text}
use Rattle.std.specs.List.{IsDistinct, AllByRecursion, position, slice_set}
use Rattle.std.specs.Str.{bytes_eq}
use Rattle.std.proofs.lemmas.Cmp.{nat_list_eq_equiv}
use Rattle.std.proofs.lemmas.List.Quantifiers.{position-Some}
use Rattle.std.proofs.lemmas.Map.Keys.{IsDistinct-head, IsDistinct-tail}
use Rattle.table_store.specs.declared.change.How.{How}
use Rattle.table_store.specs.declared.change.TableChange.{TableChange}
use Rattle.table_store.specs.declared.tables.NamedTable.{NamedTable}
use Rattle.table_store.specs.declared.tables.Tables.{Tables}
use Rattle.table_store.specs.Applied.{after_change, applied, changed, created, named_after}
use Rattle.table_store.specs.Names.{folded, folded_name, has_name, table_named}
use Rattle.table_store.proofs.Places.{find_absent, find_placed}

-- a changed table has the name that it had, as it folds
pub changed-name : (how : How) (change : TableChange) (table : NamedTable) → has_name change.name table ≡ true → folded_name (changed how change table) ≡ folded_name table
changed-name How.CreateOnly change table is = refl
changed-name How.CreateOrSkip change table is = refl
changed-name How.Append change table is = refl
changed-name How.AppendOrCreate change table is = refl
changed-name How.Replace change table is = same_text (folded change.name) (folded_name table) (sym is)
changed-name How.ReplaceRows change table is = refl

-- a table of another name is as it was
pub after_change-other : (change : TableChange) (table : NamedTable) → has_name change.name table ≡ false → after_change change table ≡ table
after_change-other change table other = ap (λ (same : Bool). cond same (changed change.how change table) table) other

-- where one table has the name, a table of another name hasn't
pub has_name-other : (name : List ℕ) (one other : NamedTable) → has_name name one ≡ true → bytes_eq (folded_name one) (folded_name other) ≡ false → has_name name other ≡ false
has_name-other name one other is differs =
    nat_list_eq_equiv.congr (folded name) (folded_name one) (folded_name other) is ∙ differs

-- tables of other names are as they were
map-after_change-others : (change : TableChange) (one : NamedTable) (others : List NamedTable) → has_name change.name one ≡ true →
    AllByRecursion (λ name. bytes_eq (folded_name one) name ≡ false) (map folded_name others) → map (after_change change) others ≡ others
map-after_change-others change one [] is differ = refl
map-after_change-others change one (other ∷ others) is differ =
    let head = after_change-other change other (has_name-other change.name one other is differ.0) in
    let tail = map-after_change-others change one others is differ.1 in
    λ i. head i ∷ tail i

-- a later table has another name
pub differs_at : (one : NamedTable) (others : List NamedTable) (i : ℕ) (d : NamedTable) → i < length others →
    AllByRecursion (λ name. bytes_eq (folded_name one) name ≡ false) (map folded_name others) → bytes_eq (folded_name one) (folded_name (get_or others i d)) ≡ false
differs_at one [] i d within differ = absurd (omega arith)
differs_at one (other ∷ others) zero d within differ = differ.0
differs_at one (other ∷ others) (suc i) d within differ = differs_at one others i d (omega arith) differ.1

-- the table of the change's name is changed in its place
pub map-after_change : (change : TableChange) (named : List NamedTable) (i : ℕ) (d : NamedTable) → i < length named →
    IsDistinct bytes_eq (map folded_name named) → has_name change.name (get_or named i d) ≡ true →
    map (after_change change) named ≡ slice_set named i (changed change.how change (get_or named i d))
map-after_change change [] i d within differ is = absurd (omega arith)
map-after_change change (table ∷ named) zero d within differ is =
    let tail = map-after_change-others change table named is (IsDistinct-head _ _ _ differ) in
    let head = ap (λ (same : Bool). cond same (changed change.how change table) table) is in
    λ i. head i ∷ tail i
map-after_change change (table ∷ named) (suc i) d within differ is =
    let later = differs_at table named i d (omega arith) (IsDistinct-head _ _ _ differ) in
    let other = has_name-other change.name (get_or named i d) table is (nat_list_eq_equiv.symm (folded_name (get_or named i d)) (folded_name table) ∙ later) in
    let head = after_change-other change table other in
    let tail = map-after_change change named i d (omega arith) (IsDistinct-tail _ _ _ differ) is in
    λ j. head j ∷ tail j

-- the tables after a change of the table at a place
pub applied-placed : (change : TableChange) (tables : Tables) (i : ℕ) (table : NamedTable) → IsDistinct bytes_eq (map folded_name tables.named) →
    position (has_name change.name) tables.named ≡ Some i → table ≡ get_or tables.named i table →
    applied change tables ≡ record { version = tables.version + 1; named = slice_set tables.named i (changed change.how change table) }
applied-placed change tables i table differ placed read =
    let at = position-Some (has_name change.name) tables.named i table placed in
    let found : table_named change.name tables.named ≡ Some table = find_placed (has_name change.name) tables.named i table placed read in
    let named : map (after_change change) tables.named ≡ slice_set tables.named i (changed change.how change table)
    = map-after_change change tables.named i table at.0 differ at.1 ∙ ap (λ (t : NamedTable). slice_set tables.named i (changed change.how change t)) (sym read) in
    let after : named_after change (table_named change.name tables.named) tables.named ≡ slice_set tables.named i (changed change.how change table)
    = ap (λ (o : Option NamedTable). named_after change o tables.named) found ∙ named in
    λ j. record { version = tables.version + 1; named = after j }

-- the tables after a change that makes its table
pub applied-absent : (change : TableChange) (tables : Tables) → position (has_name change.name) tables.named ≡ None →
    applied change tables ≡ record { version = tables.version + 1; named = tables.named ++ created change ∷ [] }
applied-absent change tables absent =
    let found : table_named change.name tables.named ≡ None = find_absent (has_name change.name) tables.named absent in
    λ j. record { version = tables.version + 1; named = named_after change (found j) tables.named }
