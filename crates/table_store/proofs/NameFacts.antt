-- What names find, before and after a change.
use Rattle.std.proofs.Common.{◌≡◌, ℕ, zero, suc, ◌<◌, List, [], ◌∷◌, Bool, true, false, cond, Option, Some, None, map, get_or, length, refl, sym, ap, subst, ◌∙◌, arith}
use Rattle.std.specs.Prelude.{◌≢◌, All, Contains, if◌then◌else◌}
use Rattle.std.specs.Cmp.Lexicographic.{same_text}
use Rattle.std.specs.List.{IsDistinct, find, position_or_len, slice_get}
use Rattle.std.specs.Option.{option_map, option_or}
use Rattle.std.specs.Str.{bytes_eq}
use Rattle.std.proofs.lemmas.Cmp.{nat_list_eq_equiv}
use Rattle.std.proofs.lemmas.List.Elements.{All-cons, All-head, All-nil, All-tail}
use Rattle.std.proofs.lemmas.List.Folds.{find-append, find_at}
use Rattle.std.proofs.lemmas.Map.Keys.{IsDistinct-head, IsDistinct-tail}
use Rattle.std.proofs.lemmas.Option.{get_or_from_slice_get, none-some, slice_get_within}
use Rattle.table_store.specs.declared.change.TableChange.{TableChange}
use Rattle.table_store.specs.declared.tables.NamedTable.{NamedTable}
use Rattle.table_store.specs.Applied.{after_change, changed, created, named_after}
use Rattle.table_store.specs.Laws.{AChangeChangesOneTable, AnAbsentNameFindsNone, ANameFindsItsTable, table_after}
use Rattle.table_store.specs.Names.{folded, folded_name, has_name, table_named}
use Rattle.table_store.proofs.Changing.{after_change-other, changed-name, differs_at, has_name-other}

-- what is found passes
find-passes : {X : Type 0} (p : X → Bool) (xs : List X) (x : X) → find p xs ≡ Some x → p x ≡ true
find-passes p [] x found = cc
find-passes {X} p (y ∷ ys) x found = by (p y) refl found (find-passes p ys x)
  where
    by : (here : Bool) → p y ≡ here → cond here (Some y) (find p ys) ≡ Some x → (find p ys ≡ Some x → p x ≡ true) → p x ≡ true
    by true is e later = let same : y ≡ x = cc in subst (λ (z : X). p z ≡ true) same is
    by false is e later = later e

-- what is found is an element
find-contains : {X : Type 0} (p : X → Bool) (xs : List X) (x : X) → find p xs ≡ Some x → Contains xs x
find-contains p xs x found =
    let at : slice_get xs (position_or_len p xs) ≡ Some x = sym (find_at p xs) ∙ found in
    (position_or_len p xs, slice_get_within xs (position_or_len p xs) x at, get_or_from_slice_get xs (position_or_len p xs) x x at)

-- a look-up of what a map leaves alone
find-map : {X : Type 0} (p : X → Bool) (f : X → X) → ((x : X) → p (f x) ≡ p x) → (xs : List X) → find p (map f xs) ≡ option_map f (find p xs)
find-map p f same [] = refl
find-map {X} p f same (x ∷ xs) = ap (λ (here : Bool). cond here (Some (f x)) (find p (map f xs))) (same x) ∙ by (p x) (find-map p f same xs)
  where
    by : (here : Bool) → find p (map f xs) ≡ option_map f (find p xs) → cond here (Some (f x)) (find p (map f xs)) ≡ option_map f (cond here (Some x) (find p xs))
    by true later = refl
    by false later = later

-- names that fold to two are not the same
not_same : (a b : List ℕ) (same : Bool) → bytes_eq a b ≡ same → a ≢ b → same ≡ false
not_same a b true e differ = absurd (differ (same_text a b (sym e)))
not_same a b false e differ = refl

-- a name that folds to the table's is its name
has_name-folded : (name : List ℕ) (table : NamedTable) → folded table.name ≡ folded name → has_name name table ≡ true
has_name-folded name table same = subst (λ (other : List ℕ). bytes_eq (folded name) other ≡ true) (sym same) (nat_list_eq_equiv.refl (folded name))

-- a table's name is the same after a change, as it folds
folded_name-after_change : (change : TableChange) (table : NamedTable) → folded_name (after_change change table) ≡ folded_name table
folded_name-after_change change table = by (has_name change.name table) refl
  where
    by : (same : Bool) → has_name change.name table ≡ same → folded_name (if same then changed change.how change table else table) ≡ folded_name table
    by true is = changed-name change.how change table is
    by false is = refl

has_name-after_change : (change : TableChange) (name : List ℕ) (table : NamedTable) → has_name name (after_change change table) ≡ has_name name table
has_name-after_change change name table = ap (bytes_eq (folded name)) (folded_name-after_change change table)

after_change-named : (change : TableChange) (table : NamedTable) → has_name change.name table ≡ true → after_change change table ≡ changed change.how change table
after_change-named change table is = ap (λ (same : Bool). if same then changed change.how change table else table) is

-- the name of a change finds the table that it leaves
named_after_change : (change : TableChange) (named : List NamedTable) (o : Option NamedTable) → table_named change.name named ≡ o →
    table_named change.name (named_after change o named) ≡ Some (table_after change o)
named_after_change change named None e =
    find-append (has_name change.name) named (created change ∷ [])
    ∙ (ap (λ (o : Option NamedTable). option_or o (find (has_name change.name) (created change ∷ []))) e
    ∙ ap (λ (same : Bool). cond same (Some (created change)) None) (nat_list_eq_equiv.refl (folded change.name)))
named_after_change change named (Some table) e =
    find-map (has_name change.name) (after_change change) (has_name-after_change change change.name) named
    ∙ (ap (option_map (after_change change)) e
    ∙ ap (λ (t : NamedTable). let o : Option NamedTable = Some t in o) (after_change-named change table (find-passes (has_name change.name) named table e)))

option_or-None : (o : Option NamedTable) → option_or o None ≡ o
option_or-None None = refl
option_or-None (Some table) = refl

-- another name finds what it found
others_after_change : (change : TableChange) (named : List NamedTable) (name : List ℕ) → folded name ≢ folded change.name → (o : Option NamedTable) →
    table_named change.name named ≡ o → table_named name (named_after change o named) ≡ table_named name named
others_after_change change named name differ None e =
    let other : bytes_eq (folded name) (folded change.name) ≡ false = not_same (folded name) (folded change.name) _ refl differ in
    find-append (has_name name) named (created change ∷ [])
    ∙ (ap (λ (same : Bool). option_or (find (has_name name) named) (cond same (Some (created change)) None)) other
    ∙ option_or-None (find (has_name name) named))
others_after_change change named name differ (Some table) e =
    find-map (has_name name) (after_change change) (has_name-after_change change name) named ∙ kept (find (has_name name) named) refl
  where
    kept : (o : Option NamedTable) → find (has_name name) named ≡ o → option_map (after_change change) o ≡ o
    kept None is = refl
    kept (Some one) is =
        let own : bytes_eq (folded name) (folded_name one) ≡ true = find-passes (has_name name) named one is in
        let apart : bytes_eq (folded name) (folded change.name) ≡ false = not_same (folded name) (folded change.name) _ refl differ in
        let other : bytes_eq (folded_name one) (folded change.name) ≡ false
        = sym (nat_list_eq_equiv.congr (folded name) (folded_name one) (folded change.name) own) ∙ apart in
        ap (λ (t : NamedTable). let o : Option NamedTable = Some t in o)
        (after_change-other change one (nat_list_eq_equiv.symm (folded change.name) (folded_name one) ∙ other))

pub changes_one_table : AChangeChangesOneTable
changes_one_table change tables =
    record {
      version = refl;
      named = named_after_change change tables.named (table_named change.name tables.named) refl;
      others = λ name differ. others_after_change change tables.named name differ (table_named change.name tables.named) refl;
    }

-- in tables that may stand together, a table is found by its name
found-distinct : (name : List ℕ) (named : List NamedTable) (i : ℕ) (d : NamedTable) → IsDistinct bytes_eq (map folded_name named) → i < length named →
    has_name name (get_or named i d) ≡ true → table_named name named ≡ Some (get_or named i d)
found-distinct name [] i d differ within is = absurd (omega arith)
found-distinct name (table ∷ named) zero d differ within is = ap (λ (here : Bool). cond here (Some table) (table_named name named)) is
found-distinct name (table ∷ named) (suc i) d differ within is =
    let later = differs_at table named i d (omega arith) (IsDistinct-head bytes_eq (folded_name table) (map folded_name named) differ) in
    let other = has_name-other name (get_or named i d) table is (nat_list_eq_equiv.symm (folded_name (get_or named i d)) (folded_name table) ∙ later) in
    ap (λ (here : Bool). cond here (Some table) (table_named name named)) other
    ∙ found-distinct name named i d (IsDistinct-tail bytes_eq (folded_name table) (map folded_name named) differ) (omega arith) is

pub name_finds_its_table : ANameFindsItsTable
name_finds_its_table tables name table stand = (
  λ found. (
    find-contains (has_name name) tables.named table found,
    sym (same_text (folded name) (folded_name table) (sym (find-passes (has_name name) tables.named table found))),
  ),
  λ h.
      let at : get_or tables.named h.0.0 table ≡ table = h.0.2 in
      let own : has_name name (get_or tables.named h.0.0 table) ≡ true
      = ap (has_name name) at ∙ has_name-folded name table h.1 in
      found-distinct name tables.named h.0.0 table stand.names_differ h.0.1 own
      ∙ ap (λ (t : NamedTable). let o : Option NamedTable = Some t in o) at,
)

true_not_false : (b : Bool) → b ≡ true → b ≡ false → ⊥
true_not_false b holds fails = cc

none_named : (name : List ℕ) (named : List NamedTable) → table_named name named ≡ None → All (λ table. folded table.name ≢ folded name) named
none_named name [] none = All-nil (λ (table : NamedTable). folded table.name ≢ folded name)
none_named name (table ∷ named) none = by (has_name name table) refl none (none_named name named)
  where
    by : (here : Bool) → has_name name table ≡ here → cond here (Some table) (table_named name named) ≡ None →
        (table_named name named ≡ None → All (λ t. folded t.name ≢ folded name) named) → All (λ t. folded t.name ≢ folded name) (table ∷ named)
    by true is e later = absurd (none-some table (sym e))
    by false is e later =
        All-cons (λ (t : NamedTable). folded t.name ≢ folded name) table named
        (λ same. true_not_false (has_name name table) (has_name-folded name table same) is) (later e)

none_found : (name : List ℕ) (named : List NamedTable) → All (λ table. folded table.name ≢ folded name) named → table_named name named ≡ None
none_found name [] differ = refl
none_found name (table ∷ named) differ =
    let head = All-head (λ (t : NamedTable). folded t.name ≢ folded name) table named differ in
    let tail = All-tail (λ (t : NamedTable). folded t.name ≢ folded name) table named differ in
    ap (λ (here : Bool). cond here (Some table) (table_named name named)) (not_same (folded name) (folded_name table) (has_name name table) refl (λ same. head (sym same)))
    ∙ none_found name named tail

pub absent_name_finds_none : AnAbsentNameFindsNone
absent_name_finds_none tables name = (none_named name tables.named, none_found name tables.named)
