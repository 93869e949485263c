-- Whether an object can be built, one kind of object at a time.
use Rattle.std.proofs.Common.{◌≡◌, ℕ, ◌+◌, ◌<◌, ◌≤◌, List, length, take, get_or, arith, refl, sym, subst}
use Rattle.std.specs.Prelude.{Bool, true, false, IsTrue, nat_le, ◌↔◌}
use Rattle.std.specs.List.{All}
use Rattle.std.proofs.lemmas.List.Elements.{All-more}
use Rattle.std.proofs.lemmas.List.{take_all}
use Rattle.flat_tables.specs.declared.object.FlatObject.{FlatObject}
use Rattle.flat_tables.specs.declared.object.FlatObject.TheVariants as V
use Rattle.flat_tables.specs.declared.object.FlatPair.{FlatPair}
use Rattle.flat_tables.specs.declared.object.FlatSlot.{FlatSlot}
use Rattle.flat_tables.specs.declared.object.FlatSlot.TheVariants.{Absent, U8, I16, I32, I64, Object}
use Rattle.flat_tables.specs.Layout.{IsTable, IsBuildable, OnNamed}
use Rattle.flat_tables.specs.ObjectLaws.{slots_are_few, slots_are_buildable, tables_are_tables, tables_are_buildable, IsBuildable-Table, IsBuildable-Tables, IsBuildable-Pairs, IsBuildable-Text}

pub no_false : {P : Type 0} → IsTrue false → P
no_false h = absurd (let e : false ≡ true = h in cc)

pub checked_Table : (o : FlatObject) (slots xs : List (FlatSlot FlatObject)) (n : ℕ) (r : Bool) → o ≡ V.Table slots → xs ≡ slots → n ≡ length slots → n ≤ 4096 → (IsTrue r ↔ All (OnNamed IsBuildable) xs) → IsTrue r ↔ IsBuildable o
checked_Table o slots xs n r e f size few h = (
  (λ y. subst IsBuildable (sym e) (IsBuildable-Table slots (omega (arith, few, size)) (subst (All (OnNamed IsBuildable)) f (h.0 y)))),
  λ y. h.1 (subst (All (OnNamed IsBuildable)) (sym f) (slots_are_buildable slots (subst IsBuildable e y))),
)

pub too_many : (o : FlatObject) (slots : List (FlatSlot FlatObject)) (n : ℕ) → o ≡ V.Table slots → n ≡ length slots → 4096 < n → IsTrue (nat_le n 4096) ↔ IsBuildable o
too_many o slots n e size many =
    let is : nat_le n 4096 ≡ false = above n many in (
      (λ y. no_false (subst IsTrue is y)),
      λ y. let few : length slots ≤ 4096 = slots_are_few slots (subst IsBuildable e y) in absurd (omega arith),
    )
  where
    above : (n : ℕ) → 4096 < n → nat_le n 4096 ≡ false
    above n h = grind arith

pub checked_Tables : (o : FlatObject) (tables xs : List FlatObject) (r : Bool) → o ≡ V.Tables tables → xs ≡ tables → (IsTrue r ↔ (All IsTable xs × All IsBuildable xs)) → IsTrue r ↔ IsBuildable o
checked_Tables o tables xs r e f h = (
  (λ y. subst IsBuildable (sym e) (IsBuildable-Tables tables (subst (All IsTable) f (h.0 y).0) (subst (All IsBuildable) f (h.0 y).1))),
  λ y. h.1 (subst (All IsTable) (sym f) (tables_are_tables tables (subst IsBuildable e y)), subst (All IsBuildable) (sym f) (tables_are_buildable tables (subst IsBuildable e y))),
)

pub checked_Pairs : (o : FlatObject) (pairs : List FlatPair) → o ≡ V.Pairs pairs → IsTrue true ↔ IsBuildable o
checked_Pairs o pairs e = ((λ _. subst IsBuildable (sym e) (IsBuildable-Pairs pairs)), λ _. refl)

pub checked_Text : (o : FlatObject) (text : List ℕ) → o ≡ V.Text text → IsTrue true ↔ IsBuildable o
checked_Text o text e = ((λ _. subst IsBuildable (sym e) (IsBuildable-Text text)), λ _. refl)

-- ---- items one after another

pub more : {X : Type 0} (P : X → Type 0) (xs : List X) (i : ℕ) (x : X) → i < length xs → x ≡ get_or xs i x → P x → All P (take i xs) → All P (take (i + 1) xs)
more P xs i x l is p all = All-more P xs i x l all (subst P is p)

pub all_of : {X : Type 0} (P : X → Type 0) (xs : List X) (i : ℕ) → length xs ≤ i → All P (take i xs) → All P xs
all_of P xs i l all = subst (All P) (take_all i xs l) all

pub at_item : {X : Type 0} (P : X → Type 0) (xs : List X) (i : ℕ) (x : X) → i < length xs → x ≡ get_or xs i x → All P xs → P x
at_item P xs i x l is all = subst P (sym is) (all i x l)

-- a slot that names no object
pub plain_slot : (slot : FlatSlot FlatObject) → ((x : FlatObject) → slot ≡ Object x → ⊥) → OnNamed IsBuildable slot
plain_slot Absent no_object = tt
plain_slot (U8 n) no_object = tt
plain_slot (I16 z) no_object = tt
plain_slot (I32 z) no_object = tt
plain_slot (I64 z) no_object = tt
plain_slot (Object o) no_object = absurd (no_object o refl)
