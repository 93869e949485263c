-- Laws of objects, one for each kind: its bytes, what can be built of it, and that its numbers fit.
use Rattle.std.proofs.Common.{◌≡◌, ℕ, ◌≤◌, List, [], ◌∷◌, length, map, refl, sym, ap, ◌∙◌, subst}
use Rattle.std.specs.List.{All, AllByRecursion}
use Rattle.std.proofs.lemmas.List.Elements.{All-from_recursion, recursion_from_All}
use Rattle.flat_tables.specs.declared.object.FlatObject.{FlatObject}
use Rattle.flat_tables.specs.declared.object.FlatPair.{FlatPair}
use Rattle.flat_tables.specs.declared.object.FlatSlot.{FlatSlot}
use Rattle.flat_tables.specs.declared.object.FlatSlot.TheVariants.{Absent, U8, I16, I32, I64, Object}
use Rattle.flat_tables.specs.declared.object.FlatObject.TheVariants as V
use Rattle.flat_tables.specs.declared.object.FlatObject.TheOpen as O
use Rattle.flat_tables.specs.declared.object.FlatObject.TheOpen.{FlatObject-F}
use Rattle.flat_tables.specs.declared.object.FlatObject.TheViews.{out-FlatObject, roll-FlatObject, outs-Table, outs-Tables}
use Rattle.flat_tables.specs.declared.object.FlatObject.TheFolds.{fold-roll-FlatObject, map-FlatObject, every_here-FlatObject, every_held-FlatObject, every_made-FlatObject, every-FlatObject}
use Rattle.flat_tables.specs.Layout.{Block, block, block_step, table_block, tables_block, pairs_block, text_block, slot_map, IsTableLayer, IsTable, OnNamed, IsBuildable, Fits}
use Rattle.flat_tables.specs.Found.{NumberFits, NumbersFit, HasFittingNumbers}

unfoldable pub slots_in : {A : Type 0} → FlatObject-F A → List (FlatSlot A)
slots_in (O.Table slots) = slots
slots_in (O.Tables tables) = []
slots_in (O.Pairs pairs) = []
slots_in (O.Text text) = []

pub slots_of-map : {A B : Type 0} (f : A → B) (slots : List (FlatSlot A)) → slots_in (map-FlatObject A B f (O.Table slots)) ≡ map (slot_map f) slots
unfolding slots_in
slots_of-map f [] = refl
slots_of-map f (Absent ∷ slots) = ap (λ ss. Absent ∷ ss) (slots_of-map f slots)
slots_of-map f (U8 n ∷ slots) = ap (λ ss. U8 n ∷ ss) (slots_of-map f slots)
slots_of-map f (I16 z ∷ slots) = ap (λ ss. I16 z ∷ ss) (slots_of-map f slots)
slots_of-map f (I32 z ∷ slots) = ap (λ ss. I32 z ∷ ss) (slots_of-map f slots)
slots_of-map f (I64 z ∷ slots) = ap (λ ss. I64 z ∷ ss) (slots_of-map f slots)
slots_of-map f (Object o ∷ slots) = ap (λ ss. Object (f o) ∷ ss) (slots_of-map f slots)

slots_in-map : {A B : Type 0} (f : A → B) (x : FlatObject-F A) → slots_in (map-FlatObject A B f x) ≡ map (slot_map f) (slots_in x)
unfolding slots_in
slots_in-map f (O.Table slots) = slots_of-map f slots
slots_in-map f (O.Tables tables) = refl
slots_in-map f (O.Pairs pairs) = refl
slots_in-map f (O.Text text) = refl

block_roll : (x : FlatObject-F FlatObject) → block (roll-FlatObject x) ≡ block_step (map-FlatObject FlatObject Block block x)
unfolding block
block_roll x = fold-roll-FlatObject Block block_step x

pub block-Table : (slots : List (FlatSlot FlatObject)) → block (V.Table slots) ≡ table_block (map (slot_map block) slots)
unfolding slots_in
block-Table slots = ap block (sym (V.rolls-Table slots)) ∙ block_roll (O.Table slots) ∙ ap table_block (slots_of-map block slots)

pub block-Tables : (tables : List FlatObject) → block (V.Tables tables) ≡ tables_block (map block tables)
block-Tables tables = ap block (sym (V.rolls-Tables tables)) ∙ block_roll (O.Tables tables)

pub block-Pairs : (pairs : List FlatPair) → block (V.Pairs pairs) ≡ pairs_block pairs
block-Pairs pairs = ap block (sym (V.rolls-Pairs pairs)) ∙ block_roll (O.Pairs pairs)

pub block-Text : (text : List ℕ) → block (V.Text text) ≡ text_block text
block-Text text = ap block (sym (V.rolls-Text text)) ∙ block_roll (O.Text text)

-- ---- a fact of each layer

-- an object of which the fact holds, all the way down
abbrev Held : (FlatObject-F FlatObject → Type 0) → Type 0
Held Q = (o : FlatObject) × every-FlatObject Q o

tables_in : {A : Type 0} → FlatObject-F A → List A
tables_in (O.Table slots) = []
tables_in (O.Tables tables) = tables
tables_in (O.Pairs pairs) = []
tables_in (O.Text text) = []

tables_in-map : {A B : Type 0} (f : A → B) (x : FlatObject-F A) → tables_in (map-FlatObject A B f x) ≡ map f (tables_in x)
unfolding tables_in
tables_in-map f (O.Table slots) = refl
tables_in-map f (O.Tables tables) = refl
tables_in-map f (O.Pairs pairs) = refl
tables_in-map f (O.Text text) = refl

all_held : (Q : FlatObject-F FlatObject → Type 0) (hs : List (Held Q)) → AllByRecursion (every-FlatObject Q) (map (λ e. e.0) hs)
all_held Q [] = tt
all_held Q (h ∷ hs) = (h.1, all_held Q hs)

slots_held : (Q : FlatObject-F FlatObject → Type 0) (slots : List (FlatSlot (Held Q))) → AllByRecursion (OnNamed (every-FlatObject Q)) (map (slot_map (λ e. e.0)) slots)
slots_held Q [] = tt
slots_held Q (Absent ∷ slots) = (tt, slots_held Q slots)
slots_held Q (U8 n ∷ slots) = (tt, slots_held Q slots)
slots_held Q (I16 z ∷ slots) = (tt, slots_held Q slots)
slots_held Q (I32 z ∷ slots) = (tt, slots_held Q slots)
slots_held Q (I64 z ∷ slots) = (tt, slots_held Q slots)
slots_held Q (Object h ∷ slots) = (h.1, slots_held Q slots)

pub every_in_tables : (Q : FlatObject-F FlatObject → Type 0) (tables : List FlatObject) → every-FlatObject Q (V.Tables tables) → All (every-FlatObject Q) tables
unfolding tables_in
every_in_tables Q tables h = All-from_recursion (every-FlatObject Q) tables (subst (AllByRecursion (every-FlatObject Q)) same (all_held Q (tables_in held.0)))
  where
    held : (y : FlatObject-F (Held Q)) × (map-FlatObject (Held Q) FlatObject (λ e. e.0) y ≡ out-FlatObject (V.Tables tables))
    held = every_held-FlatObject Q (V.Tables tables) h

    same : map (λ e. e.0) (tables_in held.0) ≡ tables
    same = sym (tables_in-map (λ e. e.0) held.0) ∙ ap tables_in (held.1 ∙ outs-Tables tables)

pub every_in_slots : (Q : FlatObject-F FlatObject → Type 0) (slots : List (FlatSlot FlatObject)) → every-FlatObject Q (V.Table slots) → All (OnNamed (every-FlatObject Q)) slots
unfolding slots_in
every_in_slots Q slots h = All-from_recursion (OnNamed (every-FlatObject Q)) slots (subst (AllByRecursion (OnNamed (every-FlatObject Q))) same (slots_held Q (slots_in held.0)))
  where
    held : (y : FlatObject-F (Held Q)) × (map-FlatObject (Held Q) FlatObject (λ e. e.0) y ≡ out-FlatObject (V.Table slots))
    held = every_held-FlatObject Q (V.Table slots) h

    same : map (slot_map (λ e. e.0)) (slots_in held.0) ≡ slots
    same = sym (slots_in-map (λ e. e.0) held.0) ∙ ap slots_in (held.1 ∙ outs-Table slots)

-- ---- what can be built

pub slots_are_few : (slots : List (FlatSlot FlatObject)) → IsBuildable (V.Table slots) → length slots ≤ 4096
unfolding IsBuildable
slots_are_few slots h = subst Fits (outs-Table slots) (every_here-FlatObject Fits (V.Table slots) h)

pub slots_are_buildable : (slots : List (FlatSlot FlatObject)) → IsBuildable (V.Table slots) → All (OnNamed IsBuildable) slots
unfolding IsBuildable
slots_are_buildable slots h = every_in_slots Fits slots h

pub tables_are_tables : (tables : List FlatObject) → IsBuildable (V.Tables tables) → All IsTable tables
unfolding IsBuildable
tables_are_tables tables h = subst Fits (outs-Tables tables) (every_here-FlatObject Fits (V.Tables tables) h)

pub tables_are_buildable : (tables : List FlatObject) → IsBuildable (V.Tables tables) → All IsBuildable tables
unfolding IsBuildable
tables_are_buildable tables h = every_in_tables Fits tables h

-- ---- the numbers of an object

pub numbers_here : (slots : List (FlatSlot FlatObject)) → HasFittingNumbers (V.Table slots) → All NumberFits slots
unfolding HasFittingNumbers
numbers_here slots h = subst NumbersFit (outs-Table slots) (every_here-FlatObject NumbersFit (V.Table slots) h)

pub numbers_in_slots : (slots : List (FlatSlot FlatObject)) → HasFittingNumbers (V.Table slots) → All (OnNamed HasFittingNumbers) slots
unfolding HasFittingNumbers
numbers_in_slots slots h = every_in_slots NumbersFit slots h

pub numbers_in_tables : (tables : List FlatObject) → HasFittingNumbers (V.Tables tables) → All HasFittingNumbers tables
unfolding HasFittingNumbers
numbers_in_tables tables h = every_in_tables NumbersFit tables h

-- ---- making the facts

attach_tables : (Q : FlatObject-F FlatObject → Type 0) (tables : List FlatObject) → AllByRecursion (every-FlatObject Q) tables → List (Held Q)
attach_tables Q [] h = []
attach_tables Q (o ∷ os) h = (o, h.0) ∷ attach_tables Q os h.1

attached_tables : (Q : FlatObject-F FlatObject → Type 0) (tables : List FlatObject) (h : AllByRecursion (every-FlatObject Q) tables) → map (λ e. e.0) (attach_tables Q tables h) ≡ tables
unfolding attach_tables
attached_tables Q [] h = refl
attached_tables Q (o ∷ os) h = ap (λ ts. o ∷ ts) (attached_tables Q os h.1)

attach_slots : (Q : FlatObject-F FlatObject → Type 0) (slots : List (FlatSlot FlatObject)) → AllByRecursion (OnNamed (every-FlatObject Q)) slots → List (FlatSlot (Held Q))
attach_slots Q [] h = []
attach_slots Q (Absent ∷ slots) h = Absent ∷ attach_slots Q slots h.1
attach_slots Q (U8 n ∷ slots) h = U8 n ∷ attach_slots Q slots h.1
attach_slots Q (I16 z ∷ slots) h = I16 z ∷ attach_slots Q slots h.1
attach_slots Q (I32 z ∷ slots) h = I32 z ∷ attach_slots Q slots h.1
attach_slots Q (I64 z ∷ slots) h = I64 z ∷ attach_slots Q slots h.1
attach_slots Q (Object o ∷ slots) h = Object (o, h.0) ∷ attach_slots Q slots h.1

attached_slots : (Q : FlatObject-F FlatObject → Type 0) (slots : List (FlatSlot FlatObject)) (h : AllByRecursion (OnNamed (every-FlatObject Q)) slots) → map (slot_map (λ e. e.0)) (attach_slots Q slots h) ≡ slots
unfolding attach_slots
attached_slots Q [] h = refl
attached_slots Q (Absent ∷ slots) h = ap (λ ss. Absent ∷ ss) (attached_slots Q slots h.1)
attached_slots Q (U8 n ∷ slots) h = ap (λ ss. U8 n ∷ ss) (attached_slots Q slots h.1)
attached_slots Q (I16 z ∷ slots) h = ap (λ ss. I16 z ∷ ss) (attached_slots Q slots h.1)
attached_slots Q (I32 z ∷ slots) h = ap (λ ss. I32 z ∷ ss) (attached_slots Q slots h.1)
attached_slots Q (I64 z ∷ slots) h = ap (λ ss. I64 z ∷ ss) (attached_slots Q slots h.1)
attached_slots Q (Object o ∷ slots) h = ap (λ ss. Object o ∷ ss) (attached_slots Q slots h.1)

every_made_Table : (Q : FlatObject-F FlatObject → Type 0) (slots : List (FlatSlot FlatObject)) → Q (O.Table slots) → All (OnNamed (every-FlatObject Q)) slots → every-FlatObject Q (V.Table slots)
unfolding slots_in
every_made_Table Q slots q all = subst (every-FlatObject Q) (V.rolls-Table slots) (every_made-FlatObject Q (O.Table slots) (O.Table held) (ap (λ ss. O.Table ss) (slots_of-map (λ e. e.0) held ∙ attached_slots Q slots each)) q)
  where
    each : AllByRecursion (OnNamed (every-FlatObject Q)) slots
    each = recursion_from_All (OnNamed (every-FlatObject Q)) slots all

    held : List (FlatSlot (Held Q))
    held = attach_slots Q slots each

every_made_Tables : (Q : FlatObject-F FlatObject → Type 0) (tables : List FlatObject) → Q (O.Tables tables) → All (every-FlatObject Q) tables → every-FlatObject Q (V.Tables tables)
every_made_Tables Q tables q all = subst (every-FlatObject Q) (V.rolls-Tables tables) (every_made-FlatObject Q (O.Tables tables) (O.Tables held) (ap (λ ts. O.Tables ts) (attached_tables Q tables each)) q)
  where
    each : AllByRecursion (every-FlatObject Q) tables
    each = recursion_from_All (every-FlatObject Q) tables all

    held : List (Held Q)
    held = attach_tables Q tables each

every_made_Pairs : (Q : FlatObject-F FlatObject → Type 0) (pairs : List FlatPair) → Q (O.Pairs pairs) → every-FlatObject Q (V.Pairs pairs)
every_made_Pairs Q pairs q = subst (every-FlatObject Q) (V.rolls-Pairs pairs) (every_made-FlatObject Q (O.Pairs pairs) (O.Pairs pairs) refl q)

every_made_Text : (Q : FlatObject-F FlatObject → Type 0) (text : List ℕ) → Q (O.Text text) → every-FlatObject Q (V.Text text)
every_made_Text Q text q = subst (every-FlatObject Q) (V.rolls-Text text) (every_made-FlatObject Q (O.Text text) (O.Text text) refl q)

pub IsTable-Table : (slots : List (FlatSlot FlatObject)) → IsTable (V.Table slots)
IsTable-Table slots = subst IsTableLayer (sym (outs-Table slots)) tt

pub IsBuildable-Table : (slots : List (FlatSlot FlatObject)) → length slots ≤ 4096 → All (OnNamed IsBuildable) slots → IsBuildable (V.Table slots)
unfolding IsBuildable
IsBuildable-Table slots few all = every_made_Table Fits slots few all

pub IsBuildable-Tables : (tables : List FlatObject) → All IsTable tables → All IsBuildable tables → IsBuildable (V.Tables tables)
unfolding IsBuildable
IsBuildable-Tables tables each all = every_made_Tables Fits tables each all

pub IsBuildable-Pairs : (pairs : List FlatPair) → IsBuildable (V.Pairs pairs)
unfolding IsBuildable
IsBuildable-Pairs pairs = every_made_Pairs Fits pairs tt

pub IsBuildable-Text : (text : List ℕ) → IsBuildable (V.Text text)
unfolding IsBuildable
IsBuildable-Text text = every_made_Text Fits text tt

pub HasFittingNumbers-Table : (slots : List (FlatSlot FlatObject)) → All NumberFits slots → All (OnNamed HasFittingNumbers) slots → HasFittingNumbers (V.Table slots)
unfolding HasFittingNumbers
HasFittingNumbers-Table slots fit all = every_made_Table NumbersFit slots fit all

pub HasFittingNumbers-Tables : (tables : List FlatObject) → All HasFittingNumbers tables → HasFittingNumbers (V.Tables tables)
unfolding HasFittingNumbers
HasFittingNumbers-Tables tables all = every_made_Tables NumbersFit tables tt all

pub HasFittingNumbers-Pairs : (pairs : List FlatPair) → HasFittingNumbers (V.Pairs pairs)
unfolding HasFittingNumbers
HasFittingNumbers-Pairs pairs = every_made_Pairs NumbersFit pairs tt

pub HasFittingNumbers-Text : (text : List ℕ) → HasFittingNumbers (V.Text text)
unfolding HasFittingNumbers
HasFittingNumbers-Text text = every_made_Text NumbersFit text tt
