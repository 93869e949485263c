-- The places of a plan's relations, in the order in which they are resolved: those of the inputs first, from left to right.
use Rattle.std.proofs.Common.{◌≡◌, ◌≢◌, ℕ, zero, suc, ◌+◌, ◌<◌, ◌≤◌, List, [], ◌∷◌, ◌++◌, length, drop, Option, None, Some, refl, sym, ap, subst, ◌∙◌, arith}
use Rattle.std.proofs.Math.Seq.{drop-append_seam}
use Rattle.std.proofs.lemmas.List.{append_assoc, length-append}
use Rattle.std.specs.Prelude.{IfSome, get_or, option_map}
use Rattle.std.specs.List.{AllByRecursion}
use Rattle.relation_members.specs.Inputs.{first_of, second_of}
use Rattle.relation_messages.specs.declared.relation.Relation.{Relation}
use Rattle.relation_messages.specs.declared.relation.Relation.TheOpen.{Relation-F}
use Rattle.relation_messages.specs.declared.relation.Relation.TheViews.{out-Relation, roll-out-Relation}
use Rattle.relation_messages.specs.declared.relation.Relation.TheFolds.{fold-Relation, fold-roll-Relation, map-Relation}
use Rattle.relation_messages.proofs.Folds.{mapped_first, mapped_second}
use Rattle.plan_resolve.specs.Walk.{Path}
use Rattle.plan_resolve.proofs.Distinct.{IsOther, NoTwice, Apart, all_append, apart_append, no_twice_append}
use Rattle.plan_resolve.proofs.Induction.{by_inputs}

abbrev pub Places : Type 0
Places = Path → List Path

abbrev pub input_places : Path → Option Places → List Path
input_places path (Some input) = input path
input_places path None = []

abbrev pub places_step : Relation-F Places → Places
places_step relation path = input_places (0 ∷ path) (first_of relation.member) ++ (input_places (1 ∷ path) (second_of relation.member) ++ path ∷ [])

unfoldable pub places : Relation → Places
places = fold-Relation Places places_step

-- ---- by the inputs

abbrev pub places_in : Path → Option Relation → List Path
places_in path (Some input) = places input path
places_in path None = []

abbrev pub first_places : Relation → Path → List Path
first_places relation path = places_in (0 ∷ path) (first_of (out-Relation relation).member)

abbrev pub second_places : Relation → Path → List Path
second_places relation path = places_in (1 ∷ path) (second_of (out-Relation relation).member)

mapped_places : (path : Path) (input : Option Relation) → input_places path (option_map places input) ≡ places_in path input
mapped_places path (Some input) = refl
mapped_places path None = refl

pub places_are : (relation : Relation) (path : Path) → places relation path ≡ first_places relation path ++ (second_places relation path ++ path ∷ [])
unfolding places
places_are relation path =
    let layer = out-Relation relation in
    ap (λ (r : Relation). places r path) (sym (roll-out-Relation relation))
    ∙ ap (λ (f : Places). f path) (fold-roll-Relation Places places_step layer)
    ∙ ap (λ (o : Option Places). input_places (0 ∷ path) o ++ (input_places (1 ∷ path) (second_of (map-Relation Relation Places places layer).member) ++ path ∷ [])) (mapped_first places layer.common layer.member)
    ∙ ap (λ (l : List Path). l ++ (input_places (1 ∷ path) (second_of (map-Relation Relation Places places layer).member) ++ path ∷ [])) (mapped_places (0 ∷ path) (first_of layer.member))
    ∙ ap (λ (o : Option Places). first_places relation path ++ (input_places (1 ∷ path) o ++ path ∷ [])) (mapped_second places layer.common layer.member)
    ∙ ap (λ (l : List Path). first_places relation path ++ (l ++ path ∷ [])) (mapped_places (1 ∷ path) (second_of layer.member))

-- ---- below a place

-- a way that begins with this one: its last steps stand before
pub record IsBelow (path other : Path) : Type 0 where
  pub steps : List ℕ
  pub is : other ≡ steps ++ path

below_step : (step : ℕ) (path other : Path) → IsBelow (step ∷ path) other → IsBelow path other
below_step step path other below = record { steps = below.steps ++ step ∷ []; is = below.is ∙ sym (append_assoc below.steps (step ∷ []) path) }

all_below_step : (step : ℕ) (path : Path) (others : List Path) → AllByRecursion (IsBelow (step ∷ path)) others → AllByRecursion (IsBelow path) others
all_below_step step path [] all = tt
all_below_step step path (other ∷ others) all = (below_step step path other all.0, all_below_step step path others all.1)

abbrev AllBelow : Relation → Type 0
AllBelow relation = (path : Path) → AllByRecursion (IsBelow path) (places relation path)

in_below : (path : Path) (input : Option Relation) → IfSome input AllBelow → AllByRecursion (IsBelow path) (places_in path input)
in_below path (Some input) held = held path
in_below path None held = tt

pub all_below : (relation : Relation) (path : Path) → AllByRecursion (IsBelow path) (places relation path)
all_below = by_inputs AllBelow (λ relation first second path.
    subst (AllByRecursion (IsBelow path)) (sym (places_are relation path))
    (all_append (IsBelow path) (first_places relation path) (second_places relation path ++ path ∷ [])
    (all_below_step 0 path (first_places relation path) (in_below (0 ∷ path) (first_of (out-Relation relation).member) first))
    (all_append (IsBelow path) (second_places relation path) (path ∷ [])
    (all_below_step 1 path (second_places relation path) (in_below (1 ∷ path) (second_of (out-Relation relation).member) second))
    (record { steps = []; is = refl }, tt))))

-- ---- no place stands twice

same_head : (a b : ℕ) (left right : List ℕ) → a ∷ left ≡ b ∷ right → a ≡ b
same_head a b left right is = ap (λ (l : List ℕ). get_or l 0 0) is

zero_is_no_one : ◌≡◌ {A = ℕ} 0 1 → ⊥
zero_is_no_one same = omega (arith, same)

-- the same steps on two ways that part are never the same
apart_steps : (left right : List ℕ) (path : Path) → left ++ 0 ∷ path ≡ right ++ 1 ∷ path → ⊥
apart_steps left right path is =
    let long : length left + suc (length path) ≡ length right + suc (length path) = sym (length-append left (0 ∷ path)) ∙ ap length is ∙ length-append right (1 ∷ path) in
    let as_long : length left ≡ length right = omega arith in
    let ends : 0 ∷ path ≡ 1 ∷ path = sym (drop-append_seam left (0 ∷ path)) ∙ ap (drop (length left)) is ∙ ap (λ (n : ℕ). drop n (right ++ 1 ∷ path)) as_long ∙ drop-append_seam right (1 ∷ path) in
    absurd (zero_is_no_one (same_head 0 1 path path ends))

other_sides : (path one other : Path) → IsBelow (0 ∷ path) one → IsBelow (1 ∷ path) other → one ≢ other
other_sides path one other left right is = apart_steps left.steps right.steps path (sym left.is ∙ is ∙ right.is)

not_itself : (step : ℕ) (path one : Path) → IsBelow (step ∷ path) one → one ≢ path
not_itself step path one below is =
    let long : length path ≡ length below.steps + suc (length path) = ap length (sym is ∙ below.is) ∙ length-append below.steps (step ∷ path) in absurd (omega arith)

all_other : (P Q : Path → Type 0) (R : (x y : Path) → P x → Q y → x ≢ y) (x : Path) → P x → (ys : List Path) → AllByRecursion Q ys → AllByRecursion (IsOther x) ys
all_other P Q R x px [] all = tt
all_other P Q R x px (y ∷ ys) all = (R x y px all.0, all_other P Q R x px ys all.1)

all_apart : (P Q : Path → Type 0) (R : (x y : Path) → P x → Q y → x ≢ y) (xs ys : List Path) → AllByRecursion P xs → AllByRecursion Q ys → Apart xs ys
all_apart P Q R [] ys one other = tt
all_apart P Q R (x ∷ xs) ys one other = (all_other P Q R x one.0 ys other, all_apart P Q R xs ys one.1 other)

abbrev Is : Path → Path → Type 0
Is path other = other ≡ path

abbrev NeverTwice : Relation → Type 0
NeverTwice relation = (path : Path) → NoTwice (places relation path)

in_once : (path : Path) (input : Option Relation) → IfSome input NeverTwice → NoTwice (places_in path input)
in_once path (Some input) held = held path
in_once path None held = tt

below_input : (path : Path) (input : Option Relation) → AllByRecursion (IsBelow path) (places_in path input)
below_input path (Some input) = all_below input path
below_input path None = tt

apart_from_own : (step : ℕ) (path : Path) (x y : Path) → IsBelow (step ∷ path) x → Is path y → x ≢ y
apart_from_own step path x y below own is = not_itself step path x below (is ∙ own)

pub no_place_twice : (relation : Relation) (path : Path) → NoTwice (places relation path)
no_place_twice = by_inputs NeverTwice (λ relation first second path.
    let left = below_input (0 ∷ path) (first_of (out-Relation relation).member) in
    let right = below_input (1 ∷ path) (second_of (out-Relation relation).member) in
    let own : AllByRecursion (Is path) (path ∷ []) = (refl, tt) in
    let later : NoTwice (second_places relation path ++ path ∷ []) =
    no_twice_append (second_places relation path) (path ∷ []) (in_once (1 ∷ path) (second_of (out-Relation relation).member) second) (tt, tt)
    (all_apart (IsBelow (1 ∷ path)) (Is path) (apart_from_own 1 path) (second_places relation path) (path ∷ []) right own) in
    subst NoTwice (sym (places_are relation path))
    (no_twice_append (first_places relation path) (second_places relation path ++ path ∷ []) (in_once (0 ∷ path) (first_of (out-Relation relation).member) first) later
    (apart_append (first_places relation path) (second_places relation path) (path ∷ [])
    (all_apart (IsBelow (0 ∷ path)) (IsBelow (1 ∷ path)) (other_sides path) (first_places relation path) (second_places relation path) left right)
    (all_apart (IsBelow (0 ∷ path)) (Is path) (apart_from_own 0 path) (first_places relation path) (path ∷ []) left own))))
