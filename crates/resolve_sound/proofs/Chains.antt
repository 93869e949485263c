-- What holds of what a chain of checks answers.
use Rattle.std.proofs.Common.{◌≡◌, Bool, true, false, cond, List, [], ◌∷◌, map, refl, Option, Some, None}
use Rattle.std.specs.Prelude.{All, IfOk, IfSome, Ok, Err, find, if◌then◌else◌}
use Rattle.std.proofs.lemmas.List.Elements.{All-cons, All-head, All-nil, All-tail}
use Rattle.std.proofs.lemmas.Result.{IfOk-at_ok}
use Rattle.resolve_names.specs.Checks.{Checked, ◌>>=◌, or_refused}
use Rattle.resolve_names.specs.Refusals.{Refusal}
use Rattle.resolve_types.specs.Calls.{unless}
use Rattle.resolve_expressions.specs.Grouping.{all_checked}

-- of what comes behind a check, where it is known what the check answered
pub then_holds : {A B : Type 0} (P : B → Type 0) (o : Checked A) (k : A → Checked B) → ((x : A) → o ≡ Ok x → IfOk (k x) P) →
    IfOk (o >>= k) P
then_holds P (Ok x) k h = h x refl
then_holds P (Err stop) k h = tt

pub from_ok : {A : Type 0} (P : A → Type 0) (o : Checked A) → ((x : A) → o ≡ Ok x → P x) → IfOk o P
from_ok P (Ok x) h = h x refl
from_ok P (Err stop) h = tt

pub there : {A : Type 0} (P : A → Type 0) (why : Refusal) (o : Option A) → IfSome o P → IfOk (or_refused why o) P
there P why (Some x) h = h
there P why None h = tt

pub unless_false : (P : Type 0) (b : Bool) (why : Refusal) → (b ≡ false → P) → IfOk (unless b why) (λ u. P)
unless_false P true why h = tt
unless_false P false why h = h refl

pub either_way : {A : Type 0} (P : A → Type 0) (b : Bool) (x y : Checked A) → IfOk x P → IfOk y P → IfOk (if b then x else y) P
either_way P true x y h k = h
either_way P false x y h k = k

-- of each of a list of checks
pub all_hold : {A B : Type 0} (P : B → Type 0) (f : A → Checked B) → ((x : A) → IfOk (f x) P) → (xs : List A) →
    IfOk (all_checked (map f xs)) (All P)
all_hold P f h [] = All-nil P
all_hold P f h (x ∷ xs) =
    then_holds (All P) (f x) _ (λ y is.
    then_holds (All P) (all_checked (map f xs)) _ (λ ys are.
    All-cons P y ys (IfOk-at_ok P is (h x)) (IfOk-at_ok (All P) are (all_hold P f h xs))))

-- the same, where something is known of what is checked
pub all_hold_of : {A B : Type 0} (P : A → Type 0) (Q : B → Type 0) (f : A → Checked B) → ((x : A) → P x → IfOk (f x) Q) → (xs : List A) →
    All P xs →
    IfOk (all_checked (map f xs)) (All Q)
all_hold_of P Q f h [] all = All-nil Q
all_hold_of P Q f h (x ∷ xs) all =
    then_holds (All Q) (f x) _ (λ y is.
    then_holds (All Q) (all_checked (map f xs)) _ (λ ys are.
    All-cons Q y ys (IfOk-at_ok Q is (h x (All-head P x xs all))) (IfOk-at_ok (All Q) are (all_hold_of P Q f h xs (All-tail P x xs all)))))

-- what is found is one of the list
first_or : {A : Type 0} (P : A → Type 0) (b : Bool) (x : A) (rest : Option A) → P x → IfSome rest P → IfSome (cond b (Some x) rest) P
first_or P true x rest h k = h
first_or P false x rest h k = k

pub found_holds : {A : Type 0} (P : A → Type 0) (test : A → Bool) (xs : List A) → All P xs → IfSome (find test xs) P
found_holds P test [] all = tt
found_holds P test (x ∷ xs) all = first_or P (test x) x (find test xs) (All-head P x xs all) (found_holds P test xs (All-tail P x xs all))
