-- Tests of bytes, as facts, and steps that found something.
use Rattle.std.proofs.Common.{◌≡◌, ◌≢◌, ℕ, Bool, true, false, cond, List, [], ◌∷◌, ◌++◌, refl, sym, ap, ◌∙◌, Option, Some, None, ◌⊎◌, inl, inr}
use Rattle.std.specs.Prelude.{option_map, option_and_then}
use Rattle.std.proofs.lemmas.Bool.{false≢true}
use Rattle.std.proofs.lemmas.List.Elements.{All-head, All-tail}
use Rattle.httparse.specs.Grammar.{AllPass}

-- no byte of the list is this one
pub data LacksByte (stop : ℕ) : List ℕ → Type 0 where
  none : LacksByte stop []
  other : {b : ℕ} {bytes : List ℕ} → b ≢ stop → LacksByte stop bytes → LacksByte stop (b ∷ bytes)

pub LacksByte-AllPass : (test : ℕ → Bool) (stop : ℕ) → test stop ≡ false → (bytes : List ℕ) → AllPass test bytes → LacksByte stop bytes
LacksByte-AllPass test stop fails [] pass = none
LacksByte-AllPass test stop fails (b ∷ bytes) pass =
    let passes : test b ≡ true = All-head (λ v. test v ≡ true) b bytes pass in
    let differs : b ≢ stop = λ e. false≢true (sym fails ∙ sym (ap test e) ∙ passes) in
    other differs (LacksByte-AllPass test stop fails bytes (All-tail (λ v. test v ≡ true) b bytes pass))

pub LacksByte-append : (stop : ℕ) (front back : List ℕ) → LacksByte stop front → LacksByte stop back → LacksByte stop (front ++ back)
LacksByte-append stop [] back first second = second
LacksByte-append stop (b ∷ front) back (other differs first) second = other differs (LacksByte-append stop front back first second)

-- a step that found something found it in what the step before it found
pub found_after : {A B : Type 0} (o : Option A) (f : A → Option B) (y : B) → option_and_then f o ≡ Some y → (x : A) × (o ≡ Some x) × (f x ≡ Some y)
found_after None f y e = absurd (cc)
found_after (Some x) f y e = (x, refl, e)

pub found_map : {A B : Type 0} (o : Option A) (f : A → B) (y : B) → option_map f o ≡ Some y → (x : A) × (o ≡ Some x) × (f x ≡ y)
found_map None f y e = absurd (cc)
found_map (Some x) f y e = (x, refl, cc)

-- a choice that found something, by how its test went
pub chosen : {A : Type 0} (b : Bool) (x y z : A) → cond b x y ≡ z → ((b ≡ true) × (x ≡ z)) ⊎ ((b ≡ false) × (y ≡ z))
chosen true x y z e = inl (refl, e)
chosen false x y z e = inr (refl, e)
