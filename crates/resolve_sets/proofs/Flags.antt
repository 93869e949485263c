-- Which columns are partners, by flags.
use Rattle.std.proofs.Common.{◌≡◌, ℕ, zero, suc, ◌+◌, ◌<◌, ◌≤◌, List, [], ◌∷◌, ◌++◌, map, length, get_or, take, drop, set, refl, sym, ap, ◌∙◌, append_assoc, add-one, arith}
use Rattle.std.specs.Prelude.{◌||◌, not, Bool, true, false, cond, if◌then◌else◌, filter, Option, Some, None}
use Rattle.std.specs.List.{list_any}
use Rattle.std.proofs.Math.Bool.{or-false, or-true}
use Rattle.std.proofs.Math.ListN.{drop_of_length-le}
use Rattle.std.proofs.lemmas.Bool.{eq-eqb, ne_eqb}
use Rattle.std.proofs.lemmas.List.{append-nil, take_all, take_more}
use Rattle.std.proofs.lemmas.List.Folds.{list_any-append}
use Rattle.resolve_expressions.proofs.Gathering.{drop_next}
use Rattle.resolve_relations.specs.Columns.{numbered, numbered_from}
use Rattle.resolve_relations.specs.Keeping.{its_place}
use Rattle.resolve_sets.specs.Aligning.{is_place}
use Rattle.resolve_sets.specs.Flags.{free_from, is_taken, marked}

-- ---- a partner more

taken-more : (partners : List (Option ℕ)) (one : Option ℕ) (place : ℕ) →
    list_any (is_place place) (partners ++ one ∷ []) ≡ (list_any (is_place place) partners || is_place place one)
taken-more partners one place =
    list_any-append (is_place place) partners (one ∷ [])
    ∙ ap (λ (b : Bool). list_any (is_place place) partners || b) (or-false (is_place place one))

taken-not : (partners : List (Option ℕ)) (one : Option ℕ) (place : ℕ) → is_place place one ≡ false →
    list_any (is_place place) (partners ++ one ∷ []) ≡ list_any (is_place place) partners
taken-not partners one place other =
    taken-more partners one place
    ∙ ap (λ (b : Bool). list_any (is_place place) partners || b) other
    ∙ or-false (list_any (is_place place) partners)

taken-now : (partners : List (Option ℕ)) (one : Option ℕ) (place : ℕ) → is_place place one ≡ true →
    list_any (is_place place) (partners ++ one ∷ []) ≡ true
taken-now partners one place same =
    taken-more partners one place
    ∙ ap (λ (b : Bool). list_any (is_place place) partners || b) same
    ∙ or-true (list_any (is_place place) partners)

module _ {X : Type 0} (partners : List (Option ℕ)) where
  abbrev flags_with : List (Option ℕ) → ℕ → List X → List Bool
  flags_with some from xs = numbered_from (is_taken some) from xs

  -- a partner that stands before these columns, or is none, sets no flag of theirs
  mark-past : (one : Option ℕ) (from : ℕ) (xs : List X) → ((n : ℕ) → from ≤ n → is_place n one ≡ false) →
      flags_with (partners ++ one ∷ []) from xs ≡ flags_with partners from xs
  mark-past one from [] others = refl
  mark-past one from (x ∷ xs) others =
      ap (λ (b : Bool). b ∷ flags_with (partners ++ one ∷ []) (suc from) xs) (taken-not partners one from (others from (omega arith)))
      ∙ ap (λ (l : List Bool). list_any (is_place from) partners ∷ l) (mark-past one (suc from) xs (λ n h. others n (omega arith)))

  mark-at : (p from k : ℕ) (xs : List X) → p ≡ from + k → set (flags_with partners from xs) k true ≡ flags_with (partners ++ Some p ∷ []) from xs
  mark-at p from k [] is = refl
  mark-at p from zero (x ∷ xs) is =
      sym (ap (λ (b : Bool). b ∷ flags_with (partners ++ Some p ∷ []) (suc from) xs) (taken-now partners (Some p) from (eq-eqb from p (omega arith)))
      ∙ ap (λ (l : List Bool). true ∷ l) (mark-past (Some p) (suc from) xs (λ n h. ne_eqb n p (λ e. omega arith))))
  mark-at p from (suc k) (x ∷ xs) is =
      ap (λ (b : Bool). b ∷ set (flags_with partners (suc from) xs) k true) (sym (taken-not partners (Some p) from (ne_eqb from p (λ e. omega arith))))
      ∙ ap (λ (l : List Bool). list_any (is_place from) (partners ++ Some p ∷ []) ∷ l) (mark-at p (suc from) k xs (omega arith))

  mark-one : (one : Option ℕ) (xs : List X) → marked (flags_with partners 0 xs) one ≡ flags_with (partners ++ one ∷ []) 0 xs
  unfolding marked
  mark-one (Some p) xs = mark-at p 0 p xs (omega arith)
  mark-one None xs = sym (mark-past None 0 xs (λ n h. refl))

unset-from : {X : Type 0} (from : ℕ) (xs : List X) → map (λ (x : X). false) xs ≡ numbered_from (is_taken []) from xs
unset-from from [] = refl
unset-from from (x ∷ xs) = ap (λ (l : List Bool). false ∷ l) (unset-from (suc from) xs)

pub flag_begin : {X : Type 0} (xs : List X) → map (λ (x : X). false) xs ≡ numbered (is_taken []) xs
flag_begin xs = unset-from 0 xs

module _ {X : Type 0} (partners : List (Option ℕ)) (xs : List X) (at : ℕ) where
  pub flag_more : (flags new : List Bool) (d : Option ℕ) → at < length partners → flags ≡ numbered (is_taken (take at partners)) xs →
      new ≡ marked flags (get_or partners at d) → new ≡ numbered (is_taken (take (at + 1) partners)) xs
  flag_more flags new d within before now =
      now
      ∙ ap (λ (l : List Bool). marked l (get_or partners at d)) before
      ∙ mark-one (take at partners) (get_or partners at d) xs
      ∙ ap (λ (l : List (Option ℕ)). numbered (is_taken l) xs) (sym (take_more partners at d within))

  pub flag_end : length partners ≤ at → numbered (is_taken (take at partners)) xs ≡ numbered (is_taken partners) xs
  flag_end past = ap (λ (l : List (Option ℕ)). numbered (is_taken l) xs) (take_all at partners past)

pub ruleset flag_steps = (flag_begin, flag_more, flag_end)

-- ---- the places of flags that are not set

module _ (flags : List Bool) (at : ℕ) (front : List ℕ) where
  abbrev others : ℕ → List ℕ
  others from = free_from from (drop from flags)

  others-next : (taken : Bool) → at < length flags → taken ≡ get_or flags at taken →
      others at ≡ (if taken then others (at + 1) else at ∷ others (at + 1))
  others-next taken within is =
      ap (free_from at) (drop_next flags at taken within)
      ∙ ap (λ (b : Bool). if b then free_from (suc at) (drop (at + 1) flags) else at ∷ free_from (suc at) (drop (at + 1) flags)) (sym is)
      ∙ ap (λ (n : ℕ). if taken then free_from n (drop (at + 1) flags) else at ∷ free_from n (drop (at + 1) flags)) (sym (add-one at))

  pub free_found : (taken : Bool) → at < length flags → taken ≡ get_or flags at taken → taken ≡ false →
      (front ++ at ∷ []) ++ others (at + 1) ≡ front ++ others at
  free_found taken within is free =
      append_assoc front (at ∷ []) (others (at + 1))
      ∙ ap (λ (l : List ℕ). front ++ l)
      (sym (others-next taken within is ∙ ap (λ (b : Bool). if b then others (at + 1) else at ∷ others (at + 1)) free))

  pub free_not : (taken : Bool) → at < length flags → taken ≡ get_or flags at taken → taken ≡ true → front ++ others (at + 1) ≡ front ++ others at
  free_not taken within is set_one =
      ap (λ (l : List ℕ). front ++ l)
      (sym (others-next taken within is ∙ ap (λ (b : Bool). if b then others (at + 1) else at ∷ others (at + 1)) set_one))

  pub free_end : length flags ≤ at → front ++ others at ≡ front
  free_end past = ap (λ (l : List Bool). front ++ free_from at l) (drop_of_length-le flags past) ∙ append-nil front

pub ruleset free_steps = (free_found, free_not, free_end)

-- ---- these are the columns that are no partners

either-way : (taken : Bool) (place : ℕ) (these those : List ℕ) → these ≡ those →
    ◌≡◌ {A = List ℕ} (if taken then these else place ∷ these) (cond (not taken) (place ∷ those) those)
either-way true place these those same = same
either-way false place these those same = ap (λ (l : List ℕ). place ∷ l) same

module _ (partners : List (Option ℕ)) where
  abbrev is_free : ℕ → Bool
  is_free place = not (list_any (is_place place) partners)

  free-from : {X : Type 0} (from : ℕ) (xs : List X) → free_from from (numbered_from (is_taken partners) from xs) ≡ filter is_free (numbered_from its_place from xs)
  free-from from [] = refl
  free-from from (x ∷ xs) =
      either-way (list_any (is_place from) partners) from
      (free_from (suc from) (numbered_from (is_taken partners) (suc from) xs))
      (filter is_free (numbered_from its_place (suc from) xs))
      (free-from (suc from) xs)

  pub free_are_surplus : {X : Type 0} (xs : List X) → free_from 0 (numbered (is_taken partners) xs) ≡ filter is_free (numbered its_place xs)
  free_are_surplus xs = free-from 0 xs
