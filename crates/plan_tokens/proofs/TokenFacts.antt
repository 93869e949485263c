-- The first of the tokens that are left.
use Rattle.std.proofs.Common.{◌≡◌, ℕ, zero, suc, ◌+◌, ◌-◌, ◌<◌, ◌≤◌, List, [], ◌∷◌, length, get_or, drop, Bool, true, false, cond, refl, sym, ap, ◌∙◌, arith, length-drop, get_or-drop}
use Rattle.std.proofs.lemmas.List.Sums.{prefix_len_stops}
use Rattle.plan_tokens.specs.declared.token.Token.{Token}
use Rattle.std.specs.List.{prefix_len}
use Rattle.plan_tokens.specs.Bytes.{is_space}
use Rattle.plan_tokens.specs.Tokens.{tokens_from, first_token}
use Rattle.plan_tokens.specs.declared.token.Placed.{Placed}

next_place : (at k : ℕ) → at + 1 + k ≡ at + (1 + k)
next_place at k = omega arith

-- the bytes of a token stand for nothing of their own
pub taken : (size at : ℕ) (rest : List ℕ) → tokens_from size at rest ≡ tokens_from 0 (at + size) (drop size rest)
unfolding tokens_from
taken zero at rest = ap (λ (n : ℕ). tokens_from 0 n rest) (omega arith)
taken (suc size) at [] = refl
taken (suc size) at (b ∷ rest) = taken size (at + 1) rest ∙ ap (λ (n : ℕ). tokens_from 0 n (drop size rest)) (omega arith)

spaces_by_test : (b at : ℕ) (rest : List ℕ) (test : Bool) → is_space b ≡ test
    → tokens_from 0 (at + 1) rest ≡ tokens_from 0 (at + 1 + prefix_len is_space rest) (drop (prefix_len is_space rest) rest)
    → tokens_from 0 at (b ∷ rest) ≡ tokens_from 0 (at + cond test (1 + prefix_len is_space rest) 0) (drop (cond test (1 + prefix_len is_space rest) 0) (b ∷ rest))
unfolding tokens_from
spaces_by_test b at rest true t more =
    let one : 1 + prefix_len is_space rest ≡ suc (prefix_len is_space rest) = omega arith in
    let place : at + suc (prefix_len is_space rest) ≡ at + 1 + prefix_len is_space rest = omega arith in
    rw (t, one, place) more
spaces_by_test b at rest false t more = ap (λ (n : ℕ). tokens_from 0 n (b ∷ rest)) (omega arith)

-- spaces stand for nothing
pub spaces : (at : ℕ) (rest : List ℕ) → tokens_from 0 at rest ≡ tokens_from 0 (at + prefix_len is_space rest) (drop (prefix_len is_space rest) rest)
spaces at [] = ap (λ (n : ℕ). tokens_from 0 n []) (omega arith)
spaces at (b ∷ rest) = spaces_by_test b at rest _ refl (spaces (at + 1) rest)

no_bytes : (at : ℕ) (left : List ℕ) → length left ≡ 0 → tokens_from 0 at left ≡ []
unfolding tokens_from
no_bytes at [] none = refl
no_bytes at (b ∷ left) none = absurd (omega (arith, none))

-- nothing is left but spaces
pub none_left : (at : ℕ) (rest left : List ℕ) → left ≡ drop (prefix_len is_space rest) rest → length left ≡ 0 → tokens_from 0 at rest ≡ []
none_left at rest left is none = spaces at rest ∙ ap (tokens_from 0 (at + prefix_len is_space rest)) (sym is) ∙ no_bytes _ left none

first_is : (at size : ℕ) (bytes : List ℕ) (token : Token) → is_space (get_or bytes 0 0) ≡ false → 0 < length bytes → 1 ≤ size → (token, size) ≡ first_token bytes
    → tokens_from 0 at bytes ≡ record { token = token; at = at } ∷ tokens_from 0 (at + size) (drop size bytes)
unfolding tokens_from
first_is at size [] token plain some more is = absurd (omega (arith, some))
first_is at zero (b ∷ rest) token plain some more is = absurd (omega (arith, more))
first_is at (suc size) (b ∷ rest) token plain some more is =
    let left : suc size - 1 ≡ size = omega arith in
    let place : at + 1 + size ≡ at + suc size = omega arith in
    rw (plain, ← is, left) (ap (λ (ts : List Placed). record { token = token; at = at } ∷ ts) (taken size (at + 1) rest ∙ ap (λ (n : ℕ). tokens_from 0 n (drop size rest)) place))

-- the first token behind spaces
pub next_is : (at size : ℕ) (rest left : List ℕ) (token : Token) → left ≡ drop (prefix_len is_space rest) rest → 0 < length left → 1 ≤ size → (token, size) ≡ first_token left
    → tokens_from 0 at rest ≡ record { token = token; at = at + prefix_len is_space rest } ∷ tokens_from 0 (at + prefix_len is_space rest + size) (drop size left)
next_is at size rest left token behind some more is =
    let within : prefix_len is_space rest < length rest = (let size = length-drop (prefix_len is_space rest) rest in let same = ap (length {A = ℕ}) behind in omega (arith, size, same, some)) in
    let stops = prefix_len_stops is_space rest 0 within in
    let there : get_or left 0 0 ≡ get_or rest (prefix_len is_space rest) 0 = ap (λ (l : List ℕ). get_or l 0 0) behind ∙ get_or-drop (prefix_len is_space rest) rest 0 0 ∙ ap (λ (k : ℕ). get_or rest k 0) (omega arith) in
    spaces at rest ∙ ap (tokens_from 0 (at + prefix_len is_space rest)) (sym behind) ∙ first_is (at + prefix_len is_space rest) size left token (ap is_space there ∙ stops) some more is
