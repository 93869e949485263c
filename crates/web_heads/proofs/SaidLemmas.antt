-- What the tests of fields and the framing say, both ways.
use Rattle.std.proofs.Common.{◌≡◌, ◌≢◌, ℕ, ◌^◌, ◌<◌, ◌≤◌, Bool, true, false, ◌||◌, ltb, List, [], ◌∷◌, length, refl, sym, ap, ◌∙◌, subst, arith, Option, Some, None, Result, Ok, Err, ◌⊎◌, inl, inr, codes, Decides}
use Rattle.std.specs.Prelude.{slice_get}
use Rattle.std.specs.Str.{bytes_eq, str_to_ascii_lowercase}
use Rattle.std.specs.Str.Parse.{digits_value}
use Rattle.std.proofs.lemmas.Bool.{cases_Bool, false_from_ne_true, false≢true, or_cases, or_parts, or_left, or_right, or_from, ltb-true, ltb-false, lt-ltb, le-ltb, cond-true, cond-false}
use Rattle.std.proofs.lemmas.Bool.Decides.{Decides-or, not_from_Decides}
use Rattle.std.proofs.lemmas.Slice.Eq.{bytes_eq-Decides}
use Rattle.web_heads.specs.declared.body.BodyKind.{BodyKind}
use Rattle.web_heads.specs.declared.body.BodyKind.TheVariants.{Length, Chunks, ToEnd}
use Rattle.web_heads.specs.declared.fault.HeadFault.{HeadFault}
use Rattle.web_heads.specs.declared.fault.HeadFault.TheVariants.{BadLength}
use Rattle.web_heads.specs.Texts.{decimal_of}
use Rattle.web_heads.specs.Fields.{NameValue, first_value, media_type, is_grpc_web, some_passes, has_grpc_type, is_chunked, body_of_length, body_of, framed}
use Rattle.web_heads.specs.Standard.{IsDecimal, HasGrpcType, IsChunked, HasLength, IsFramed, IsBadlyFramed, length_twice, coding_twice, both, no_length}
use Rattle.web_heads.proofs.NumberLemmas.{decimal_of-Some, decimal_of-None, decimal_of-says, no_decimal}

-- ---- the content type

is_grpc_web-Decides : (value : List ℕ)
    → Decides (is_grpc_web value) ((media_type value ≡ codes "application/grpc-web") ⊎ (media_type value ≡ codes "application/grpc-web+proto"))
unfolding is_grpc_web
is_grpc_web-Decides value =
    Decides-or (bytes_eq (media_type value) (codes "application/grpc-web")) (bytes_eq (media_type value) (codes "application/grpc-web+proto"))
    (bytes_eq-Decides (media_type value) (codes "application/grpc-web")) (bytes_eq-Decides (media_type value) (codes "application/grpc-web+proto"))

pub has_grpc_type-Decides : (fields : List NameValue) → Decides (has_grpc_type fields) (HasGrpcType fields)
unfolding has_grpc_type
has_grpc_type-Decides fields = by_first (first_value (codes "content-type") fields) refl
  where
    by_first : (o : Option (List ℕ)) → first_value (codes "content-type") fields ≡ o → Decides (some_passes is_grpc_web o) (HasGrpcType fields)
    by_first None e = (λ no. absurd (false≢true no), λ has. absurd (cc (e, has.first)))
    by_first (Some value) e = (
      λ yes. record { value = value; first = e; type = (is_grpc_web-Decides value).0 yes },
      λ has. let same : has.value ≡ value = cc (e, has.first) in
          (is_grpc_web-Decides value).1 (rw same at has.type),
    )

-- ---- chunks

-- one value is one
same_value : (value other : List ℕ) (rest : List (List ℕ)) → value ∷ rest ≡ other ∷ [] → other ≡ value
same_value value other rest e = cc

nil_is_no_cons : (value : List ℕ) (rest : List (List ℕ)) → [] ≡ value ∷ rest → ⊥
nil_is_no_cons value rest e = cc

is_chunked-Decides : (value : List ℕ) → Decides (is_chunked value) (IsChunked (value ∷ []))
unfolding is_chunked
is_chunked-Decides value =
    let test = bytes_eq-Decides (str_to_ascii_lowercase value) (codes "chunked") in (
      λ yes. record { value = value; only = refl; chunked = test.0 yes },
      λ has. test.1 (rw (same_value value has.value [] has.only) at has.chunked),
    )

-- of at most one transfer coding the test says whether it is chunked
chunked_test-Decides : (codings : List (List ℕ)) → length codings ≤ 1 → Decides (some_passes is_chunked (slice_get codings 0)) (IsChunked codings)
chunked_test-Decides [] few = (λ no. absurd (false≢true no), λ has. absurd (nil_is_no_cons has.value [] has.only))
chunked_test-Decides (value ∷ []) few = is_chunked-Decides value
chunked_test-Decides (value ∷ other ∷ codings) few = absurd (omega arith)

-- ---- framing

-- the framing that a body comes from
abbrev pub framed_option : BodyKind → Option BodyKind
framed_option (Length count) = Some (Length count)
framed_option Chunks = Some Chunks
framed_option ToEnd = None

-- what a framing says
abbrev pub FramingSays : List (List ℕ) → List (List ℕ) → Result (Option BodyKind) HeadFault → Type 0
FramingSays lengths codings (Ok None) = IsFramed lengths codings ToEnd
FramingSays lengths codings (Ok (Some body)) = IsFramed lengths codings body × (body ≢ ToEnd)
FramingSays lengths codings (Err fault) = (fault ≡ BadLength) × IsBadlyFramed lengths codings

abbrev is_twice : List (List ℕ) → List (List ℕ) → Bool
is_twice lengths codings = ltb 1 (length lengths) || ltb 1 (length codings)

framed-many : (lengths codings : List (List ℕ)) → is_twice lengths codings ≡ true → framed lengths codings ≡ Err BadLength
unfolding framed
framed-many lengths codings twice = cond-true (is_twice lengths codings) (Err BadLength) _ twice

framed-few : (lengths codings : List (List ℕ)) → length lengths ≤ 1 → length codings ≤ 1
    → framed lengths codings ≡ body_of (slice_get lengths 0) (some_passes is_chunked (slice_get codings 0))
unfolding framed
framed-few lengths codings one other =
    cond-false (is_twice lengths codings) (Err BadLength) _
    (or_from (ltb 1 (length lengths)) (ltb 1 (length codings)) (le-ltb 1 (length lengths) one) (le-ltb 1 (length codings) other))

cases_twice : (lengths codings : List (List ℕ)) → (is_twice lengths codings ≡ true) ⊎ ((length lengths ≤ 1) × (length codings ≤ 1))
cases_twice lengths codings =
    elim (cases_Bool (is_twice lengths codings)) [
      | inl twice ↦ inl twice
      | inr once ↦
          let parts = or_parts (ltb 1 (length lengths)) (ltb 1 (length codings)) once in
          inr (ltb-false 1 (length lengths) parts.0, ltb-false 1 (length codings) parts.1)
    ]

-- a value that is no number is no length
not_length : (value : List ℕ) → decimal_of value (2 ^ 62) ≡ None → (count : ℕ) → ¬ (HasLength (value ∷ []) count)
not_length value e count has =
    let number = subst (λ (text : List ℕ). IsDecimal text count) (same_value value has.value [] has.only) has.number in
    no_decimal value (2 ^ 62) e number.some number.digits (subst (λ (n : ℕ). n ≤ 2 ^ 62) number.value has.fits)

length_says : (value : List ℕ) (codings : List (List ℕ)) → length codings ≤ 1 → ¬ (IsChunked codings) → (o : Option ℕ) → decimal_of value (2 ^ 62) ≡ o
    → FramingSays (value ∷ []) codings (body_of_length o)
length_says value codings few not_chunked None e = (refl, no_length (omega arith) (not_length value e))
length_says value codings few not_chunked (Some count) e =
    let number = decimal_of-says value (2 ^ 62) count e in
    ((record { value = value; only = refl; number = number.0; fits = number.1 }, few, not_chunked), λ same. cc)

body_says : (lengths codings : List (List ℕ)) → length lengths ≤ 1 → length codings ≤ 1 → (b : Bool) → some_passes is_chunked (slice_get codings 0) ≡ b
    → FramingSays lengths codings (body_of (slice_get lengths 0) b)
unfolding body_of
body_says [] codings one few false e = (refl, few, not_from_Decides _ (chunked_test-Decides codings few) e)
body_says [] codings one few true e = ((refl, (chunked_test-Decides codings few).0 e), λ same. cc)
body_says (value ∷ []) codings one few false e =
    length_says value codings few (not_from_Decides _ (chunked_test-Decides codings few) e) (decimal_of value (2 ^ 62)) refl
body_says (value ∷ []) codings one few true e = (refl, both (omega arith) ((chunked_test-Decides codings few).0 e))
body_says (value ∷ other ∷ lengths) codings one few b e = absurd (omega arith)

-- what is found is there
pub framed-says : (lengths codings : List (List ℕ)) → FramingSays lengths codings (framed lengths codings)
framed-says lengths codings = elim (cases_twice lengths codings) [
  | inl twice ↦ rw (framed-many lengths codings twice) (
    refl,
    elim (or_cases (ltb 1 (length lengths)) (ltb 1 (length codings)) twice) [
      | inl h ↦ length_twice (ltb-true 1 (length lengths) h)
      | inr h ↦ coding_twice (ltb-true 1 (length codings) h)
    ],
  )
  | inr few ↦ rw (framed-few lengths codings few.0 few.1) (body_says lengths codings few.0 few.1 _ refl)
]

-- what is there is found
framed-Length : (value : List ℕ) (codings : List (List ℕ)) (count : ℕ) → IsDecimal value count → count ≤ 2 ^ 62 → length codings ≤ 1 → ¬ (IsChunked codings)
    → framed (value ∷ []) codings ≡ Ok (Some (Length count))
unfolding body_of
framed-Length value codings count number fits few not_chunked =
    let test = false_from_ne_true (some_passes is_chunked (slice_get codings 0)) (λ e. not_chunked ((chunked_test-Decides codings few).0 e)) in
    framed-few (value ∷ []) codings (omega arith) few
    ∙ ap (body_of (Some value)) test
    ∙ ap body_of_length (sym (decimal_of-Some value (2 ^ 62) number.some number.digits (rw (← number.value) fits)))
    ∙ ap (λ (n : ℕ). Ok (Some (Length n))) (sym number.value)

framed-ToEnd : (codings : List (List ℕ)) → length codings ≤ 1 → ¬ (IsChunked codings) → framed [] codings ≡ Ok None
unfolding body_of
framed-ToEnd codings few not_chunked =
    let test = false_from_ne_true (some_passes is_chunked (slice_get codings 0)) (λ e. not_chunked ((chunked_test-Decides codings few).0 e)) in
    framed-few [] codings (omega arith) few ∙ ap (body_of None) test

framed-Chunks : (codings : List (List ℕ)) → IsChunked codings → framed [] codings ≡ Ok (Some Chunks)
unfolding body_of
framed-Chunks codings chunked =
    let few : length codings ≤ 1 = rw chunked.only (omega arith) in
    framed-few [] codings (omega arith) few ∙ ap (body_of None) ((chunked_test-Decides codings few).1 chunked)

pub framed-IsFramed : (lengths codings : List (List ℕ)) (body : BodyKind) → IsFramed lengths codings body → framed lengths codings ≡ Ok (framed_option body)
framed-IsFramed lengths codings (Length count) x =
    ap (λ (ls : List (List ℕ)). framed ls codings) x.0.only ∙ framed-Length x.0.value codings count x.0.number x.0.fits x.1 x.2
framed-IsFramed lengths codings Chunks x = ap (λ (ls : List (List ℕ)). framed ls codings) x.0 ∙ framed-Chunks codings x.1
framed-IsFramed lengths codings ToEnd x = ap (λ (ls : List (List ℕ)). framed ls codings) x.0 ∙ framed-ToEnd codings x.1 x.2

-- both framings, at most once each
bad_both : (lengths codings : List (List ℕ)) → length lengths ≤ 1 → length codings ≤ 1 → 0 < length lengths → IsChunked codings
    → body_of (slice_get lengths 0) (some_passes is_chunked (slice_get codings 0)) ≡ Err BadLength
unfolding body_of
bad_both [] codings one few some chunked = absurd (omega arith)
bad_both (value ∷ []) codings one few some chunked = ap (body_of (Some value)) ((chunked_test-Decides codings few).1 chunked)
bad_both (value ∷ other ∷ lengths) codings one few some chunked = absurd (omega arith)

-- one length that is none
bad_length : (lengths codings : List (List ℕ)) → length lengths ≤ 1 → 0 < length lengths → ((count : ℕ) → ¬ (HasLength lengths count)) → (b : Bool)
    → body_of (slice_get lengths 0) b ≡ Err BadLength
unfolding body_of
bad_length [] codings one some none b = absurd (omega arith)
bad_length (value ∷ []) codings one some none true = refl
bad_length (value ∷ []) codings one some none false =
    ap body_of_length (sym (decimal_of-None value (2 ^ 62) λ long digits fits. none (digits_value 10 value)
    (record { value = value; only = refl; number = record { some = long; digits = digits; value = refl }; fits = fits })))
bad_length (value ∷ other ∷ lengths) codings one some none b = absurd (omega arith)

pub framed-IsBadlyFramed : (lengths codings : List (List ℕ)) → IsBadlyFramed lengths codings → framed lengths codings ≡ Err BadLength
framed-IsBadlyFramed lengths codings (length_twice h) =
    framed-many lengths codings (or_left (ltb 1 (length lengths)) (ltb 1 (length codings)) (lt-ltb 1 (length lengths) h))
framed-IsBadlyFramed lengths codings (coding_twice h) =
    framed-many lengths codings (or_right (ltb 1 (length lengths)) (ltb 1 (length codings)) (lt-ltb 1 (length codings) h))
framed-IsBadlyFramed lengths codings (both some chunked) = elim (cases_twice lengths codings) [
  | inl twice ↦ framed-many lengths codings twice
  | inr few ↦ framed-few lengths codings few.0 few.1 ∙ bad_both lengths codings few.0 few.1 some chunked
]
framed-IsBadlyFramed lengths codings (no_length some none) = elim (cases_twice lengths codings) [
  | inl twice ↦ framed-many lengths codings twice
  | inr few ↦ framed-few lengths codings few.0 few.1 ∙ bad_length lengths codings few.0 some none _
]
