-- The function of a response's head says what the standard says, both ways.
use Rattle.std.proofs.Common.{◌≡◌, ℕ, Bool, true, false, not, ◌&&◌, eqb, List, refl, sym, ap, ◌∙◌, subst, Option, Some, None, Result, Ok, Err, inl, inr, codes}
use Rattle.std.specs.Prelude.{unwrap_or}
use Rattle.std.proofs.lemmas.Bool.{cases_Bool, both_ways, false_from_ne_true, not-true, not-false, not_from_false, and_parts, and_cases, and_from, eqb-true, eq-eqb, ltb-true, lt-ltb, cond-true, cond-false}
use Rattle.std.proofs.lemmas.Bool.Decides.{not_from_Decides, same_from_decides}
use Rattle.httparse.specs.Grammar as grammar
use Rattle.web_heads.specs.declared.body.BodyKind.{BodyKind}
use Rattle.web_heads.specs.declared.body.BodyKind.TheVariants.{Length, Chunks, ToEnd}
use Rattle.web_heads.specs.declared.fault.HeadFault.{HeadFault}
use Rattle.web_heads.specs.declared.fault.HeadFault.TheVariants.{TooManyHeaders, BadHead, BadMethod, BadType, BadLength, OutOfMemory}
use Rattle.web_heads.specs.declared.response.ResponseHead.{ResponseHead}
use Rattle.web_heads.specs.Trees.{most_fields, response_tree}
use Rattle.web_heads.specs.Fields.{values, has_grpc_type, framing, inner_lines}
use Rattle.web_heads.specs.Responses.{response_with, response_of, response_of_tree, response_head}
use Rattle.web_heads.specs.Standard.{HasGrpcType, IsResponseText, response_fields, IsResponse, ResponseSays}
use Rattle.web_heads.proofs.ResponseLemmas as tree
use Rattle.web_heads.proofs.HeadLemmas.{is_long, not_many, is_short, response_head-long, response_head-short, response_head-none}
use Rattle.web_heads.proofs.SaidLemmas.{has_grpc_type-Decides, framed_option, FramingSays, framed-says, framed-IsFramed, framed-IsBadlyFramed}

abbrev meaning : grammar.ResponseHead → Result ResponseHead HeadFault
meaning h = response_of (grammar.status_code h) (response_fields h)

-- a success of another content type
abbrev is_wrong : grammar.ResponseHead → Bool
is_wrong h = eqb (grammar.status_code h) 200 && not (has_grpc_type (response_fields h))

meaning-wrong : (h : grammar.ResponseHead) → is_wrong h ≡ true → meaning h ≡ Err BadType
unfolding response_of
meaning-wrong h wrong = cond-true (is_wrong h) (Err BadType) _ wrong

meaning-right : (h : grammar.ResponseHead) → is_wrong h ≡ false → meaning h ≡ response_with (grammar.status_code h) (response_fields h) (framing (response_fields h))
unfolding response_of
meaning-right h right = cond-false (is_wrong h) (Err BadType) _ right

-- with status 200 the content type is right
abbrev IsRight : grammar.ResponseHead → Type 0
IsRight h = grammar.status_code h ≡ 200 → HasGrpcType (response_fields h)

right_from : (h : grammar.ResponseHead) → is_wrong h ≡ false → IsRight h
right_from h right success =
    elim (and_cases (eqb (grammar.status_code h) 200) (not (has_grpc_type (response_fields h))) right) [
      | inl other ↦ absurd (both_ways (eqb (grammar.status_code h) 200) other (eq-eqb (grammar.status_code h) 200 success))
      | inr type ↦ (has_grpc_type-Decides (response_fields h)).0 (not-false (has_grpc_type (response_fields h)) type)
    ]

right_to : (h : grammar.ResponseHead) → IsRight h → is_wrong h ≡ false
right_to h right = false_from_ne_true (is_wrong h) λ wrong.
    let parts = and_parts (eqb (grammar.status_code h) 200) (not (has_grpc_type (response_fields h))) wrong in
    let type = right (eqb-true (grammar.status_code h) 200 parts.0) in
    both_ways (has_grpc_type (response_fields h)) (not-true (has_grpc_type (response_fields h)) parts.1) ((has_grpc_type-Decides (response_fields h)).1 type)

-- ---- what the function gives is said

framing_says : (bytes : List ℕ) (h : grammar.ResponseHead) → IsResponseText bytes h → IsRight h → (r : Result (Option BodyKind) HeadFault)
    → FramingSays (values (codes "content-length") (response_fields h)) (values (codes "transfer-encoding") (response_fields h)) r
    → ResponseSays bytes (response_with (grammar.status_code h) (response_fields h) r)
framing_says bytes h text right (Ok None) says =
    (h, text, record { status = refl; right = right; type = has_grpc_type-Decides (response_fields h); body = says; grpc_status = refl; grpc_message = refl })
framing_says bytes h text right (Ok (Some body)) says =
    (h, text, record { status = refl; right = right; type = has_grpc_type-Decides (response_fields h); body = says.0; grpc_status = refl; grpc_message = refl })
framing_says bytes h text right (Err fault) says =
    subst (λ (f : HeadFault). ResponseSays bytes (Err f)) (sym says.0) (h, text, right, says.1)

meaning_says : (bytes : List ℕ) (h : grammar.ResponseHead) → IsResponseText bytes h → ResponseSays bytes (meaning h)
meaning_says bytes h text =
    let fields = response_fields h in
    elim (cases_Bool (is_wrong h)) [
      | inl wrong ↦
          let parts = and_parts (eqb (grammar.status_code h) 200) (not (has_grpc_type fields)) wrong in
          subst (ResponseSays bytes) (sym (meaning-wrong h wrong))
          (h, text, eqb-true (grammar.status_code h) 200 parts.0, not_from_Decides _ (has_grpc_type-Decides fields) (not-true (has_grpc_type fields) parts.1))
      | inr right ↦
          subst (ResponseSays bytes) (sym (meaning-right h right))
          (framing_says bytes h text (right_from h right) (framing fields)
          (framed-says (values (codes "content-length") fields) (values (codes "transfer-encoding") fields)))
    ]

pub sound : (bytes : List ℕ) → ResponseSays bytes (response_head bytes)
sound bytes = elim (cases_Bool (is_long bytes)) [
  | inl long ↦ subst (ResponseSays bytes) (sym (response_head-long bytes long)) (ltb-true most_fields (inner_lines bytes) long)
  | inr short ↦ subst (ResponseSays bytes) (sym (response_head-short bytes short)) (by_tree bytes short (response_tree bytes) refl)
]
  where
    by_tree : (bytes : List ℕ) → is_long bytes ≡ false → (o : Option grammar.ResponseHead) → response_tree bytes ≡ o → ResponseSays bytes (response_of_tree o)
    by_tree bytes short None e =
        (not_many bytes short, λ h text. let found = tree.complete bytes h text.reads text.few in absurd (cc))
    by_tree bytes short (Some h) e =
        let x = tree.sound bytes h e in
        meaning_says bytes h (record { short = not_many bytes short; reads = x.0; few = x.1 })

-- ---- what is said is given

response_head-meaning : (bytes : List ℕ) (h : grammar.ResponseHead) → IsResponseText bytes h → response_head bytes ≡ meaning h
response_head-meaning bytes h text =
    response_head-short bytes (is_short bytes text.short) ∙ ap response_of_tree (tree.complete bytes h text.reads text.few)

unwrap_or-framed_option : (body : BodyKind) → unwrap_or (framed_option body) ToEnd ≡ body
unwrap_or-framed_option (Length count) = refl
unwrap_or-framed_option Chunks = refl
unwrap_or-framed_option ToEnd = refl

meaning-IsResponse : (h : grammar.ResponseHead) (head : ResponseHead) → IsResponse h head → meaning h ≡ Ok head
meaning-IsResponse h head x =
    let fields = response_fields h in
    let body = unwrap_or-framed_option head.body in
    let type = same_from_decides (has_grpc_type fields) head.has_grpc_type (has_grpc_type-Decides fields) x.type in
    let given : response_with (grammar.status_code h) fields (Ok (framed_option head.body)) ≡ Ok head = λ i. Ok (record {
      status = sym x.status i;
      body = body i;
      has_grpc_type = type i;
      grpc_status = sym x.grpc_status i;
      grpc_message = sym x.grpc_message i;
    }) in
    meaning-right h (right_to h (λ success. x.right (x.status ∙ success)))
    ∙ ap (response_with (grammar.status_code h) fields)
    (framed-IsFramed (values (codes "content-length") fields) (values (codes "transfer-encoding") fields) head.body x.body)
    ∙ given

pub only : (bytes : List ℕ) (r : Result ResponseHead HeadFault) → ResponseSays bytes r → response_head bytes ≡ r
only bytes (Ok head) x = response_head-meaning bytes x.0 x.1 ∙ meaning-IsResponse x.0 head x.2
only bytes (Err TooManyHeaders) x = response_head-long bytes (lt-ltb most_fields (inner_lines bytes) x)
only bytes (Err BadHead) x = response_head-none bytes (is_short bytes x.0) (by_tree (response_tree bytes) refl)
  where
    by_tree : (o : Option grammar.ResponseHead) → response_tree bytes ≡ o → o ≡ None
    by_tree None e = refl
    by_tree (Some h) e =
        let found = tree.sound bytes h e in absurd (x.1 h (record { short = x.0; reads = found.0; few = found.1 }))
only bytes (Err BadMethod) x = absurd x
only bytes (Err BadType) x =
    response_head-meaning bytes x.0 x.1
    ∙ meaning-wrong x.0 (and_from (eqb (grammar.status_code x.0) 200) (not (has_grpc_type (response_fields x.0)))
    (eq-eqb (grammar.status_code x.0) 200 x.2)
    (not_from_false (has_grpc_type (response_fields x.0))
    (false_from_ne_true (has_grpc_type (response_fields x.0)) (λ right. x.3 ((has_grpc_type-Decides (response_fields x.0)).0 right)))))
only bytes (Err BadLength) x =
    let fields = response_fields x.0 in
    response_head-meaning bytes x.0 x.1
    ∙ meaning-right x.0 (right_to x.0 x.2)
    ∙ ap (response_with (grammar.status_code x.0) fields)
    (framed-IsBadlyFramed (values (codes "content-length") fields) (values (codes "transfer-encoding") fields) x.3)
only bytes (Err OutOfMemory) x = absurd x
