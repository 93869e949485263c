-- The function of a request's head says what the standard says, both ways.
use Rattle.std.proofs.Common.{◌≡◌, ◌≢◌, ℕ, Bool, true, false, List, refl, sym, ap, ◌∙◌, subst, Option, Some, None, Result, Ok, Err, ◌⊎◌, inl, inr, codes}
use Rattle.std.specs.Str.{bytes_eq}
use Rattle.std.proofs.lemmas.Bool.{cases_Bool, false_from_ne_true, ltb-true, lt-ltb, cond-true, cond-false}
use Rattle.std.proofs.lemmas.Bool.Decides.{not_from_Decides}
use Rattle.std.proofs.lemmas.Slice.Eq.{bytes_eq-Decides}
use Rattle.httparse.specs.Grammar as grammar
use Rattle.web_heads.specs.declared.body.BodyKind.{BodyKind}
use Rattle.web_heads.specs.declared.body.BodyKind.TheVariants.{Length, Chunks, ToEnd}
use Rattle.web_heads.specs.declared.fault.HeadFault.{HeadFault}
use Rattle.web_heads.specs.declared.fault.HeadFault.TheVariants.{TooManyHeaders, BadHead, BadMethod, BadType, BadLength, OutOfMemory}
use Rattle.web_heads.specs.declared.request.RequestHead.{RequestHead}
use Rattle.web_heads.specs.Trees.{most_fields, request_tree}
use Rattle.web_heads.specs.Fields.{values, has_grpc_type, framing, inner_lines}
use Rattle.web_heads.specs.Requests.{request_to, request_of, request_of_tree, request_head}
use Rattle.web_heads.specs.Standard.{HasGrpcType, FramesAs, FramesBadly, IsRequestText, request_fields, IsRequest, RequestSays}
use Rattle.web_heads.proofs.RequestLemmas as tree
use Rattle.web_heads.proofs.HeadLemmas.{is_long, not_many, is_short, request_head-long, request_head-short, request_head-none}
use Rattle.web_heads.proofs.SaidLemmas.{has_grpc_type-Decides, framed_option, FramingSays, framed-says, framed-IsFramed, framed-IsBadlyFramed}

abbrev is_post : grammar.RequestHead → Bool
is_post h = bytes_eq h.method (codes "POST")

abbrev meaning : grammar.RequestHead → Result RequestHead HeadFault
meaning h = request_of h.method h.target (request_fields h)

-- ---- one test after another

meaning-other : (h : grammar.RequestHead) → is_post h ≡ false → meaning h ≡ Err BadMethod
unfolding request_of
meaning-other h other = cond-false (is_post h) _ (Err BadMethod) other

meaning-type : (h : grammar.RequestHead) → is_post h ≡ true → has_grpc_type (request_fields h) ≡ false → meaning h ≡ Err BadType
unfolding request_of
meaning-type h post other =
    cond-true (is_post h) _ (Err BadMethod) post ∙ cond-false (has_grpc_type (request_fields h)) _ (Err BadType) other

meaning-right : (h : grammar.RequestHead) → is_post h ≡ true → has_grpc_type (request_fields h) ≡ true
    → meaning h ≡ request_to h.target (framing (request_fields h))
unfolding request_of
meaning-right h post type =
    cond-true (is_post h) _ (Err BadMethod) post ∙ cond-true (has_grpc_type (request_fields h)) _ (Err BadType) type

-- ---- what the function gives is said

framing_says : (bytes : List ℕ) (h : grammar.RequestHead) → IsRequestText bytes h → h.method ≡ codes "POST" → HasGrpcType (request_fields h)
    → (r : Result (Option BodyKind) HeadFault)
    → FramingSays (values (codes "content-length") (request_fields h)) (values (codes "transfer-encoding") (request_fields h)) r
    → RequestSays bytes (request_to h.target r)
framing_says bytes h text post type (Ok None) says = (h, text, (post, type, inr says))
framing_says bytes h text post type (Ok (Some body)) says =
    (h, text, record { method = post; type = type; path = refl; body = says.0; framed = says.1 })
framing_says bytes h text post type (Err fault) says =
    subst (λ (f : HeadFault). RequestSays bytes (Err f)) (sym says.0) (h, text, (post, type, inl says.1))

meaning_says : (bytes : List ℕ) (h : grammar.RequestHead) → IsRequestText bytes h → RequestSays bytes (meaning h)
meaning_says bytes h text =
    let fields = request_fields h in
    let post = bytes_eq-Decides h.method (codes "POST") in
    elim (cases_Bool (is_post h)) [
      | inl is ↦ elim (cases_Bool (has_grpc_type fields)) [
        | inl right ↦
            subst (RequestSays bytes) (sym (meaning-right h is right))
            (framing_says bytes h text (post.0 is) ((has_grpc_type-Decides fields).0 right) (framing fields)
            (framed-says (values (codes "content-length") fields) (values (codes "transfer-encoding") fields)))
        | inr other ↦
            subst (RequestSays bytes) (sym (meaning-type h is other)) (h, text, (post.0 is, not_from_Decides _ (has_grpc_type-Decides fields) other))
      ]
      | inr other ↦ subst (RequestSays bytes) (sym (meaning-other h other)) (h, text, not_from_Decides _ post other)
    ]

pub sound : (bytes : List ℕ) → RequestSays bytes (request_head bytes)
sound bytes = elim (cases_Bool (is_long bytes)) [
  | inl long ↦ subst (RequestSays bytes) (sym (request_head-long bytes long)) (ltb-true most_fields (inner_lines bytes) long)
  | inr short ↦ subst (RequestSays bytes) (sym (request_head-short bytes short)) (by_tree bytes short (request_tree bytes) refl)
]
  where
    by_tree : (bytes : List ℕ) → is_long bytes ≡ false → (o : Option grammar.RequestHead) → request_tree bytes ≡ o → RequestSays bytes (request_of_tree o)
    by_tree bytes short None e =
        (not_many bytes short, λ h text. let found = tree.complete bytes h text.reads text.few in absurd (cc))
    by_tree bytes short (Some h) e =
        let x = tree.sound bytes h e in
        meaning_says bytes h (record { short = not_many bytes short; reads = x.0; few = x.1 })

-- ---- what is said is given

request_head-meaning : (bytes : List ℕ) (h : grammar.RequestHead) → IsRequestText bytes h → request_head bytes ≡ meaning h
request_head-meaning bytes h text =
    request_head-short bytes (is_short bytes text.short) ∙ ap request_of_tree (tree.complete bytes h text.reads text.few)

meaning-IsRequest : (h : grammar.RequestHead) (head : RequestHead) → IsRequest h head → meaning h ≡ Ok head
meaning-IsRequest h head x =
    let fields = request_fields h in
    meaning-right h ((bytes_eq-Decides h.method (codes "POST")).1 x.method) ((has_grpc_type-Decides fields).1 x.type)
    ∙ ap (request_to h.target) (framed-IsFramed (values (codes "content-length") fields) (values (codes "transfer-encoding") fields) head.body x.body)
    ∙ framed_to head.body x.framed
    ∙ ap (λ (path : List ℕ). Ok (record { path = path; body = head.body })) (sym x.path)
  where
    framed_to : {path : List ℕ} (body : BodyKind) → body ≢ ToEnd → request_to path (Ok (framed_option body)) ≡ Ok (record { path = path; body = body })
    framed_to (Length count) framed = refl
    framed_to Chunks framed = refl
    framed_to ToEnd framed = absurd (framed refl)

pub only : (bytes : List ℕ) (r : Result RequestHead HeadFault) → RequestSays bytes r → request_head bytes ≡ r
only bytes (Ok head) x = request_head-meaning bytes x.0 x.1 ∙ meaning-IsRequest x.0 head x.2
only bytes (Err TooManyHeaders) x = request_head-long bytes (lt-ltb most_fields (inner_lines bytes) x)
only bytes (Err BadHead) x = request_head-none bytes (is_short bytes x.0) (by_tree (request_tree bytes) refl)
  where
    by_tree : (o : Option grammar.RequestHead) → request_tree bytes ≡ o → o ≡ None
    by_tree None e = refl
    by_tree (Some h) e =
        let found = tree.sound bytes h e in absurd (x.1 h (record { short = x.0; reads = found.0; few = found.1 }))
only bytes (Err BadMethod) x =
    request_head-meaning bytes x.0 x.1 ∙ meaning-other x.0 (false_from_ne_true (is_post x.0) (λ is. x.2 ((bytes_eq-Decides x.0.method (codes "POST")).0 is)))
only bytes (Err BadType) x =
    request_head-meaning bytes x.0 x.1
    ∙ meaning-type x.0 ((bytes_eq-Decides x.0.method (codes "POST")).1 x.2.0)
    (false_from_ne_true (has_grpc_type (request_fields x.0)) (λ right. x.2.1 ((has_grpc_type-Decides (request_fields x.0)).0 right)))
only bytes (Err BadLength) x =
    request_head-meaning bytes x.0 x.1
    ∙ meaning-right x.0 ((bytes_eq-Decides x.0.method (codes "POST")).1 x.2.0) ((has_grpc_type-Decides (request_fields x.0)).1 x.2.1)
    ∙ bad x.0 x.2.2
  where
    bad : (h : grammar.RequestHead) → FramesBadly (request_fields h) ⊎ FramesAs (request_fields h) ToEnd
        → request_to h.target (framing (request_fields h)) ≡ Err BadLength
    bad h (inl badly) =
        ap (request_to h.target) (framed-IsBadlyFramed (values (codes "content-length") (request_fields h)) (values (codes "transfer-encoding") (request_fields h)) badly)
    bad h (inr neither) =
        ap (request_to h.target) (framed-IsFramed (values (codes "content-length") (request_fields h)) (values (codes "transfer-encoding") (request_fields h)) ToEnd neither)
only bytes (Err OutOfMemory) x = absurd x
