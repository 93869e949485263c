-- What the walk over an identifier does at the bytes of a character, and at runs of bytes.
use Rattle.std.proofs.Common.{◌≡◌, ◌≢◌, ℕ, ◌+◌, ◌/◌, ◌%◌, ◌≤◌, Bool, List, [], ◌∷◌, ◌++◌, true, false, cond, ltb, refl, ap, sym, subst, ◌∙◌, Some, None, Option, arith, append_assoc}
use Rattle.std.specs.Prelude.{All, ◌==◌}
use Rattle.std.proofs.lemmas.Bool.Decides.{nat_tests}
use Rattle.std.proofs.lemmas.List.Elements.{All-cons, All-head, All-nil, All-tail}
use Rattle.std.proofs.lemmas.Str.Ascii.{encode_ascii}
use Rattle.std.proofs.lemmas.Bool.{ltb-true, ltb-false}
use lib.Utf8.{encode}
use Rattle.resolve_names.specs.declared.identifier.Place.{Place}
use Rattle.resolve_names.specs.declared.identifier.Place.TheVariants.{Start, Bare, Quoted, Closing}
use Rattle.resolve_names.specs.declared.identifier.Effect.{Effect}
use Rattle.resolve_names.specs.declared.identifier.Effect.TheVariants.{Keep, Refuse}
use Rattle.resolve_names.specs.Identifiers.{IsPlainByte, after, in_front, join_first, parts_from, step}

pub join_first-twice : (a b : List ℕ) (parts : List (List ℕ)) → join_first a (join_first b parts) ≡ join_first (a ++ b) parts
join_first-twice a b [] = refl
join_first-twice a b (part ∷ parts) = ap (λ (first : List ℕ). first ∷ parts) (sym (append_assoc a b part))

pub in_front-twice : (a b : List ℕ) (parts : Option (List (List ℕ))) → in_front a (in_front b parts) ≡ in_front (a ++ b) parts
in_front-twice a b None = refl
in_front-twice a b (Some parts) = ap (λ (found : List (List ℕ)). let o : Option (List (List ℕ)) = Some found in o) (join_first-twice a b parts)

pub join_first-nil : (parts : List (List ℕ)) → join_first [] parts ≡ parts
join_first-nil [] = refl
join_first-nil (part ∷ parts) = refl

pub in_front-nil : (parts : Option (List (List ℕ))) → in_front [] parts ≡ parts
in_front-nil None = refl
in_front-nil (Some parts) = ap (λ (found : List (List ℕ)). let o : Option (List (List ℕ)) = Some found in o) (join_first-nil parts)

-- what a byte that is no dot and no backquote does
abbrev pub plain_step : Place → Effect
plain_step Start = Keep Bare
plain_step Bare = Keep Bare
plain_step Quoted = Keep Quoted
plain_step Closing = Refuse

cond_false : {A : Type 0} (b : Bool) (x y : A) → b ≡ false → cond b x y ≡ y
cond_false true x y e = cc
cond_false false x y e = refl

differs : (b c : ℕ) → b ≢ c → (b == c) ≡ false
differs b c other = grind (arith, nat_tests)

pub step-plain : (place : Place) (b : ℕ) → IsPlainByte b → step place b ≡ plain_step place
step-plain Start b h = cond_false (b == 46) _ _ (differs b 46 h.0) ∙ cond_false (b == 96) _ _ (differs b 96 h.1)
step-plain Bare b h = cond_false (b == 46) _ _ (differs b 46 h.0) ∙ cond_false (b == 96) _ _ (differs b 96 h.1)
step-plain Quoted b h = cond_false (b == 96) _ _ (differs b 96 h.1)
step-plain Closing b h = cond_false (b == 46) _ _ (differs b 46 h.0) ∙ cond_false (b == 96) _ _ (differs b 96 h.1)

-- at a place that such bytes leave, a run of them stands before what is read of the rest
pub run : (place : Place) → plain_step place ≡ Keep place → (bytes : List ℕ) → All IsPlainByte bytes → (rest : List ℕ) →
    parts_from place (bytes ++ rest) ≡ in_front bytes (parts_from place rest)
run place keeps [] plain rest = sym (in_front-nil (parts_from place rest))
run place keeps (b ∷ bytes) plain rest =
    let one : step place b ≡ Keep place = step-plain place b (All-head IsPlainByte b bytes plain) ∙ keeps in
    let walk : Place → Option (List (List ℕ)) = λ next. parts_from next (bytes ++ rest) in
    ap (λ (effect : Effect). after effect (b ∷ []) walk) one
    ∙ ap (in_front (b ∷ [])) (run place keeps bytes (All-tail IsPlainByte b bytes plain) rest)
    ∙ in_front-twice (b ∷ []) bytes (parts_from place rest)

-- these bytes do what the character does
abbrev pub DoAs : ℕ → List ℕ → Type 0
DoAs c bytes = (place : Place) (rest : List ℕ) → parts_from place (bytes ++ rest) ≡ after (step place c) bytes (λ next. parts_from next rest)

abbrev High : ℕ → Type 0
High b = 128 ≤ b

high_plain : (b : ℕ) → High b → IsPlainByte b
high_plain b high = (λ e. omega arith, λ e. omega arith)

all_plain : (bytes : List ℕ) → All High bytes → All IsPlainByte bytes
all_plain [] high = All-nil IsPlainByte
all_plain (b ∷ bytes) high =
    All-cons IsPlainByte b bytes (high_plain b (All-head High b bytes high)) (all_plain bytes (All-tail High b bytes high))

behind : (b : ℕ) (bytes : List ℕ) → All High bytes → (rest : List ℕ) (place : Place) →
    after (plain_step place) (b ∷ []) (λ next. parts_from next (bytes ++ rest)) ≡ after (plain_step place) (b ∷ bytes) (λ next. parts_from next rest)
behind b bytes high rest Start = ap (in_front (b ∷ [])) (run Bare refl bytes (all_plain bytes high) rest) ∙ in_front-twice (b ∷ []) bytes (parts_from Bare rest)
behind b bytes high rest Bare = ap (in_front (b ∷ [])) (run Bare refl bytes (all_plain bytes high) rest) ∙ in_front-twice (b ∷ []) bytes (parts_from Bare rest)
behind b bytes high rest Quoted = ap (in_front (b ∷ [])) (run Quoted refl bytes (all_plain bytes high) rest) ∙ in_front-twice (b ∷ []) bytes (parts_from Quoted rest)
behind b bytes high rest Closing = refl

high_do : (c b : ℕ) (bytes : List ℕ) → High c → High b → All High bytes → DoAs c (b ∷ bytes)
high_do c b bytes high first others place rest =
    let walk : Place → Option (List (List ℕ)) = λ next. parts_from next (bytes ++ rest) in
    let end : Place → Option (List (List ℕ)) = λ next. parts_from next rest in
    ap (λ (effect : Effect). after effect (b ∷ []) walk) (step-plain place b (high_plain b first))
    ∙ behind b bytes others rest place
    ∙ ap (λ (effect : Effect). after effect (b ∷ bytes) end) (sym (step-plain place c (high_plain c high)))

do-cond : (c : ℕ) (test : Bool) (xs ys : List ℕ) → DoAs c xs → DoAs c ys → DoAs c (cond test xs ys)
do-cond c true xs ys one two = one
do-cond c false xs ys one two = two

one_do : (c : ℕ) → DoAs c (c ∷ [])
one_do c place rest = refl

all_high : (b : ℕ) (bytes : List ℕ) → High b → All High bytes → All High (b ∷ bytes)
all_high b bytes one others = All-cons High b bytes one others

high_encode : (c : ℕ) → High c → DoAs c (encode c)
unfolding encode
high_encode c high =
    let last = all_high (128 + c % 64) [] (omega arith) (All-nil High) in
    let last_two = all_high (128 + c / 64 % 64) ((128 + c % 64) ∷ []) (omega arith) last in
    let last_three = all_high (128 + c / 4096 % 64) ((128 + c / 64 % 64) ∷ (128 + c % 64) ∷ []) (omega arith) last_two in
    do-cond c (ltb c 128) _ _ (one_do c)
    (do-cond c (ltb c 2048) _ _ (high_do c (192 + c / 64) _ high (omega arith) last)
    (do-cond c (ltb c 65536) _ _ (high_do c (224 + c / 4096) _ high (omega arith) last_two)
    (high_do c (240 + c / 262144) _ high (omega arith) last_three)))

-- the bytes of a character do what it does
pub character : (c : ℕ) → DoAs c (encode c)
character c = by (ltb c 128) refl
  where
    by : (low : Bool) → ltb c 128 ≡ low → DoAs c (encode c)
    by true low = subst (DoAs c) (sym (encode_ascii c (ltb-true c 128 low))) (one_do c)
    by false high = high_encode c (omega (arith, ltb-false c 128 high))
