-- Sizes and depths, one item after another.
use Rattle.std.proofs.Common.{◌≡◌, ℕ, ◌+◌, ◌-◌, ◌^◌, ◌<◌, ◌≤◌, List, [], ◌∷◌, ◌++◌, map, take, get_or, length, refl, sym, ap, ◌∙◌, arith}
use Rattle.std.specs.Prelude.{min, max}
use Rattle.std.proofs.lemmas.List.{map-append, take_more}
use Rattle.proto_fields.specs.Fields.{Field}
use Rattle.proto_fields.specs.Spelling.{spell, payload_fields}
use Rattle.proto_fields.specs.Sizes.{most, size_of}
use Rattle.proto_fields.proofs.SizeLemmas.{size_of-append}
use Rattle.expression_messages.specs.Messages.{repeated_fields, messages_fields}
use Rattle.expression_messages.specs.Depths.{told, largest}
use Rattle.expression_messages.proofs.Written.{repeated_fields-push}

-- ---- sizes

pub size_of_nil : 0 ≡ size_of []
unfolding size_of spell
size_of_nil = refl

pub sized_two : (a b : List Field) (first second both : ℕ) → first ≡ size_of a → second ≡ size_of b → both ≡ min (first + second) most → both ≡ size_of (a ++ b)
sized_two a b first second both first_is second_is both_is =
    both_is ∙ ap (λ (n : ℕ). min (n + second) most) first_is ∙ ap (λ (n : ℕ). min (size_of a + n) most) second_is ∙ sym (size_of-append a b)

pub sized_three : (a b c : List Field) (first second third both all : ℕ) → first ≡ size_of a → second ≡ size_of b → third ≡ size_of c →
    both ≡ min (first + second) most → all ≡ min (both + third) most → all ≡ size_of (a ++ b ++ c)
sized_three a b c first second third both all first_is second_is third_is both_is all_is =
    sized_two (a ++ b) c both third all (sized_two a b first second both first_is second_is both_is) third_is all_is

-- one more payload of a repeated field
pub repeated_sized : (number : ℕ) (payloads : List (List ℕ)) (i : ℕ) (payload : List ℕ) (total one next : ℕ) → i < length payloads → payload ≡ get_or payloads i payload →
    total ≡ size_of (repeated_fields number (take i payloads)) → one ≡ size_of (payload_fields number payload) → next ≡ min (total + one) most →
    next ≡ size_of (repeated_fields number (take (i + 1) payloads))
repeated_sized number payloads i payload total one next within item total_is one_is next_is =
    let more : take (i + 1) payloads ≡ take i payloads ++ payload ∷ [] =
    take_more payloads i payload within ∙ ap (λ (p : List ℕ). take i payloads ++ p ∷ []) (sym item) in
    sized_two (repeated_fields number (take i payloads)) (payload_fields number payload) total one next total_is one_is next_is
    ∙ sym (ap (λ (ps : List (List ℕ)). size_of (repeated_fields number ps)) more ∙ ap size_of (repeated_fields-push number (take i payloads) payload))

-- one more message of a repeated field
pub messages_sized : {A : Type 0} (fields : A → List Field) (number : ℕ) (messages : List A) (i : ℕ) (message : A) (total one next : ℕ) → i < length messages → message ≡ get_or messages i message →
    total ≡ size_of (messages_fields fields number (take i messages)) → one ≡ size_of (payload_fields number (spell (fields message))) → next ≡ min (total + one) most →
    next ≡ size_of (messages_fields fields number (take (i + 1) messages))
messages_sized {A} fields number messages i message total one next within item total_is one_is next_is =
    let spelled : A → List ℕ = λ (m : A). spell (fields m) in
    let more : map spelled (take (i + 1) messages) ≡ map spelled (take i messages) ++ spelled message ∷ [] =
    ap (map spelled) (take_more messages i message within ∙ ap (λ (m : A). take i messages ++ m ∷ []) (sym item)) ∙ map-append spelled (take i messages) (message ∷ []) in
    sized_two (messages_fields fields number (take i messages)) (payload_fields number (spelled message)) total one next total_is one_is next_is
    ∙ sym (ap (λ (ps : List (List ℕ)). size_of (repeated_fields number ps)) more ∙ ap size_of (repeated_fields-push number (map spelled (take i messages)) (spelled message)))

-- ---- depths

largest-push : (depths : List ℕ) (depth : ℕ) → largest (depths ++ depth ∷ []) ≡ max (largest depths) depth
largest-push [] depth = omega arith
largest-push (d ∷ depths) depth = let more = largest-push depths depth in omega arith

told-max : (a b : ℕ) → max (told a) (told b) ≡ told (max a b)
told-max a b = omega arith

-- one more item
pub deeper : {A : Type 0} (depth : A → ℕ) (items : List A) (i : ℕ) (item : A) (deepest one next : ℕ) → i < length items → item ≡ get_or items i item →
    deepest ≡ told (largest (map depth (take i items))) → one ≡ told (depth item) → next ≡ max deepest one → next ≡ told (largest (map depth (take (i + 1) items)))
deeper {A} depth items i item deepest one next within item_is deepest_is one_is next_is =
    let more : map depth (take (i + 1) items) ≡ map depth (take i items) ++ depth item ∷ [] =
    ap (map depth) (take_more items i item within ∙ ap (λ (x : A). take i items ++ x ∷ []) (sym item_is)) ∙ map-append depth (take i items) (item ∷ []) in
    next_is ∙ ap (λ (n : ℕ). max n one) deepest_is ∙ ap (λ (n : ℕ). max (told (largest (map depth (take i items)))) n) one_is
    ∙ told-max (largest (map depth (take i items))) (depth item)
    ∙ ap told (sym (ap largest more ∙ largest-push (map depth (take i items)) (depth item)))

-- one level further out
pub told_more : (depth inner more outer : ℕ) → inner ≡ told depth → outer ≡ min (inner + more) (2 ^ 32 - 1) → outer ≡ told (more + depth)
told_more depth inner more outer inner_is outer_is = omega arith
