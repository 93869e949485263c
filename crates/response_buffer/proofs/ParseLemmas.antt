-- What a parsed id says about the text, from what each step of the parse says.
use Rattle.std.proofs.Common.{◌≡◌, ℕ, ◌+◌, ◌*◌, ◌/◌, ◌%◌, ◌^◌, ◌≤◌, ◌↔◌, Bool, true, false, List, Option, Some, None, Result, Ok, Err, IsSome, IsOk, IfOk, IfSome, Decides, true≢false, arith, refl, sym, ap, ◌∙◌}
use Rattle.std.specs.Bool.{then_some}
use Rattle.std.specs.Int.{w128, to_be_bytes, from_be_bytes}
use Rattle.std.specs.Result.{result_ok}
use Rattle.std.proofs.lemmas.Option.{same_Some}
use Rattle.uuid.specs.Text.{parsed}
use Rattle.uuid.proofs.OrderLemmas.{from_be_bytes-to_be_bytes_16}
use Rattle.response_buffer.specs.declared.response_id.ResponseId.{ResponseId}
use Rattle.response_buffer.specs.Ids.{uuid_text, number_of, text_of, Fits, IsResponseId, IsResponseIdText}
use Rattle.response_buffer.proofs.IdLemmas.{parsed-uuid_text, number_of-injective, IsResponseId-number_of}

-- the clauses of `parse` on its answer
pub record Parses (text : List ℕ) (answer : Option ResponseId) : Type 0 where
  pub form : IsSome answer ↔ IsResponseIdText text
  pub fits : IfSome answer (λ id. Fits id × (1 ≤ id.place))
  pub spelled : IfSome answer (λ id. text ≡ text_of id)
  pub round_trip : (id : ResponseId) → Fits id → 1 ≤ id.place → text ≡ text_of id → answer ≡ Some id

-- a text that no id spells has no answer
pub Parses-none : (text : List ℕ) (answer : Option ResponseId) → answer ≡ None → ((n : ℕ) → text ≡ uuid_text n → IsResponseId n → ⊥) → Parses text answer
Parses-none text (Some id) none never = absurd (true≢false cc)
Parses-none text None none never = record {
  form = (λ h. absurd (true≢false (sym h)), λ h. absurd (never h.0 h.1 h.2));
  fits = tt;
  spelled = tt;
  round_trip = λ id fits placed same. absurd (never (number_of id) same (IsResponseId-number_of id fits placed));
}

-- a text that the UUID parser refuses is no text of a number
pub refused-uuid_text : {E : Type 0} (text : List ℕ) (answer : Result (List ℕ) E) (n : ℕ) → None ≡ result_ok answer
    → (IsOk answer ↔ ((u : List ℕ) × (parsed text ≡ Some u))) → text ≡ uuid_text n → ⊥
refused-uuid_text text (Ok u) n none ok same = true≢false cc
refused-uuid_text text (Err e) n none ok same =
    true≢false (sym (ok.1 (to_be_bytes w128 n, ap parsed same ∙ sym (parsed-uuid_text n))))

-- what the UUID parser read
read-from_ok : {E : Type 0} (text u : List ℕ) (answer : Result (List ℕ) E) → Some u ≡ result_ok answer → IfOk answer (λ v. Some v ≡ parsed text)
    → Some u ≡ parsed text
read-from_ok text u (Ok v) some read = some ∙ read
read-from_ok text u (Err e) some read = absurd (true≢false cc)

-- the number of a parsed text, by its halves
pub halves-uuid_text : {E : Type 0} (text u : List ℕ) (answer : Result (List ℕ) E) (high low n : ℕ) → Some u ≡ result_ok answer
    → IfOk answer (λ v. Some v ≡ parsed text) → high ≡ from_be_bytes w128 u / 2 ^ 64
    → low ≡ from_be_bytes w128 u % 2 ^ 64 → text ≡ uuid_text n → IsResponseId n → high * 2 ^ 64 + low ≡ n
halves-uuid_text text u answer high low n some ok is_high is_low same is_id =
    let read : Some u ≡ parsed text = read-from_ok text u answer some ok in
    let bytes : u ≡ to_be_bytes w128 n = same_Some _ _ (read ∙ ap parsed same ∙ sym (parsed-uuid_text n)) in
    let whole : from_be_bytes w128 u ≡ n = ap (from_be_bytes w128) bytes ∙ from_be_bytes-to_be_bytes_16 n is_id.width in
    parts (from_be_bytes w128 u) n high low is_high is_low whole
  where
    parts : (m n high low : ℕ) → high ≡ m / 2 ^ 64 → low ≡ m % 2 ^ 64 → m ≡ n → high * 2 ^ 64 + low ≡ n
    parts m n high low a b e = omega arith

-- an id that was read from the halves is the answer exactly where its text is the one that was read
pub Parses-then_some : (text spelled : List ℕ) (same : Bool) (id : ResponseId) (answer : Option ResponseId) → answer ≡ then_some same id
    → Decides same (spelled ≡ text) → spelled ≡ text_of id → Fits id → 1 ≤ id.place
    → ((n : ℕ) → text ≡ uuid_text n → IsResponseId n → number_of id ≡ n) → Parses text answer
Parses-then_some text spelled true id answer is same is_text fits placed number =
    rw is (record {
      form = (λ _. (number_of id, sym (same.0 refl) ∙ is_text, IsResponseId-number_of id fits placed), λ _. refl);
      fits = (fits, placed);
      spelled = sym (same.0 refl) ∙ is_text;
      round_trip = λ other others placed' e. ap Some (number_of-injective id other fits others
          (number (number_of other) e (IsResponseId-number_of other others placed')));
    })
Parses-then_some text spelled false id answer is same is_text fits placed number =
    Parses-none text answer is (λ n e is_id. true≢false (sym (same.1 (is_text ∙ ap uuid_text (number n e is_id) ∙ sym e))))
