-- What is read of one group of fields among groups of other numbers.
use Rattle.std.proofs.Common.{◌≡◌, ◌≢◌, ℕ, List, [], ◌∷◌, ◌++◌, refl, sym, ap, ◌∙◌}
use Rattle.std.proofs.lemmas.List.{append-nil}
use Rattle.proto_fields.specs.Fields.{Field}
use Rattle.proto_fields.specs.Readings.{number_in, payload_in, last_number, last_payload, payloads}
use Rattle.proto_fields.proofs.PieceLemmas.{AllByRecursion-append}
use Rattle.proto_fields.proofs.ReadingLemmas.{option_or-none}
use Rattle.proto_fields.proofs.ReturnLemmas.{last_some-append, last_number-others, last_payload-others, payloads-append, payloads-others}
use Rattle.expression_messages.proofs.Pieces.{HaveNumber}
use Rattle.field_groups.specs.Groups.{AreOthers, ReadsAs}

-- ---- fields of other numbers

pub are_others : (number other : ℕ) (fields : List Field) → HaveNumber other fields → other ≢ number → AreOthers number fields
are_others number other [] numbered different = tt
are_others number other (field ∷ fields) numbered different = (λ e. different (sym numbered.0 ∙ e), are_others number other fields numbered.1 different)

pub two_others : (number : ℕ) (a b : List Field) → AreOthers number a → AreOthers number b → AreOthers number (a ++ b)
two_others number a b first second = AllByRecursion-append (λ field. field.number ≢ number) a b first second

-- ---- payloads beside fields of other numbers

pub payload_before : (number : ℕ) (front back : List Field) → AreOthers number back → last_payload number (front ++ back) ≡ last_payload number front
payload_before number front back others =
    rw (last_some-append (payload_in number) front back) (rw (last_payload-others number back others) refl)

pub payload_behind : (number : ℕ) (front back : List Field) → AreOthers number front → last_payload number (front ++ back) ≡ last_payload number back
payload_behind number front back others =
    rw (last_some-append (payload_in number) front back) (rw (last_payload-others number front others) (option_or-none (last_payload number back)))

pub payloads_before : (number : ℕ) (front back : List Field) → AreOthers number back → payloads number (front ++ back) ≡ payloads number front
payloads_before number front back others =
    payloads-append number front back ∙ ap (λ (ps : List (List ℕ)). payloads number front ++ ps) (payloads-others number back others) ∙ append-nil (payloads number front)

pub payloads_behind : (number : ℕ) (front back : List Field) → AreOthers number front → payloads number (front ++ back) ≡ payloads number back
payloads_behind number front back others =
    payloads-append number front back ∙ ap (λ (ps : List (List ℕ)). ps ++ payloads number back) (payloads-others number front others)

-- ---- what is read of one part

pub alone : (number : ℕ) (part : List Field) → ReadsAs number part part
alone number part = record { number_is = refl; payload_is = refl; payloads_are = refl }

-- with fields of other numbers in front
pub behind : (number : ℕ) (front part : List Field) → AreOthers number front → ReadsAs number (front ++ part) part
behind number front part others = record {
  number_is = rw (last_some-append (number_in number) front part) (rw (last_number-others number front others) (option_or-none (last_number number part)));
  payload_is = payload_behind number front part others;
  payloads_are = payloads_behind number front part others;
}

-- a part of a whole stays what is read with fields of other numbers on each side
pub before_others : (number : ℕ) (whole part back : List Field) → ReadsAs number whole part → AreOthers number back → ReadsAs number (whole ++ back) part
before_others number whole part back reads others = record {
  number_is = rw (last_some-append (number_in number) whole back) (rw (last_number-others number back others) reads.number_is);
  payload_is = payload_before number whole back others ∙ reads.payload_is;
  payloads_are = payloads_before number whole back others ∙ reads.payloads_are;
}

-- the same with fields of one other number behind
pub before : (number other : ℕ) (whole part back : List Field) → ReadsAs number whole part → HaveNumber other back → other ≢ number → ReadsAs number (whole ++ back) part
before number other whole part back reads numbered different = before_others number whole part back reads (are_others number other back numbered different)

pub behind_others : (number : ℕ) (front whole part : List Field) → ReadsAs number whole part → AreOthers number front → ReadsAs number (front ++ whole) part
behind_others number front whole part reads others =
    let rest = behind number front whole others in
    record { number_is = rest.number_is ∙ reads.number_is; payload_is = rest.payload_is ∙ reads.payload_is; payloads_are = rest.payloads_are ∙ reads.payloads_are }
