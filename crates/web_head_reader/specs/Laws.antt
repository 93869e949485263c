-- Laws over the definitions, for all bytes.
use Rattle.std.specs.Prelude.{◌≡◌, ◌↔◌, ℕ, ◌⊎◌, List, ◌∷◌, ◌++◌, fold}
use Rattle.std.specs.List.{concat}
use Rattle.web_head_reader.specs.declared.fault.HeadReadFault.{HeadReadFault}
use Rattle.web_head_reader.specs.declared.fault.HeadReadFault.TheVariants.{HeadTooLong}
use Rattle.web_head_reader.specs.declared.place.HeadPlace.TheVariants.{Open, Whole, Refused}
use Rattle.web_head_reader.specs.Steps.{HeadState, begin, after, refused_at}
use Rattle.web_head_reader.specs.Standard.{IsHead, HasHead, IsBegun, IsTooLong, HasTooLong}

-- the machine is within a head, after one or refused exactly where the bytes say so, and keeps the beginning or the head
pub record HeadsAreRead : Type 0 where
  pub begun : (bytes : List ℕ) → IsBegun bytes ↔ (after begin bytes ≡ record { place = Open; held = bytes })
  pub within : (bytes : List ℕ) → IsBegun bytes ↔ ((after begin bytes).place ≡ Open)
  pub whole : (bytes head : List ℕ) → HasHead bytes head ↔ (after begin bytes ≡ record { place = Whole; held = head })
  pub too_long : (bytes : List ℕ) → HasTooLong bytes ↔ (after begin bytes ≡ refused_at HeadTooLong)

-- all bytes are exactly one of these: a beginning of a head, a head with bytes after it, or too long; a head has one end
pub record HeadsAreOne : Type 0 where
  pub some : (bytes : List ℕ) → IsBegun bytes ⊎ (((head : List ℕ) × HasHead bytes head) ⊎ HasTooLong bytes)
  pub begun_not_whole : (bytes head : List ℕ) → IsBegun bytes → ¬ (HasHead bytes head)
  pub begun_not_too_long : (bytes : List ℕ) → IsBegun bytes → ¬ (HasTooLong bytes)
  pub whole_not_too_long : (bytes head : List ℕ) → HasHead bytes head → ¬ (HasTooLong bytes)
  pub one_head : (bytes first second : List ℕ) → HasHead bytes first → HasHead bytes second → first ≡ second

-- a head and what is too long end at the first byte where they can: fewer bytes are a beginning
pub record EndsAreFirst : Type 0 where
  pub whole : (front : List ℕ) (b : ℕ) (back : List ℕ) → IsHead (front ++ b ∷ back) → IsBegun front
  pub too_long : (front : List ℕ) (b : ℕ) (back : List ℕ) → IsTooLong (front ++ b ∷ back) → IsBegun front

-- pieces one after another lead where the joined bytes lead
pub record PiecesJoin : Type 0 where
  pub state : (s : HeadState) (pieces : List (List ℕ)) → fold after s pieces ≡ after s (concat pieces)
  pub ended : (s : HeadState) (bytes : List ℕ) → s.place ≡ Whole → after s bytes ≡ s
  pub refused : (s : HeadState) (bytes : List ℕ) (fault : HeadReadFault) → s.place ≡ Refused fault → after s bytes ≡ s
