-- Laws over the definitions, for all bytes.
use Rattle.std.specs.Prelude.{◌≡◌, ◌↔◌, ℕ, ◌⊎◌, List, ◌∷◌, ◌++◌, fold}
use Rattle.std.specs.List.{concat}
use Rattle.web_frames.specs.Standard.{IsBytes}
use Rattle.web_contents.specs.declared.fault.WebFault.{WebFault}
use Rattle.web_requests.specs.Machine.{RequestState, whole, refused, more, read, faulty, begin, after, reading_of, request_in}
use Rattle.web_requests.specs.Standard.{HasRequest, IsBegun, IsRequestFault, HasFault}

-- the bytes say that more has to come, a request or a fault exactly where they are a beginning of a request, begin with the request, or have
-- the fault
pub record RequestsAreRead : Type 0 where
  pub begun : (bytes : List ℕ) → IsBytes bytes → IsBegun bytes ↔ (request_in bytes ≡ more)
  pub whole : (bytes path message : List ℕ) → IsBytes bytes → HasRequest bytes path message ↔ (request_in bytes ≡ read path message)
  pub refused : (bytes : List ℕ) (fault : WebFault) → IsBytes bytes → HasFault bytes fault ↔ (request_in bytes ≡ faulty fault)

-- bytes are exactly one of these: a beginning of a request, a request and bytes after it, or a fault and bytes after it; each in one way
pub record RequestsAreOne : Type 0 where
  pub some : (bytes : List ℕ) → IsBytes bytes →
      IsBegun bytes
      ⊎ (((path : List ℕ) × (message : List ℕ) × HasRequest bytes path message) ⊎ ((fault : WebFault) × HasFault bytes fault))
  pub begun_not_whole : (bytes path message : List ℕ) → IsBytes bytes → IsBegun bytes → ¬ (HasRequest bytes path message)
  pub begun_not_refused : (bytes : List ℕ) (fault : WebFault) → IsBytes bytes → IsBegun bytes → ¬ (HasFault bytes fault)
  pub whole_not_refused : (bytes path message : List ℕ) (fault : WebFault) → IsBytes bytes
      → HasRequest bytes path message → ¬ (HasFault bytes fault)
  pub one_request : (bytes path message other_path other_message : List ℕ) → IsBytes bytes
      → HasRequest bytes path message → HasRequest bytes other_path other_message → (path ≡ other_path) × (message ≡ other_message)
  pub one_fault : (bytes : List ℕ) (fault wrong : WebFault) → IsBytes bytes → HasFault bytes fault → HasFault bytes wrong → fault ≡ wrong

-- a fault is settled by the first byte that can settle one: fewer bytes are a beginning of a request
abbrev pub FaultsAreFirst : Type 0
FaultsAreFirst = (front : List ℕ) (b : ℕ) (back : List ℕ) (fault : WebFault) → IsBytes (front ++ b ∷ back)
    → IsRequestFault (front ++ b ∷ back) fault → IsBegun front

-- pieces one after another lead where the joined bytes lead, and so say what these say
pub record PiecesJoin : Type 0 where
  pub state : (s : RequestState) (pieces : List (List ℕ)) → fold after s pieces ≡ after s (concat pieces)
  pub said : (pieces : List (List ℕ)) → reading_of (fold after begin pieces) ≡ request_in (concat pieces)
  pub ended : (path message bytes : List ℕ) → after (whole path message) bytes ≡ whole path message
  pub stays : (fault : WebFault) (bytes : List ℕ) → after (refused fault) bytes ≡ refused fault
