-- Frames and trailers in the protocol's words (gRPC-Web protocol, "Message framing"): which messages and trailers a payload holds, what is
-- wrong with it, and where it breaks off.
use Rattle.std.specs.Prelude.{◌≡◌, ◌≢◌, ℕ, ◌^◌, ◌<◌, ◌≤◌, List, [], ◌∷◌, ◌++◌, length, map, Option, Some, None, IsSome, Result, Ok, Err, All, codes, ⊤}
use Rattle.std.specs.Option.{option_to_list}
use Rattle.std.specs.Int.{IsBitSet}
use Rattle.std.specs.Str.{str_to_ascii_lowercase}
use Rattle.std.specs.Str.Lossy.{utf8_lossy}
use Rattle.percent_encoding.specs.Percent.{percent_decode}
use Rattle.web_heads.specs.Standard.{IsDecimal}
use Rattle.web_frames.specs.declared.limits.Side.{Side}
use Rattle.web_frames.specs.declared.limits.Side.TheVariants.{Request, Response}
use Rattle.web_frames.specs.declared.fault.FrameFault.{FrameFault}
use Rattle.web_frames.specs.declared.fault.FrameFault.TheVariants.{FrameTooLong, Compressed, AfterMessage, AfterTrailers, BadTrailer, NoMessage, OutOfMemory}
use Rattle.web_frames.specs.declared.status.Trailers.{Trailers}
use Rattle.web_frames.specs.declared.event.FrameEvent.{FrameEvent}
use Rattle.web_frames.specs.declared.event.FrameEvent.TheVariants as event
use Rattle.web_frames.specs.declared.state.FramePlace.{FramePlace}
use Rattle.web_frames.specs.declared.state.FramePlace.TheVariants.{Open, Whole, Over, Refused}
use Rattle.web_frames.specs.Lines.{carriage_return, line_feed, colon, space}
use Rattle.web_frames.specs.Format.{frame_limit, frame_head, frame}
use Rattle.web_frames.specs.Machine.{FrameState}

-- ---- trailers

-- no CR LF stands in a line
abbrev pub IsLine : List ℕ → Type 0
IsLine line = (front back : List ℕ) → line ≢ front ++ carriage_return ∷ line_feed ∷ back

-- a text is these lines, each but the last ended by CR LF
abbrev pub AreLines : List ℕ → List (List ℕ) → Type 0
AreLines text [] = ⊥
AreLines text (line ∷ []) = IsLine line × (text ≡ line)
AreLines text (line ∷ next ∷ lines) =
    IsLine line × ((rest : List ℕ) × (text ≡ line ++ carriage_return ∷ line_feed ∷ rest) × AreLines rest (next ∷ lines))

-- what follows a colon is this value, behind one space that is skipped, or at once
pub data FollowsColon (rest value : List ℕ) : Type 0 where
  spaced : rest ≡ space ∷ value → FollowsColon rest value
  close : ((more : List ℕ) → rest ≢ space ∷ more) → value ≡ rest → FollowsColon rest value

-- a line `name:value`: its first colon ends the name
pub record IsNameValue (line name value : List ℕ) : Type 0 where
  pub rest : List ℕ
  pub whole : line ≡ name ++ colon ∷ rest
  pub first : (front back : List ℕ) → name ≢ front ++ colon ∷ back
  pub follows : FollowsColon rest value

-- a line `name:value` of this name, which is in lower case: names match in either case
pub record GivesValue (name line value : List ℕ) : Type 0 where
  pub own : List ℕ
  pub line_is : IsNameValue line own value
  pub same : str_to_ascii_lowercase own ≡ name

-- no line of this name is among the lines
abbrev pub LacksName : List ℕ → List (List ℕ) → Type 0
LacksName name lines = (front back : List (List ℕ)) (line value : List ℕ) → lines ≡ front ++ line ∷ back → ¬ GivesValue name line value

-- the first line of this name has this value
pub record IsFirstValue (name : List ℕ) (lines : List (List ℕ)) (value : List ℕ) : Type 0 where
  pub front : List (List ℕ)
  pub line : List ℕ
  pub back : List (List ℕ)
  pub whole : lines ≡ front ++ line ∷ back
  pub gives : GivesValue name line value
  pub first : LacksName name front

-- the value of the first line of this name, or none where no line has it
abbrev pub IsFirst : List ℕ → List (List ℕ) → Option (List ℕ) → Type 0
IsFirst name lines None = LacksName name lines
IsFirst name lines (Some value) = IsFirstValue name lines value

-- the message that a grpc-message says: its escapes decoded, read as UTF-8 with replacement characters; an absent one is empty
abbrev pub SaysMessage : Option (List ℕ) → List ℕ → Type 0
SaysMessage None message = message ≡ []
SaysMessage (Some value) message = message ≡ utf8_lossy (percent_decode value)

-- the values of grpc-status and of grpc-message say this status and message
pub record ValuesSay (status : List ℕ) (message : Option (List ℕ)) (trailers : Trailers) : Type 0 where
  pub number : IsDecimal status trailers.status
  pub fits : trailers.status < 2 ^ 32
  pub text : SaysMessage message trailers.message

-- the payload of a trailers frame says this status and message
pub record TrailersSay (payload : List ℕ) (trailers : Trailers) : Type 0 where
  pub lines : List (List ℕ)
  pub whole : AreLines payload lines
  pub status : List ℕ
  pub status_is : IsFirstValue (codes "grpc-status") lines status
  pub message : Option (List ℕ)
  pub message_is : IsFirst (codes "grpc-message") lines message
  pub values : ValuesSay status message trailers

-- what a call answers that reads trailers which say `Says`, unless memory ran out
abbrev pub Answers : (Trailers → Type 0) → Result Trailers FrameFault → Type 0
Answers Says (Ok trailers) = Says trailers
Answers Says (Err BadTrailer) = (trailers : Trailers) → ¬ Says trailers
Answers Says (Err OutOfMemory) = ⊤
Answers Says (Err (FrameTooLong count)) = ⊥
Answers Says (Err Compressed) = ⊥
Answers Says (Err AfterMessage) = ⊥
Answers Says (Err AfterTrailers) = ⊥
Answers Says (Err NoMessage) = ⊥

-- ---- frames

-- bytes, as they come on a connection
abbrev pub IsBytes : List ℕ → Type 0
IsBytes bytes = All (λ b. b < 256) bytes

-- the lowest bit of a flag marks a compressed frame, the highest the frame of the trailers; the others say nothing
abbrev pub IsCompressed : ℕ → Type 0
IsCompressed flag = IsBitSet flag 0

abbrev pub IsTrailers : ℕ → Type 0
IsTrailers flag = IsBitSet flag 7

-- a request has no trailers
abbrev pub MayStand : Side → ℕ → Type 0
MayStand Request flag = ¬ IsCompressed flag × ¬ IsTrailers flag
MayStand Response flag = ¬ IsCompressed flag

-- a frame of a side, within its limit
pub record IsFrame (side : Side) (bytes : List ℕ) (flag : ℕ) (payload : List ℕ) : Type 0 where
  pub whole : bytes ≡ frame flag payload
  pub may_stand : MayStand side flag
  pub fits : length payload ≤ frame_limit side

-- the frame of a message
pub record IsMessage (side : Side) (bytes message : List ℕ) : Type 0 where
  pub flag : ℕ
  pub frame : IsFrame side bytes flag message
  pub plain : ¬ IsTrailers flag

-- the frame of trailers
pub record IsTrailersFrame (side : Side) (bytes payload : List ℕ) : Type 0 where
  pub flag : ℕ
  pub frame : IsFrame side bytes flag payload
  pub marked : IsTrailers flag

-- bytes are the frames of these messages, one after another
abbrev pub AreMessages : Side → List ℕ → List (List ℕ) → Type 0
AreMessages side bytes [] = bytes ≡ []
AreMessages side bytes (message ∷ messages) =
    (head rest : List ℕ) × (bytes ≡ head ++ rest) × IsMessage side head message × AreMessages side rest messages

-- bytes are the frame of trailers, where there is one
abbrev pub AreTrailers : Side → List ℕ → Option Trailers → Type 0
AreTrailers side bytes None = bytes ≡ []
AreTrailers side bytes (Some trailers) = (payload : List ℕ) × IsTrailersFrame side bytes payload × TrailersSay payload trailers

-- a request is one message at most
abbrev pub IsFew : Side → List (List ℕ) → Type 0
IsFew Request messages = length messages ≤ 1
IsFew Response messages = ⊤

-- a payload is the concatenation of frames: messages, and then the trailers frame, where there is one
pub record Frames (side : Side) (bytes : List ℕ) (messages : List (List ℕ)) (trailers : Option Trailers) : Type 0 where
  pub front : List ℕ
  pub back : List ℕ
  pub whole : bytes ≡ front ++ back
  pub first : AreMessages side front messages
  pub last : AreTrailers side back trailers
  pub few : IsFew side messages

-- one frame more may come: no trailers have come, and in a request no message
abbrev pub MayGoOn : Side → List (List ℕ) → Type 0
MayGoOn Request messages = messages ≡ []
MayGoOn Response messages = ⊤

pub record GoesOn (side : Side) (bytes : List ℕ) (messages : List (List ℕ)) : Type 0 where
  pub are : AreMessages side bytes messages
  pub may : MayGoOn side messages

-- a beginning of a frame that is not the whole; its length is held against the limit once the length itself has come
pub record IsBegun (side : Side) (bytes : List ℕ) : Type 0 where
  pub more : List ℕ
  pub flag : ℕ
  pub payload : List ℕ
  pub lacks : more ≢ []
  pub whole : bytes ++ more ≡ frame flag payload
  pub may_stand : MayStand side flag
  pub short : length payload < 2 ^ 32
  pub fits : 5 ≤ length bytes → length payload ≤ frame_limit side

-- the last of these bytes settles this fault, after frames that told these messages and trailers: the fault's row, said of the shortest prefix
abbrev pub IsFault : Side → List ℕ → List (List ℕ) → Option Trailers → FrameFault → Type 0
IsFault side bytes messages trailers (FrameTooLong count) =
    (front : List ℕ) × (flag : ℕ) × GoesOn side front messages × (trailers ≡ None)
    × (bytes ≡ front ++ frame_head flag count) × MayStand side flag × (frame_limit side < count) × (count < 2 ^ 32)
IsFault side bytes messages trailers Compressed =
    (front : List ℕ) × (flag : ℕ) × GoesOn side front messages × (trailers ≡ None) × (bytes ≡ front ++ flag ∷ []) × IsCompressed flag
IsFault side bytes messages trailers NoMessage =
    (front : List ℕ) × (flag : ℕ) × GoesOn side front messages × (trailers ≡ None) × (bytes ≡ front ++ flag ∷ [])
    × (side ≡ Request) × ¬ IsCompressed flag × IsTrailers flag
IsFault side bytes messages trailers BadTrailer =
    (front back payload : List ℕ) × GoesOn side front messages × (trailers ≡ None) × (bytes ≡ front ++ back)
    × IsTrailersFrame side back payload × ((said : Trailers) → ¬ TrailersSay payload said)
IsFault side bytes messages trailers AfterMessage =
    (front : List ℕ) × (b : ℕ) × (side ≡ Request) × Frames side front messages trailers × (length messages ≡ 1) × (bytes ≡ front ++ b ∷ [])
IsFault side bytes messages trailers AfterTrailers =
    (front : List ℕ) × (b : ℕ) × (side ≡ Response) × Frames side front messages trailers × IsSome trailers × (bytes ≡ front ++ b ∷ [])
IsFault side bytes messages trailers OutOfMemory = ⊥

-- a fault once settled stays, whatever follows
pub record IsRefused (side : Side) (bytes : List ℕ) (messages : List (List ℕ)) (trailers : Option Trailers) (fault : FrameFault) : Type 0 where
  pub settled : List ℕ
  pub more : List ℕ
  pub whole : bytes ≡ settled ++ more
  pub fault_is : IsFault side settled messages trailers fault

-- what has come in these bytes by where they stand: frames and the beginning of one more, a whole request, a whole response, or a fault
abbrev pub StandsAt : FramePlace → Side → List ℕ → List (List ℕ) → Option Trailers → List ℕ → Type 0
StandsAt Open side bytes messages trailers held =
    (front : List ℕ) × GoesOn side front messages × (trailers ≡ None) × (bytes ≡ front ++ held) × IsBegun side held
StandsAt Whole side bytes messages trailers held =
    (side ≡ Request) × Frames side bytes messages trailers × (length messages ≡ 1) × (held ≡ [])
StandsAt Over side bytes messages trailers held =
    (side ≡ Response) × Frames side bytes messages trailers × IsSome trailers × (held ≡ [])
StandsAt (Refused fault) side bytes messages trailers held = IsRefused side bytes messages trailers fault × (held ≡ [])

-- the events of messages and trailers
abbrev pub events : List (List ℕ) → Option Trailers → List FrameEvent
events messages trailers = map event.Message messages ++ map event.Trailers (option_to_list trailers)

-- what bytes say: the events that have come, and where the reader of them stands
pub record Reads (side : Side) (bytes : List ℕ) (told : List FrameEvent) (state : FrameState) : Type 0 where
  pub messages : List (List ℕ)
  pub trailers : Option Trailers
  pub told_is : told ≡ events messages trailers
  pub side_is : state.side ≡ side
  pub stands : StandsAt state.place side bytes messages trailers state.held
