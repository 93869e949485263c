-- Trailers as functions of their bytes, read and written (gRPC-Web protocol, "Message framing"; gRPC over HTTP2, "Status-Message").
use Rattle.std.specs.Prelude.{◌≡◌, ℕ, ◌^◌, ◌-◌, if◌then◌else◌, ◌==◌, ◌&&◌, not, Bool, nat_le, List, [], ◌∷◌, ◌++◌, Option, Some, None, Result, Ok, Err, option_and_then, option_map, codes}
use Rattle.std.specs.List.{flat_map}
use Rattle.std.specs.Fmt.{decimal}
use Rattle.std.specs.Str.Lossy.{utf8_lossy}
use Rattle.percent_encoding.specs.Percent.{percent_sign, percent_encode_byte, percent_decode}
use Rattle.web_heads.specs.Texts.{decimal_of}
use Rattle.web_frames.specs.Lines.{carriage_return, line_feed, first_value}
use Rattle.web_frames.specs.declared.status.Trailers.{Trailers}
use Rattle.web_frames.specs.declared.fault.FrameFault.{FrameFault}
use Rattle.web_frames.specs.declared.fault.FrameFault.TheVariants.{FrameTooLong, Compressed, AfterMessage, AfterTrailers, BadTrailer, NoMessage, OutOfMemory}

-- the greatest status
abbrev pub most_status : ℕ
most_status = 2 ^ 32 - 1

-- the message that a grpc-message writes: its escapes decoded, and read as UTF-8 with U+FFFD for what isn't; empty where there is none
unfoldable pub message_of : Option (List ℕ) → List ℕ
message_of None = []
message_of (Some value) = utf8_lossy (percent_decode value)

-- the trailers of the values of grpc-status and of grpc-message; none where the status is no decimal number of 32 bits
unfoldable pub trailers_of : List ℕ → Option (List ℕ) → Option Trailers
trailers_of status message =
    option_map (λ number. record { status = number; message = message_of message }) (decimal_of status most_status)

-- the trailers of the payload of a trailers frame; none where it has no right status
unfoldable pub trailers_in : List ℕ → Option Trailers
trailers_in payload =
    option_and_then (λ status. trailers_of status (first_value (codes "grpc-message") payload)) (first_value (codes "grpc-status") payload)

-- a call gave these trailers, or that there are none with a right status, unless memory ran out
abbrev pub GivesTrailers : Result Trailers FrameFault → Option Trailers → Type 0
GivesTrailers (Ok trailers) expected = expected ≡ Some trailers
GivesTrailers (Err BadTrailer) expected = expected ≡ None
GivesTrailers (Err OutOfMemory) expected = Unit {0}
GivesTrailers (Err (FrameTooLong count)) expected = ⊥
GivesTrailers (Err Compressed) expected = ⊥
GivesTrailers (Err AfterMessage) expected = ⊥
GivesTrailers (Err AfterTrailers) expected = ⊥
GivesTrailers (Err NoMessage) expected = ⊥

-- ---- written

abbrev pub line_end : List ℕ
line_end = carriage_return ∷ line_feed ∷ []

-- a byte of a message that stands for itself: 0x20 to 0x7E without the percent sign
abbrev pub is_kept : ℕ → Bool
is_kept b = nat_le 0x20 b && nat_le b 0x7E && not (b == percent_sign)

-- a message with its other bytes percent-encoded
unfoldable pub escaped : List ℕ → List ℕ
escaped message = flat_map (λ b. if is_kept b then b ∷ [] else percent_encode_byte b) message

-- the line of a message that is not empty
abbrev pub message_line : List ℕ → List ℕ
message_line [] = []
message_line (b ∷ message) = codes "grpc-message:" ++ escaped (b ∷ message) ++ line_end

-- the payload of a trailers frame as it is written
unfoldable pub trailers_text : Trailers → List ℕ
trailers_text trailers = codes "grpc-status:" ++ decimal trailers.status ++ line_end ++ message_line trailers.message
