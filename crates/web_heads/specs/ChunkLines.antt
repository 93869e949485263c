-- The line before a chunk's data, as a function of its bytes (RFC 9112, section 7.1).
use Rattle.std.specs.Prelude.{ℕ, if◌then◌else◌, ◌==◌, ◌&&◌, nat_lt, nat_le, List, [], ◌∷◌, length, Option, Some, None, option_and_then, option_map}
use Rattle.std.specs.List.{list_all}
use Rattle.std.specs.Char.{is_ascii_hexdigit}
use Rattle.httparse.specs.Ascii.{semicolon}
use Rattle.httparse.specs.Grammar.{LineEnd, crlf, lf, ChunkLine, is_ows, is_extension_byte}
use Rattle.httparse.specs.Grammar as grammar
use Rattle.web_heads.specs.Lines.{Line, lines_of}
use Rattle.web_heads.specs.Texts.{◌>>=◌, run}

-- the longest chunk line that is read, in bytes
abbrev pub most_chunk_line : ℕ
most_chunk_line = 256

-- nothing, or a semicolon and an extension (RFC 9112, section 7.1.1)
abbrev pub extension_of : List ℕ → Option (Option (List ℕ))
extension_of [] = Some None
extension_of (b ∷ text) = if b == semicolon && list_all is_extension_byte text then Some (Some text) else None

-- one to sixteen hexadecimal digits, of which the standard sets no number, white space, and what follows
unfoldable pub chunk_text : List ℕ → Option ChunkLine
chunk_text text = do
  let digits = run is_ascii_hexdigit text
  let pad = run is_ows digits.1
  extension ← extension_of pad.1
  if nat_lt 0 (length digits.0) && nat_le (length digits.0) 16
      then Some (record { digits = digits.0; pad = pad.0; extension = extension }) else None

-- one line that ends in CR LF
abbrev pub text_of_line : LineEnd → List ℕ → Option ChunkLine
text_of_line crlf text = chunk_text text
text_of_line lf text = None

abbrev pub only_chunk_line : List Line → Option ChunkLine
only_chunk_line [] = None
only_chunk_line (l ∷ []) = text_of_line l.ending l.text
only_chunk_line (l ∷ m ∷ lines) = None

-- bytes as a chunk line, all of them
unfoldable pub chunk_line_of : List ℕ → Option ChunkLine
chunk_line_of bytes = option_and_then only_chunk_line (lines_of bytes)

-- the size that a line of at most 256 bytes gives; none where it is no such line
unfoldable pub chunk_size : List ℕ → Option ℕ
chunk_size bytes = if nat_lt most_chunk_line (length bytes) then None else option_map grammar.chunk_size (chunk_line_of bytes)
