-- What was read, the part so far, and what will be read of the rest are what is read of the whole text.
use Rattle.std.specs.String.{string_bytes}
use Rattle.resolve_names.proofs.Walking.{IsWalked}
use Rattle.resolve_names.proofs.identifier.read_parts.Given as goal

abbrev pub invariant-loop-character : goal.invariant-loop-character
invariant-loop-character l = IsWalked l.text l.done (string_bytes l.part) l.place l.character-iterator.rest.now
