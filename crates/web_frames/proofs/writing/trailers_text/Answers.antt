use Rattle.std.proofs.Common.{◌∙◌, ◌++◌, List, ℕ, eqb, length, codes, sym, ap}
use Rattle.std.specs.Fmt.{decimal}
use Rattle.web_frames.specs.Trailers.{escaped}
use Rattle.web_frames.proofs.WritingLemmas.{trailers_text-silent, trailers_text-message}
use Rattle.web_frames.proofs.writing.trailers_text.Goals as goal

pub returns-then-is_empty : goal.returns-then-is_empty
returns-then-is_empty c =
    let none = sym (ap (λ (message : List ℕ). eqb (length message) 0) c.as_str-message.ensures) ∙ sym c.is_empty.ensures ∙ c.if-is_empty.true in
    c.in_ok-line.ensures.ok ∙ trailers_text-silent c.args.trailers.now none

pub returns : goal.returns
returns c =
    let some = sym (ap (λ (message : List ℕ). eqb (length message) 0) c.as_str-message.ensures) ∙ sym c.is_empty.ensures ∙ c.if-is_empty.false in
    let message = c.in_ok-message.ensures ∙ ap escaped c.as_str-message.ensures in
    c.in_ok-lines.ensures.ok
    ∙ ap (λ (line : List ℕ). codes "grpc-status:" ++ (decimal c.args.trailers.now.status ++ (codes "\r\ngrpc-message:" ++ (line ++ codes "\r\n")))) message
    ∙ trailers_text-message c.args.trailers.now some
