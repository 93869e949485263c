use Rattle.std.proofs.Common.{◌≡◌, ℕ, ◌+◌, ◌<◌, ◌∷◌, length, take, drop, subst, arith}
use Rattle.web_frames.specs.Lines.{lines_of}
use Rattle.web_frames.proofs.LineLemmas.{lines_of-at, lines_of-last, IsLine-from_places}
use Rattle.web_frames.proofs.lines.line_end.Goals as goal

pub returns-then-text-place-eq10 : goal.returns-then-text-place-eq10
returns-then-text-place-eq10 c =
    let within : c.loop-place.place + 1 < length c.args.text.now = omega arith in (
      omega arith,
      omega arith,
      subst (λ (place : ℕ). lines_of c.args.text.now ≡ take place c.args.text.now ∷ lines_of (drop (c.loop-place.place + 2) c.args.text.now)) (omega arith)
          (lines_of-at c.args.text.now c.loop-place.place within c.if-text-place-eq13.true c.if-text-place-eq10.true c.loop-place.invariant),
    )

pub returns : goal.returns
returns c = lines_of-last c.args.text.now (IsLine-from_places c.args.text.now (λ k within. c.loop-place.invariant k (omega arith)))
