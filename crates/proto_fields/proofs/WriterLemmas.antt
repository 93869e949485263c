-- Bytes that are kept in the opposite order.
use Rattle.std.proofs.Common.{◌≡◌, ℕ, List, ◌++◌, length, take, drop, ap, ◌∙◌}
use Rattle.std.specs.Prelude.{reverse}
use Rattle.std.proofs.lemmas.List.{reverse-append, reverse-reverse}
use Rattle.std.proofs.Math.Seq.{take-append_seam, drop-append_seam}

-- what was appended and then turned stands before what stood there
pub turned : (old more : List ℕ) → reverse (take (length old) (old ++ more) ++ reverse (drop (length old) (old ++ more))) ≡ more ++ reverse old
turned old more =
    ap (λ (front : List ℕ). reverse (front ++ reverse (drop (length old) (old ++ more)))) (take-append_seam old more)
    ∙ ap (λ (back : List ℕ). reverse (old ++ reverse back)) (drop-append_seam old more)
    ∙ reverse-append old (reverse more)
    ∙ ap (λ (front : List ℕ). front ++ reverse old) (reverse-reverse more)
