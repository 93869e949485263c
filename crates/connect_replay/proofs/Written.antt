-- The front of a buffer after a read into its rest.
use Rattle.std.proofs.Common.{◌≡◌, ℕ, ◌+◌, ◌≤◌, List, ◌++◌, length, take, ap, sym, ◌∙◌}
use Rattle.std.proofs.Math.Seq.{take-append-add}
use Rattle.std.proofs.lemmas.List.{take-append-le, length-take-le}
use borrow.Rule.Slice.PartMut.{put_mid, post_of}

-- the bytes before the place stay, and behind them stand the first bytes that were written
pub take-put_mid_part : (a k more : ℕ) (xs ys : List ℕ) → a ≤ length xs → more ≤ length ys → take (a + more) (put_mid a k xs ys) ≡ take a xs ++ take more ys
take-put_mid_part a k more xs ys within some =
    let front = length-take-le a xs within in
    ap (λ (n : ℕ). take (n + more) (put_mid a k xs ys)) (sym front)
    ∙ take-append-add (take a xs) (ys ++ post_of a k xs) more
    ∙ ap (λ (back : List ℕ). take a xs ++ back) (take-append-le more ys (post_of a k xs) some)
