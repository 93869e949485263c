-- Buffers that come after others in a body.
use Rattle.std.proofs.Common.{◌≡◌, ℕ, pos, ◌+◌, List, [], ◌∷◌, ◌++◌, length, arith, ap, ◌∙◌, length-append}
use Rattle.flat_tables.specs.Layout.{padded}
use Rattle.flat_tables.specs.declared.object.FlatPair.{FlatPair}
use Rattle.arrow_ipc.specs.Columns.{body_of, spans_from}

pub spans_from-append : (at : ℕ) (xs ys : List (List ℕ)) → spans_from at (xs ++ ys) ≡ spans_from at xs ++ spans_from (at + length (body_of xs)) ys
spans_from-append at [] ys = ap (λ (n : ℕ). spans_from n ys) (omega arith)
spans_from-append at (x ∷ xs) ys =
    let e : (at + length (padded x)) + length (body_of xs) ≡ at + length (padded x ++ body_of xs) = omega (arith, length-append (padded x) (body_of xs)) in
    ap (λ (ss : List FlatPair). record { first = pos at; second = pos (length x) } ∷ ss) (spans_from-append (at + length (padded x)) xs ys ∙ ap (λ (n : ℕ). spans_from (at + length (padded x)) xs ++ spans_from n ys) e)
