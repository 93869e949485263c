-- Laws on told bytes, for whoever calls a sink or a source several times.
use Rattle.std.specs.Prelude.{ℕ, List, ◌++◌, Option, None, Some}
use Rattle.std.specs.Io.KnownBytes.{Consumes}
use Rattle.std.proofs.Common.{sym, ap, ◌∙◌, append_assoc}
use Rattle.cn_base.specs.Outside.{Adds}

-- what grew by xs and then by ys grew by both
pub Adds-append : (a b c : Option (List ℕ)) (xs ys : List ℕ) → Adds a b xs → Adds b c ys → Adds a c (xs ++ ys)
Adds-append a b None xs ys first second = tt
Adds-append a None (Some c) xs ys first second = absurd second
Adds-append None (Some b) (Some c) xs ys first second = absurd first
Adds-append (Some a) (Some b) (Some c) xs ys first second =
    second ∙ ap (λ (before : List ℕ). before ++ ys) first ∙ append_assoc a xs ys

-- what gave xs and then ys gave both
pub Consumes-append : (a b c : Option (List ℕ)) (xs ys : List ℕ) → Consumes a b xs → Consumes b c ys → Consumes a c (xs ++ ys)
Consumes-append None b c xs ys first second = tt
Consumes-append (Some a) None c xs ys first second = absurd first
Consumes-append (Some a) (Some b) None xs ys first second = absurd second
Consumes-append (Some a) (Some b) (Some c) xs ys first second =
    first ∙ ap (λ (rest : List ℕ). xs ++ rest) second ∙ sym (append_assoc xs ys c)
