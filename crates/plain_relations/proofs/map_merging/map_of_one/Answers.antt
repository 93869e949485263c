-- No entry has the map of none, and one is its own map.
use Rattle.std.proofs.Common.{◌≡◌, ℕ, ◌∷◌, ◌++◌, [], List, ap, ◌∙◌, arith}
use Rattle.plain_relations.specs.declared.rename_entry.RenameEntry.{RenameEntry}
use Rattle.plain_relations.proofs.Merging.{map_zero, map_one}
use Rattle.plain_relations.proofs.map_merging.map_of_one.Goals as goal

pub returns-then-count-eq0-clause-map : goal.returns-then-count-eq0-clause-map
returns-then-count-eq0-clause-map c = c.new-found.ensures.items ∙ map_zero c.args.entries.now c.args.count (omega arith)

pub returns-in_ok-push_back-in-Some-clause-map : goal.returns-in_ok-push_back-in-Some-clause-map
returns-in_ok-push_back-in-Some-clause-map c =
    let entry = c.in-Some.entry in
    let one : c.args.count ≡ 1 = omega arith in
    c.in_ok-push_back-in-Some.ensures.items
    ∙ ap (λ (es : List RenameEntry). es ++ entry ∷ []) c.new-found.ensures.items
    ∙ map_one c.args.entries.now entry c.pop.new.self c.args.count c.in-Some.ensures one
