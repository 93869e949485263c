-- Maps with the same entries are the same.
use Rattle.std.proofs.Common.{◌≡◌, List}
use mathlib.Core.HLevel.{Σ_prop_path}
use Rattle.plain_relations.specs.declared.rename_entry.RenameEntry.{RenameEntry}
use Rattle.plain_relations.specs.declared.rename_map.RenameMap.{RenameMap}
use Rattle.plain_relations.specs.Maps.{KeysRise}
use Rattle.plain_relations.specs.Rising.{KeysRise-prop}

pub same_rename_map : (a b : RenameMap) → a.entries ≡ b.entries → a ≡ b
same_rename_map a b same =
    let pairs : ◌≡◌ {A = (es : List RenameEntry) × KeysRise es} (a.entries, a.rising) (b.entries, b.rising) = Σ_prop_path (λ es. KeysRise-prop es) same in
    λ i. record { entries = (pairs i).0; rising = (pairs i).1 }
