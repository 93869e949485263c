-- The table of the change's name is changed in its place, or made at the end.
use Rattle.std.proofs.Common.{◌≡◌, ℕ, ◌+◌, List, ◌++◌, [], ◌∷◌, get_or, sym, ap, ◌∙◌}
use Rattle.std.specs.List.{position, slice_set}
use Rattle.table_store.specs.declared.tables.NamedTable.{NamedTable}
use Rattle.table_store.specs.declared.tables.Tables.{Tables}
use Rattle.table_store.specs.Names.{has_name}
use Rattle.table_store.proofs.Changing.{applied-absent, applied-placed}
use Rattle.table_store.proofs.tables.Tables.apply.Goals as goal
use Rattle.table_store.proofs.tables.Tables.apply.Goals.{in-Some+in_ok-table-in-Some, in-None+in_ok-table-in-None+in_ok-push-in-None}

-- the tables under the next version
abbrev next : Tables → Tables
next tables = record { version = tables.version + 1; named = tables.named }

pub returns-clause-ok : goal.returns-clause-ok
returns-clause-ok c =
    let tables = c.args.self.now in
    let change = c.args.change in
    let of_name : position (has_name change.name) tables.named ≡ c.place_of.result
    = ap (λ (name : List ℕ). position (has_name name) tables.named) (sym c.as_str.ensures) ∙ sym c.place_of.ensures in
    elim c.match-place_of.branch [
      | in-Some+in_ok-table-in-Some w ↦
          let table = w.index-as_slice-at.result in
          let read : table ≡ get_or tables.named w.in-Some.at table
          = w.index-as_slice-at.is ∙ ap (λ (named : List NamedTable). get_or named w.in-Some.at table) w.as_slice.ensures in
          let put = w.set.ensures ∙ ap (λ (t : NamedTable). slice_set tables.named w.in-Some.at t) w.in_ok-table-in-Some.ensures in
          ap next (w.self-is ∙ ap (λ (named : List NamedTable). let t : Tables = record { version = tables.version; named = named } in t) put)
          ∙ sym (applied-placed change tables w.in-Some.at table c.requires.tables.names_differ (of_name ∙ w.in-Some.is) read)
      | in-None+in_ok-table-in-None+in_ok-push-in-None w ↦
          let put = w.in_ok-push-in-None.ensures.ok ∙ ap (λ (t : NamedTable). tables.named ++ t ∷ []) w.in_ok-table-in-None.ensures in
          ap next (w.self-is ∙ ap (λ (named : List NamedTable). let t : Tables = record { version = tables.version; named = named } in t) put)
          ∙ sym (applied-absent change tables (of_name ∙ w.in-None.is))
    ]
