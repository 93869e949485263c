-- One table without rows may stand.
use Rattle.std.proofs.Common.{◌≡◌, ℕ, List, [], ◌∷◌, ◌++◌, sym, ap, subst, ◌∙◌}
use Rattle.std.specs.Prelude.{All}
use Rattle.std.specs.List.{IsDistinct}
use Rattle.std.proofs.lemmas.List.Elements.{All-cons, All-nil, All-same}
use Rattle.cn_types.specs.Fit.{Fits}
use Rattle.table_store.specs.declared.tables.NamedTable.{NamedTable}
use Rattle.table_store.specs.Standing.{AreTables}
use Rattle.table_store.proofs.tests.one_table.Goals as goal

one : (version : ℕ) (named : List NamedTable) (table : NamedTable) → named ≡ table ∷ [] → table.rows ≡ [] → AreTables (record { version = version; named = named })
unfolding IsDistinct
one version named table is none =
    subst (λ (tables : List NamedTable). AreTables (record { version = version; named = tables })) (sym is)
    (record {
      names_differ = (tt, tt);
      rows_fit =
          All-cons (λ (t : NamedTable). All (Fits t.schema) t.rows) table [] (All-same (Fits table.schema) table.rows [] none (All-nil (Fits table.schema)))
          (All-nil (λ (t : NamedTable). All (Fits t.schema) t.rows));
    })

pub returns : goal.returns
returns c =
    one 0 c.push.new.self c.args.table
    (c.in_ok-push.ensures.ok ∙ ap (λ (none : List NamedTable). none ++ c.args.table ∷ []) c.new-named.ensures) c.requires
