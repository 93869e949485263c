-- Keys that rise: one proof of it at most, and the map of entries has such keys.
use Rattle.std.proofs.Common.{◌≡◌, ℕ, true, List, [], ◌∷◌, refl, sym, ap, ◌∙◌, subst}
use Rattle.std.specs.Prelude.{IsTrue}
use Rattle.std.specs.List.{AllByRecursion}
use Rattle.std.specs.Coded.{×_prop, Unit-prop, Coded-set, coded_bool}
use Rattle.std.specs.declared.cmp.Ordering.{Ordering}
use Rattle.std.specs.declared.cmp.Ordering.TheVariants.{Less, Equal, Greater}
use Rattle.std.specs.Ordering.{nat_cmp, is_lt, ordering_reverse}
use Rattle.std.specs.Cmp.Lexicographic.{slice_cmp}
use Rattle.std.proofs.lemmas.Cmp.{nat_list_cmp_total}
use Rattle.plain_relations.specs.declared.rename_entry.RenameEntry.{RenameEntry}
use Rattle.plain_relations.specs.Maps.{put_before, map_of, KeysRise}

pub KeysRise-prop : (entries : List RenameEntry) → IsProp (KeysRise entries)
unfolding KeysRise
KeysRise-prop [] = Unit-prop
KeysRise-prop (entry ∷ []) = Unit-prop
KeysRise-prop (entry ∷ next ∷ others) = ×_prop (Coded-set coded_bool (is_lt (slice_cmp nat_cmp entry.key next.key)) true) (KeysRise-prop (next ∷ others))

-- keys in the order of their bytes
abbrev pub order : List ℕ → List ℕ → Ordering
order first second = slice_cmp nat_cmp first second

pub less_by : (o : Ordering) → IsTrue (is_lt o) → o ≡ Less
less_by Less rises = refl
less_by Equal rises = cc
less_by Greater rises = cc

pub is_less : (o : Ordering) → o ≡ Less → IsTrue (is_lt o)
is_less o less = rw less refl

pub turned_back : (first second : List ℕ) → order first second ≡ Greater → order second first ≡ Less
turned_back first second greater = nat_list_cmp_total.antisymm second first ∙ ap ordering_reverse greater

-- all keys are above this one
abbrev pub IsBelow : List ℕ → List RenameEntry → Type 0
IsBelow key entries = AllByRecursion (λ entry. order key entry.key ≡ Less) entries

pub lower_below : (low key : List ℕ) (entries : List RenameEntry) → order low key ≡ Less → IsBelow key entries → IsBelow low entries
lower_below low key [] less below = tt
lower_below low key (entry ∷ entries) less below =
    (nat_list_cmp_total.trans low key entry.key less below.0, lower_below low key entries less below.1)

pub rising_tail : (entry : RenameEntry) (entries : List RenameEntry) → KeysRise (entry ∷ entries) → KeysRise entries
unfolding KeysRise
rising_tail entry [] rising = tt
rising_tail entry (next ∷ entries) rising = rising.1

pub rising_below : (entry : RenameEntry) (entries : List RenameEntry) → KeysRise (entry ∷ entries) → IsBelow entry.key entries
unfolding KeysRise
rising_below entry [] rising = tt
rising_below entry (next ∷ entries) rising =
    let less = less_by (order entry.key next.key) rising.0 in
    (less, lower_below entry.key next.key entries less (rising_below next entries rising.1))

pub below_rises : (entry : RenameEntry) (entries : List RenameEntry) → IsBelow entry.key entries → KeysRise entries → KeysRise (entry ∷ entries)
unfolding KeysRise
below_rises entry [] below rising = tt
below_rises entry (next ∷ entries) below rising = (is_less (order entry.key next.key) below.0, rising)

pub put_less : (entry next : RenameEntry) (others : List RenameEntry) → order entry.key next.key ≡ Less → put_before entry (next ∷ others) ≡ entry ∷ next ∷ others
unfolding put_before
put_less entry next others less = rw less refl

pub put_equal : (entry next : RenameEntry) (others : List RenameEntry) → order entry.key next.key ≡ Equal → put_before entry (next ∷ others) ≡ next ∷ others
unfolding put_before
put_equal entry next others same = rw same refl

pub put_greater : (entry next : RenameEntry) (others : List RenameEntry) → order entry.key next.key ≡ Greater → put_before entry (next ∷ others) ≡ next ∷ put_before entry others
unfolding put_before
put_greater entry next others greater = rw greater refl

pub below_put : (low : List ℕ) (entry : RenameEntry) (map : List RenameEntry) → order low entry.key ≡ Less → IsBelow low map → IsBelow low (put_before entry map)
unfolding put_before
below_put low entry [] less below = (less, tt)
below_put low entry (next ∷ others) less below = by (order entry.key next.key) refl (below_put low entry others less below.1)
  where
    by : (o : Ordering) → order entry.key next.key ≡ o → IsBelow low (put_before entry others) → IsBelow low (put_before entry (next ∷ others))
    by Less is inner = subst (IsBelow low) (sym (put_less entry next others is)) (less, below)
    by Equal is inner = subst (IsBelow low) (sym (put_equal entry next others is)) below
    by Greater is inner = subst (IsBelow low) (sym (put_greater entry next others is)) (below.0, inner)

put_rises : (entry : RenameEntry) (map : List RenameEntry) → KeysRise map → KeysRise (put_before entry map)
unfolding put_before KeysRise
put_rises entry [] rising = tt
put_rises entry (next ∷ others) rising = by (order entry.key next.key) refl (put_rises entry others (rising_tail next others rising))
  where
    by : (o : Ordering) → order entry.key next.key ≡ o → KeysRise (put_before entry others) → KeysRise (put_before entry (next ∷ others))
    by Less is inner = subst KeysRise (sym (put_less entry next others is)) (is_less (order entry.key next.key) is, rising)
    by Equal is inner = subst KeysRise (sym (put_equal entry next others is)) rising
    by Greater is inner =
        subst KeysRise (sym (put_greater entry next others is))
        (below_rises next (put_before entry others) (below_put next.key entry others (turned_back entry.key next.key is) (rising_below next others rising)) inner)

pub map_rises : (entries : List RenameEntry) → KeysRise (map_of entries)
unfolding map_of KeysRise
map_rises [] = tt
map_rises (entry ∷ later) = put_rises entry (map_of later) (map_rises later)
