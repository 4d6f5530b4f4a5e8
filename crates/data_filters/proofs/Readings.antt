-- Where layers stand.
use Rattle.std.proofs.Common.{◌≡◌, ℕ, zero, suc, ◌+◌, ◌<◌, List, [], ◌∷◌, Some, None, length, drop, refl, sym, ap, ◌∙◌, add-one}
use Rattle.std.specs.Prelude.{slice_get, slice_set}
use Rattle.std.proofs.lemmas.Option.{get_or_from_slice_get, slice_get_within}
use Rattle.std.proofs.Math.Seq.{drop-cons, drop-nil}
use Rattle.filter_tower.specs.declared.standing.Standing.{Standing}
use Rattle.data_filters.specs.declared.reading.Reading.{Reading}
use Rattle.data_filters.specs.Layers.{pending, standing_at, put, at_end}
use Rattle.data_filters.specs.Found.{GivesPending}

-- the item of a list at a place, and the others behind it
pub drop_some : (xs : List ℕ) (i x : ℕ) → slice_get xs i ≡ Some x → drop i xs ≡ x ∷ drop (i + 1) xs
drop_some xs i x h =
    let lt : i < length xs = slice_get_within xs i x h in
    drop-cons xs i 0 lt ∙ ap (λ y. y ∷ drop (suc i) xs) (get_or_from_slice_get xs i x 0 h) ∙ ap (λ n. x ∷ drop n xs) (sym (add-one i))

pub drop_none : (xs : List ℕ) (i : ℕ) → slice_get xs i ≡ None → drop i xs ≡ []
drop_none [] i h = drop-nil i
drop_none (x ∷ xs) zero h = absurd (let no : Some x ≡ None = h in cc)
drop_none (x ∷ xs) (suc i) h = drop_none xs i h

-- the standing that was read at a place
pub standing_is : (reading : Reading) (k : ℕ) (standing : Standing) → slice_get reading.standings k ≡ Some standing → standing_at reading k ≡ standing
standing_is reading k standing h = get_or_from_slice_get reading.standings k standing at_end h

pub gives_none : (reading : Reading) (k : ℕ) (standing : Standing) → slice_get reading.standings k ≡ Some standing
    → slice_get standing.code standing.from ≡ None → GivesPending k reading None reading
gives_none reading k standing at none =
    let e : pending (standing_at reading k) ≡ pending standing = ap pending (standing_is reading k standing at) in
    (e ∙ drop_none standing.code standing.from none, refl)

pub gives_some : (reading : Reading) (k b : ℕ) (standing : Standing) (standings : List Standing) → slice_get reading.standings k ≡ Some standing
    → slice_get standing.code standing.from ≡ Some b → standings ≡ slice_set reading.standings k (record standing { from = standing.from + 1 })
    → GivesPending k reading (Some b) (record reading { standings = standings })
gives_some reading k b standing standings at some is =
    let e : standing_at reading k ≡ standing = standing_is reading k standing at in (
      ap pending e ∙ drop_some standing.code standing.from b some ∙ ap (λ (x : Standing). b ∷ drop (x.from + 1) x.code) (sym e),
      ap (λ (x : List Standing). record reading { standings = x }) is ∙ ap (λ (x : Standing). put k (record x { from = x.from + 1 }) reading) (sym e),
    )
