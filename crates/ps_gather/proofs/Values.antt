-- Values to which a name led.
use Rattle.std.proofs.Common.{◌≡◌, ℕ, suc, Bool, true, false, true≢false, not, cond, ◌&&◌, ◌==◌, List, [], ◌∷◌, length, reverse, map, Some, refl, sym, ap, ◌∙◌, arith}
use Rattle.ps_names.specs.declared.error_name.ErrorName.TheVariants.{InvalidAccess}
use Rattle.ps_objects.specs.Object.{cell_named}
use Rattle.ps_objects.specs.declared.object.Object.{Object}
use Rattle.ps_kinds.specs.declared.state.State.{State}
use Rattle.ps_execution.specs.Gather as meaning
use Rattle.ps_execution.specs.Gather.{Onward, names_local, scanned, bad}
use Rattle.ps_gather.specs.Gathered.{told, Is}
use Rattle.ps_gather.specs.declared.gathering.Gathering.{Gathering}
use Rattle.ps_gather.specs.declared.spelt.Spelt.TheVariants as spelt

ones_there : (n : ℕ) → not (suc n == 0) ≡ true
ones_there n = grind arith

never_both : (b : Bool) → (b && false) ≡ true → ⊥
never_both true h = true≢false (sym h)
never_both false h = true≢false (sym h)

module _ (s : State) (x : Object) (g : Gathering) where
  abbrev local : Bool
  local = s.regs.global && names_local (cell_named x.kind)

  abbrev pub barred : Bool
  barred = not (length g.braces == 0) && local

  barred_in : (k : Onward) (place : ℕ) (ones : List (List Object)) (b : Bool) → local ≡ b → (not (length ones == 0) && b) ≡ true
      → meaning.complete_value_in k s x place (told s g) (map reverse ones) ≡ scanned (bad InvalidAccess) place (told s g)
  barred_in k place [] b e h = absurd (true≢false (sym h))
  barred_in k place (items ∷ outer) true e h = ap (λ b. cond b (scanned (bad InvalidAccess) place (told s g)) (meaning.complete_in k s x place (told s g) (map reverse (items ∷ outer)))) e
  barred_in k place (items ∷ outer) false e h = absurd (never_both (not (suc (length outer) == 0)) h)

  pub barred_is : barred ≡ true → Is (λ k place. meaning.complete_value k s x place (told s g)) s (Some (spelt.Bad InvalidAccess)) g
  barred_is h k place = barred_in k place g.braces local refl h

  let_in_by : (k : Onward) (place : ℕ) (ones : List (List Object)) (b : Bool) → local ≡ b → (not (length ones == 0) && b) ≡ false
      → meaning.complete_value_in k s x place (told s g) (map reverse ones) ≡ meaning.complete_in k s x place (told s g) (map reverse ones)
  let_in_by k place [] b e h = refl
  let_in_by k place (items ∷ outer) true e h = absurd (true≢false (sym (ap (λ b. b && true) (ones_there (length outer))) ∙ h))
  let_in_by k place (items ∷ outer) false e h = ap (λ b. cond b (scanned (bad InvalidAccess) place (told s g)) (meaning.complete_in k s x place (told s g) (map reverse (items ∷ outer)))) e

  pub let_in : (k : Onward) (place : ℕ) → barred ≡ false → meaning.complete_value k s x place (told s g) ≡ meaning.complete k s x place (told s g)
  let_in k place h = let_in_by k place g.braces local refl h
