-- By induction over the sections: a cell that stood keeps its shape, or is gone for good.
use Rattle.std.proofs.Common.{◌≡◌, ◌≢◌, ℕ, suc, ◌≤◌, Bool, true, false, List, [], ◌∷◌, None, refl, sym, ◌∙◌, true≢false, inl, inr, ◌⊎◌, arith}
use Rattle.ps_objects.specs.declared.cell.Cell.{Cell}
use Rattle.ps_objects.specs.declared.cell.SaveName.{SaveName}
use Rattle.ps_memory.specs.Memory.{shape_at}
use Rattle.ps_meaning.specs.Sound.{World, has_name, StaysKin}
use Rattle.ps_meaning.specs.Kin.{in_section, Follows, last_of, IsBefore, KinLaw, HasNoneFrom, AreRising, past_last, UnnamedLaw}

Stays : World → World → Type 0
Stays W U = (c : Cell) → W.shapes c ≢ None → (U.shapes c ≡ W.shapes c) ⊎ (U.shapes c ≡ None)

stays_on : (W U V : World) → Stays W U → StaysKin (in_section V.section U) V → ((c : Cell) → c.section ≡ V.section → W.shapes c ≡ None) → Stays W V
unfolding Stays
stays_on W U V h k before c n = go (h c n) (k.others c (λ e. n (before c e)))
  where
    go : ((U.shapes c ≡ W.shapes c) ⊎ (U.shapes c ≡ None)) → ((V.shapes c ≡ U.shapes c) ⊎ (V.shapes c ≡ None)) → (V.shapes c ≡ W.shapes c) ⊎ (V.shapes c ≡ None)
    go (inl x) (inl y) = inl (y ∙ x)
    go (inr x) (inl y) = inr (y ∙ x)
    go x (inr y) = inr y

stays_to_last : (W U : World) (Vs : List World) → Stays W U → Follows U Vs → IsBefore W Vs → Stays W (last_of U Vs)
stays_to_last W U [] h f b = h
stays_to_last W U (V ∷ Vs) h f b = stays_to_last W V Vs (stays_on W U V h f.0 b.0) f.1 b.1

pub kin_law : KinLaw
unfolding Stays
kin_law W Vs B M f b s r c x y = go (stays_to_last W W Vs (λ c n. inl refl) f b c (λ e. x (s.shapes c ∙ e)))
  where
    go : (((last_of W Vs).shapes c ≡ W.shapes c) ⊎ ((last_of W Vs).shapes c ≡ None)) → shape_at B c ≡ shape_at M c
    go (inl e) = s.shapes c ∙ sym e ∙ sym (r.shapes c)
    go (inr e) = absurd (y (r.shapes c ∙ e))

-- ---- names to come

less_named : (m n : ℕ) (W : World) → n ≤ m → HasNoneFrom n W → HasNoneFrom m W
less_named m n W l h = record { cells = λ c k. h.cells c (omega (arith, l, k)); saves = λ s k. h.saves s (omega (arith, l, k)) }

unnamed_before : (n : ℕ) (W : World) (Vs : List World) → HasNoneFrom n W → AreRising n Vs → IsBefore W Vs
unnamed_before n W [] h r = tt
unnamed_before n W (V ∷ Vs) h r = (λ c e. h.cells c (omega (arith, r.0, e)), unnamed_before (suc V.section) W Vs (less_named (suc V.section) n W (omega (arith, r.0)) h) r.1)

-- a section leaves nothing of a later one
unnamed_after : (W V : World) → HasNoneFrom V.section W → StaysKin (in_section V.section W) V → HasNoneFrom (suc V.section) V
unnamed_after W V h k = record { cells = λ c l. gone c l (k.others c (λ e. omega (arith, l, e))); saves = λ s l. none s l (has_name s V.saves) refl }
  where
    gone : (c : Cell) → suc V.section ≤ c.section → ((V.shapes c ≡ W.shapes c) ⊎ (V.shapes c ≡ None)) → V.shapes c ≡ None
    gone c l (inl e) = e ∙ h.cells c (omega (arith, l))
    gone c l (inr e) = e

    none : (s : SaveName) → suc V.section ≤ s.section → (b : Bool) → has_name s V.saves ≡ b → b ≡ false
    none s l true e = absurd (true≢false (sym (k.saves s (λ e. omega (arith, l, e)) e) ∙ h.saves s (omega (arith, l))))
    none s l false e = refl

unnamed_last : (n : ℕ) (W : World) (Vs : List World) → HasNoneFrom n W → AreRising n Vs → Follows W Vs → HasNoneFrom (past_last n Vs) (last_of W Vs)
unnamed_last n W [] h r f = h
unnamed_last n W (V ∷ Vs) h r f = unnamed_last (suc V.section) V Vs (unnamed_after W V (less_named V.section n W r.0 h) f.0) r.1 f.1

pub unnamed_law : UnnamedLaw
unnamed_law = record { before = unnamed_before; after = unnamed_last }
