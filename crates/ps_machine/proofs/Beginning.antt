-- A section that may run begins in a state from which the machine may.
use Rattle.std.proofs.Common.{◌≡◌, ℕ, zero, suc, ◌≤◌, ◌<◌, ◌⊎◌, Bool, true, false, cond, List, [], ◌∷◌, sym, ap, ◌∙◌, arith, true≢false, inl, inr, refl}
use Rattle.std.specs.List.{AllByRecursion}
use Rattle.ps_objects.specs.declared.cell.SaveName.{SaveName}
use Rattle.ps_kinds.specs.declared.regs.Regs.{Regs}
use Rattle.ps_memory.specs.Memory.{CellMap, Memory, same_save}
use Rattle.ps_meaning.specs.Fits.{Shapes}
use Rattle.ps_meaning.specs.Ready.{IsAhead, IsMadeBefore, Fall}
use Rattle.ps_meaning.specs.Registers.{world_of}
use Rattle.ps_meaning.specs.Sound.{has_name, SoundKept}
use Rattle.ps_machine.specs.Starting.{MayRun, BeginsLaw}

or_below : (n m : ℕ) → (m < n) ⊎ (n ≤ m)
or_below zero m = inr (omega arith)
or_below (suc n) zero = inl (omega arith)
or_below (suc n) (suc m) = go (or_below n m)
  where
    go : ((m < n) ⊎ (n ≤ m)) → (suc m < suc n) ⊎ (suc n ≤ suc m)
    go (inl l) = inl (omega (arith, l))
    go (inr l) = inr (omega (arith, l))

same_itself : (s : SaveName) → same_save s s ≡ true
same_itself s = grind arith

-- the saves of a memory without a save of number n or a greater one were made before section n
made_before : (n : ℕ) (saves : List SaveName) → ((s : SaveName) → n ≤ s.section → has_name s saves ≡ false) → AllByRecursion (IsMadeBefore n 0) saves
made_before n [] h = tt
made_before n (r ∷ rs) h = (inl (earlier (or_below n r.section)), made_before n rs (λ s l. rest s (same_save s r) (h s l)))
  where
    rest : (s : SaveName) (b : Bool) → cond b true (has_name s rs) ≡ false → has_name s rs ≡ false
    rest s true e = absurd (true≢false e)
    rest s false e = e

    earlier : ((r.section < n) ⊎ (n ≤ r.section)) → r.section < n
    earlier (inl l) = l
    earlier (inr l) = absurd (true≢false (sym (ap (λ b. cond b true (has_name r rs)) (same_itself r)) ∙ h r l))

-- saves fall, and none is of section 0
saves_fall : (K : Shapes) (saves : List SaveName) (kept : List (SaveName × CellMap)) → SoundKept K saves kept → Fall saves × AllByRecursion (λ (r : SaveName). 1 ≤ r.section) saves
saves_fall K [] [] h = (tt, tt)
saves_fall K (s ∷ saves) (k ∷ kept) h = let r = saves_fall K saves kept h.4 in ((h.3, r.0), (h.1, r.1))
saves_fall K [] (k ∷ kept) h = absurd h
saves_fall K (s ∷ saves) [] h = absurd h

ahead : (n : ℕ) (R : Regs) (M : Memory) → 1 ≤ n → MayRun n R M → IsAhead (world_of n M) 0
ahead n R M l m =
    let f = saves_fall (world_of n M).shapes (world_of n M).saves M.kept (m.sound.memory n).kept in
    record {
      here = λ c e k. m.unnamed.cells c (omega (arith, e));
      later = λ c k. m.unnamed.cells c (omega (arith, k));
      saves = made_before n (world_of n M).saves m.unnamed.saves;
      fall = f.0;
      begun = f.1;
      section = l;
    }

pub begins_law : BeginsLaw
begins_law text settings moment n kind R M l m = record {
  fits = (
    record {
      state = record {
        registers = m.sound.registers n;
        frames = tt;
        ahead = ahead n R M l m;
        budget = record { turns = omega arith; units = omega arith; shows = omega arith; said = omega arith };
        section = refl;
      };
      start = (m.sound.memory n).start;
      within = omega arith;
    },
    omega arith,
  );
  memory = m.sound.memory n;
}
