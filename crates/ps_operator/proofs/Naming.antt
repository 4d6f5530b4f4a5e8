-- The names that a sound state has not taken yet are free.
use Rattle.std.proofs.Common.{◌≡◌, ℕ, ◌+◌, ◌<◌, ◌≤◌, Bool, true, false, not, ◌&&◌, List, [], ◌∷◌, map, None, sym, ap, ◌∙◌, subst, inl, inr, ◌⊎◌, arith}
use Rattle.std.specs.List.{AllByRecursion}
use Rattle.std.specs.Cmp.{second_so}
use Rattle.std.specs.Ordering.{nat_cmp, is_gt, ordering_then}
use Rattle.ps_objects.specs.declared.cell.Cell.{Cell}
use Rattle.ps_objects.specs.declared.cell.SaveName.{SaveName}
use Rattle.ps_kinds.specs.declared.state.State.{State}
use Rattle.ps_memory.specs.Memory.{is_global, newer, CellMap, Memory, shape_at}
use Rattle.ps_memory.specs.Frame.{later, IsNewest}
use Rattle.ps_meaning.specs.Registers.{world_of}
use Rattle.ps_meaning.proofs.Memory.{no_string}
use Rattle.vm_mem.specs.Conditions.{MayMake, MayOpen}
use Rattle.ps_meaning.specs.Ready.{IsMadeBefore, Ready}
use Rattle.ps_operator.specs.Making.{cell_named, next_cell, cell_after, next_save}
use Rattle.ps_operator.proofs.Standing.{page_stands}

above_first : (a b c d : ℕ) → c < a → is_gt (ordering_then (nat_cmp a c) (nat_cmp b d)) ≡ true
above_first a b c d h = grind arith

above_second : (a b c d : ℕ) → c ≡ a → d < b → is_gt (ordering_then (nat_cmp a c) (nat_cmp b d)) ≡ true
above_second a b c d e h = grind arith

pub above_means : (a b c d : ℕ) → is_gt (ordering_then (nat_cmp a c) (nat_cmp b d)) ≡ true → (c < a) ⊎ ((a ≡ c) × (d < b))
above_means a b c d h = grind arith

pub above : (section count n : ℕ) (r : SaveName) → n ≤ count → IsMadeBefore section n r → is_gt (ordering_then (nat_cmp section r.section) (nat_cmp count r.count)) ≡ true
above section count n r l (inl h) = above_first section count r.section r.count h
above section count n r l (inr h) = above_second section count r.section r.count h.0 (omega (arith, h.1))

pub newer_made_before : (c : Cell) (n : ℕ) (r : SaveName) → is_global c ≡ false → n ≤ c.count → IsMadeBefore c.section n r → newer c r ≡ true
newer_made_before c n r g l h = ap (λ b. not b && is_gt (ordering_then (nat_cmp c.section r.section) (nat_cmp c.count r.count))) g ∙ above c.section c.count n r l h

all_newer : (c : Cell) (n : ℕ) → is_global c ≡ false → n ≤ c.count → (kept : List (SaveName × CellMap)) → AllByRecursion (IsMadeBefore c.section n) (map (λ k. k.0) kept) → AllByRecursion (λ k. newer c k.0 ≡ true) kept
all_newer c n g l [] h = tt
all_newer c n g l (k ∷ kept) h = (newer_made_before c n k.0 g l h.0, all_newer c n g l kept h.1)

all_later : (section n : ℕ) (kept : List (SaveName × CellMap)) → AllByRecursion (IsMadeBefore section n) (map (λ k. k.0) kept) → AllByRecursion (λ k. later (record { section = section; count = n }) k.0 ≡ true) kept
all_later section n [] h = tt
all_later section n (k ∷ kept) h = (above section n n k.0 (omega arith) h.0, all_later section n kept h.1)

module _ (s : State) (M : Memory) (r : Ready s M) where
  free_from : (count : ℕ) (global : Bool) → s.count ≤ count → MayMake M (cell_named s.section count global)
  unfolding MayMake
  free_from count global l = (page_stands s M r, λ d e f. r.state.ahead.here d e (subst (λ n. s.count ≤ n) (sym f) l), λ g. all_newer (cell_named s.section count global) s.count g l M.kept r.state.ahead.saves)

  pub next_free : MayMake M (next_cell s)
  next_free = free_from s.count s.regs.global (omega arith)

  pub after_free : (n : ℕ) → MayMake M (cell_after s n)
  after_free n = free_from (s.count + n) s.regs.global (omega arith)

  none_newer : IsNewest M (next_save s)
  none_newer c h = (none, no_string (world_of s.section M) M r.memory c none)
    where
      go : ((s.section < c.section) ⊎ ((c.section ≡ s.section) × (s.count < c.count))) → shape_at M c ≡ None
      go (inl l) = r.state.ahead.later c l
      go (inr e) = r.state.ahead.here c e.0 (omega (arith, e.1))

      none : shape_at M c ≡ None
      none = go (above_means c.section c.count s.section s.count (second_so (not (is_global c)) (is_gt (ordering_then (nat_cmp c.section s.section) (nat_cmp c.count s.count))) h))

  pub save_free : MayOpen M (next_save s)
  unfolding MayOpen
  save_free = (page_stands s M r, (none_newer, all_later s.section s.count M.kept r.state.ahead.saves))
