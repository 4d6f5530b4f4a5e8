-- What an outlet that counts pages gets of papers and text.
use Rattle.std.proofs.Common.{◌≡◌, ℕ, ◌+◌, List, length}
use Rattle.ps_shapes.specs.Sheet.{Sheet}
use Rattle.section_sequence.specs.declared.page_counter.PageCounter.{PageCounter}

-- what an outlet says of two states of it, some papers and a text
abbrev pub Writing : Type 0 → Type 1
Writing O = O → O → List Sheet → List ℕ → Type 0

-- the outlet got these papers and this text, and each page was counted
pub record CountsAll {O : Type 0} (since : Writing O) (new old : PageCounter O) (papers : List Sheet) (text : List ℕ) : Type 0 where
  pub over : new.out.ghost_name ≡ old.out.ghost_name
  pub written : since new.out.now old.out.now papers text
  pub shown : new.shown ≡ old.shown + length papers

-- the outlet got a front of these papers and of this text
pub record CountsFront {O : Type 0} (cut : Writing O) (new old : PageCounter O) (papers : List Sheet) (text : List ℕ) : Type 0 where
  pub over : new.out.ghost_name ≡ old.out.ghost_name
  pub written : cut new.out.now old.out.now papers text
