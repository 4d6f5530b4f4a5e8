-- What a memory is known to have.
use Rattle.std.specs.Prelude.{ℕ, List}
use Rattle.ps_shapes.specs.Sheet.{Sheet}
use Rattle.ps_objects.specs.declared.cell.SaveName.{SaveName}
use Rattle.ps_memory.specs.Memory.{paper, is}
use Rattle.ps_meaning.specs.Fits.{Shapes}

-- a size in pixels
pub record Size : Type 0 where
  pub width : ℕ
  pub height : ℕ

-- the size of a sheet
abbrev pub size_of : Sheet → Size
size_of p = record { width = p.width; height = p.height }

-- what a memory is known to have: the shapes of its cells, the open saves, the newest first, and the size of its paper;
-- and the number of the section that runs
pub record World : Type 0 where
  pub shapes : Shapes
  pub saves : List SaveName
  pub size : Size
  pub section : ℕ
