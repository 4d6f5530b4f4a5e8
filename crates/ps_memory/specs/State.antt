-- Memory: what each cell holds, the bytes of strings, the state of the random numbers, the paper, and the kept copies.
use Rattle.std.specs.Prelude.{ℕ, Bool, ◌&&◌, List, length, nat_eq}
use Rattle.std.specs.FinMap.{FinMap}
use Rattle.ps_shapes.specs.Sheet.{Sheet}
use Rattle.ps_objects.specs.declared.access.Access.{Access}
use Rattle.ps_objects.specs.declared.cell.SaveName.{SaveName}
use Rattle.ps_objects.specs.declared.cell.Space.TheVariants.{Local}
use Rattle.ps_objects.specs.declared.object.Object.{Object}
use Rattle.ps_memory.specs.Order.{cell_cmp, key_cmp}

-- the two names are one: the section and the count agree
abbrev pub same_save : SaveName → SaveName → Bool
same_save a b = nat_eq a.section b.section && nat_eq a.count b.count

-- What a cell holds: a dictionary with its capacity, its access and its entries; the items of an array; the length of a string, whose
-- bytes lie apart, since no restore takes them back (section 3.3 of the language manual: data types and objects).
pub data Content : Type 0 where
  dictionary : (capacity : ℕ) → Access → FinMap key_cmp Object → Content
  items : List Object → Content
  characters : (len : ℕ) → Content

-- what each cell of a part of memory holds
abbrev pub CellMap : Type 0
CellMap = FinMap cell_cmp Content

-- the paper, or the size of the paper that an operator has in its hands
pub data Page : Type 0 where
  here : Sheet → Page
  out : (width height : ℕ) → Page

-- Local and global cells, the bytes of strings, the state of the random numbers, the paper, and the copies that open saves keep, the newest
-- first. A copy is the local part as it stood when the save was made (section 3.7 of the language manual: memory management).
pub record Memory : Type 0 where
  pub locals : CellMap
  pub globals : CellMap
  pub strings : FinMap cell_cmp (List ℕ)
  pub rand : ℕ
  pub page : Page
  pub kept : List (SaveName × CellMap)
