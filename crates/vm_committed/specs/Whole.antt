-- A memory, seen from its parts.
use Rattle.std.specs.Prelude.{◌≡◌, ℕ, List, refl, ◌⊎◌}
use Rattle.std.proofs.Common.{inl, inr}
use Rattle.std.specs.Coded.{Coded, code_by, coded×, coded⊎, coded_list, coded_ℕ}
use Rattle.std.specs.BTreeMap.{BTreeMap}
use Rattle.std.specs.FinMap as map
use Rattle.ps_shapes.specs.Sheet.{Sheet}
use Rattle.ps_shapes.specs.contracts.paper.Paper as papers
use Rattle.ps_objects.specs.declared.cell.Cell.{Cell}
use Rattle.ps_objects.specs.contracts.cell.Cell as cells
use Rattle.ps_memory.specs.Memory as spec
use Rattle.ps_memory.specs.Memory.{Content, Memory, here, out}
use Rattle.vm_content.specs.Maps.{cells_of}
use Rattle.vm_journal.specs.Part.{Part, cells_code, kept_code}
use Rattle.vm_committed.specs.declared.page.Page.{Page}
use Rattle.vm_committed.specs.declared.page.Page.TheVariants.{Here, Out}

-- the page of the definition
abbrev pub page_of : Page → spec.Page
page_of (Here paper) = here paper
page_of (Out width height) = out width height

-- a memory, from its parts
abbrev pub memory_of : Part → BTreeMap Cell Content → BTreeMap Cell (List ℕ) → ℕ → Page → Memory
memory_of locals globals strings rand page =
    record { locals = locals.cells; globals = cells_of globals; strings = cells_of strings; rand = rand; page = page_of page; kept = locals.kept }

-- ---- how a memory is told from another

-- the parts of a page
abbrev page_parts : spec.Page → Sheet ⊎ (ℕ × ℕ)
page_parts (here p) = inl p
page_parts (out w h) = inr (w, h)

-- the page of such parts
abbrev of_page_parts : Sheet ⊎ (ℕ × ℕ) → spec.Page
of_page_parts (inl p) = here p
of_page_parts (inr p) = out p.0 p.1

-- its parts tell a page
abbrev same_page_parts : (x : spec.Page) → of_page_parts (page_parts x) ≡ x
same_page_parts (here p) = refl
same_page_parts (out w h) = refl

-- pages are told from each other by their parts
abbrev page_code : Coded spec.Page
page_code = code_by _ (coded⊎ papers.the_row.coded (coded× coded_ℕ coded_ℕ)) page_parts of_page_parts same_page_parts

-- memories are told from each other by their parts
abbrev pub memory_code : Coded Memory
memory_code = code_by _
    (coded× cells_code (coded× cells_code (coded× (map.code cells.the_row.coded (coded_list coded_ℕ)) (coded× coded_ℕ (coded× page_code kept_code)))))
    (λ M. (M.locals, (M.globals, (M.strings, (M.rand, (M.page, M.kept))))))
    (λ p. record { locals = p.0; globals = p.1.0; strings = p.1.1.0; rand = p.1.1.1.0; page = p.1.1.1.1.0; kept = p.1.1.1.1.1 })
    (λ _. refl)
