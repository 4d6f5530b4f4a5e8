-- The memory with which a job starts.
use Rattle.std.specs.Prelude.{ℕ, List, [], ◌∷◌, codes}
use Rattle.std.specs.FinMap.{from_entries}
use Rattle.ps_objects.specs.declared.access.Access.TheVariants.{Unlimited, ReadOnly}
use Rattle.ps_objects.specs.declared.cell.Cell.{Cell}
use Rattle.ps_objects.specs.declared.settings.Settings.{Settings}
use Rattle.ps_memory.specs.Memory.{Content, dictionary, items, characters, Memory, here, blank}
use Rattle.ps_meaning.specs.Registers.{system_dict, global_dict, user_dict}
use Rattle.ps_meaning.specs.StartCells.{error_dict, error_record, status_dict, font_directory, global_font_directory, version, product, empty_dash}
use Rattle.ps_meaning.specs.StartEntries.{system_entries, error_entries, error_record_entries}

-- what local cells hold at the start
abbrev pub start_locals : List (Cell × Content)
start_locals =
    (user_dict, dictionary 0 Unlimited (from_entries [])) ∷ (error_dict, dictionary 0 Unlimited (from_entries error_entries))
    ∷ (error_record, dictionary 0 Unlimited (from_entries error_record_entries)) ∷ (status_dict, dictionary 0 Unlimited (from_entries []))
    ∷ (font_directory, dictionary 0 ReadOnly (from_entries [])) ∷ (version, characters 8) ∷ (empty_dash, items []) ∷ []

-- what global cells hold at the start
abbrev pub start_globals : List (Cell × Content)
start_globals =
    (system_dict, dictionary 0 ReadOnly (from_entries system_entries)) ∷ (global_dict, dictionary 0 Unlimited (from_entries []))
    ∷ (global_font_directory, dictionary 0 ReadOnly (from_entries [])) ∷ (product, characters 8) ∷ []

-- the bytes of the two strings of the start
abbrev pub start_strings : List (Cell × List ℕ)
start_strings = (version, codes "page-rip") ∷ (product, codes "page-rip") ∷ []

-- memory at the start of a job: blank paper of the settings' size
abbrev pub start_memory : Settings → Memory
start_memory s =
    record { locals = from_entries start_locals; globals = from_entries start_globals; strings = from_entries start_strings; rand = 1; page = here (blank s.width s.height); kept = [] }
