-- The registers and the memory with which a job starts.
pub use Rattle.ps_meaning.specs.StartCells.{error_dict, error_record, status_dict, font_directory, global_font_directory, version, product, empty_dash}
pub use Rattle.ps_meaning.specs.StartEntries.{literal, operator, read_only_string, numbered, system_values, system_entries, error_entries, error_record_entries}
pub use Rattle.ps_meaning.specs.StartMemory.{start_locals, start_globals, start_strings, start_memory}
pub use Rattle.ps_meaning.specs.StartRegisters.{whole_real, scale_of, default_matrix, empty_dash_object, start_state, start_registers}
pub use Rattle.ps_meaning.specs.StartLaw.{StartLaw}
