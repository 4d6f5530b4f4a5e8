-- A job starts in a sound state.
use Rattle.ps_objects.specs.declared.settings.Settings.{Settings}
use Rattle.ps_meaning.specs.Registers.{SoundState, world_of}
use Rattle.ps_meaning.specs.Kin.{HasNoneFrom}
use Rattle.ps_meaning.specs.StartMemory.{start_memory}
use Rattle.ps_meaning.specs.StartRegisters.{start_registers}

-- a job starts in a sound state, in which no cell or save has a name of a section to come
abbrev pub StartLaw : Type 0
StartLaw = (s : Settings) → SoundState (start_registers s) (start_memory s) × HasNoneFrom 1 (world_of 1 (start_memory s))
