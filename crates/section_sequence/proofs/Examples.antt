-- What some sections write.
use Rattle.std.proofs.Common.{◌≡◌, false, [], ◌∷◌, Some, None, codes, refl}
use Rattle.ps_objects.specs.declared.access.Access.TheVariants.{Unlimited}
use Rattle.ps_objects.specs.declared.object.Kind.{Kind}
use Rattle.ps_objects.specs.declared.object.Kind.TheVariants as kind
use Rattle.ps_kinds.specs.declared.regs.Regs.{Regs}
use Rattle.ps_memory.specs.Memory.{Memory, picture, message, blank}
use Rattle.ps_execution.specs.Section.{Told, Through, Stopped, Quitted, OutOfTurns}
use Rattle.dsc_split.specs.declared.section.Section.{Section}
use Rattle.ps_machine.specs.Lines.{papers_of}
use Rattle.ps_machine.specs.SectionText.{section_text}
use Rattle.section_sequence.specs.Sequence.{Job, stood, sequence_from}

abbrev told_of : Kind → Told
told_of k = record { object = record { kind = k; exec = false; access = Unlimited }; bytes = [] }

module _ (R : Regs) where
  -- nothing said
  silent : section_text (record { end = Through; regs = R; report = None }) [] ≡ []
  silent = refl

  -- a closed line, with a page between its parts
  closed_line : section_text (record { end = Quitted; regs = R; report = None }) (message (codes "1") ∷ picture (blank 8 8) ∷ message (codes "2\n") ∷ []) ≡ codes "12\n"
  closed_line = refl

  one_page : papers_of (message (codes "1") ∷ picture (blank 8 8) ∷ message (codes "2\n") ∷ []) ≡ blank 8 8 ∷ []
  one_page = refl

  -- an open line, and a stop whose error was told already
  told_before : section_text (record { end = Stopped; regs = R; report = None }) (message (codes "a") ∷ []) ≡ codes "a\n%%[ Flushing: rest of job (to end-of-file) will be ignored ]%%\n"
  told_before = refl

  -- an undefined name
  undefined : section_text (record { end = Stopped; regs = R; report = Some (record { name = Some (told_of (kind.Name (codes "undefined"))); command = Some (told_of (kind.Name (codes "foo"))) }) }) []
      ≡ codes "%%[ Error: undefined; OffendingCommand: foo ]%%\n%%[ Flushing: rest of job (to end-of-file) will be ignored ]%%\n"
  undefined = refl

  -- an error of the scanner, whose command is the section's file
  in_the_scanner : section_text (record { end = Stopped; regs = R; report = Some (record { name = Some (told_of (kind.Name (codes "syntaxerror"))); command = Some (told_of (kind.File 1)) }) }) []
      ≡ codes "%%[ Error: syntaxerror; OffendingCommand: --nostringval-- ]%%\n%%[ Flushing: rest of job (to end-of-file) will be ignored ]%%\n"
  in_the_scanner = refl

  -- spent turns
  spent : section_text (record { end = OutOfTurns; regs = R; report = None }) (message (codes "1\n") ∷ [])
      ≡ codes "1\n%%[ Error: timeout; OffendingCommand: --nostringval-- ]%%\n%%[ Flushing: rest of job (to end-of-file) will be ignored ]%%\n"
  spent = refl

  -- after a stop no section runs
  stopped : (J : Job) (M : Memory) (page trailer : Section) → sequence_from J (page ∷ trailer ∷ []) (stood R M Stopped) ≡ stood R M Stopped
  stopped J M page trailer = refl
