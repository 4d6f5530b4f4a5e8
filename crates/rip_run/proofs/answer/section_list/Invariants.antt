use Rattle.std.proofs.Common.{◌≡◌, take}
use Rattle.std.specs.Prelude.{flat_map}
use Rattle.rip_run.specs.Texts.{section_line}
use Rattle.rip_run.proofs.answer.section_list.Given as goal

abbrev pub invariant-loop-section : goal.invariant-loop-section
invariant-loop-section l = l.text ≡ flat_map section_line (take l.section-index l.sections)
