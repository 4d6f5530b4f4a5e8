-- The lines that are written for a job.
use Rattle.std.specs.Prelude.{ℕ, List, ◌++◌, codes}
use Rattle.std.specs.Fmt.{decimal}
use Rattle.dsc_split.specs.Sections.{section_text}
use Rattle.dsc_split.specs.declared.section.Section.{Section}

-- the refusal of words
abbrev pub usage_line : List ℕ
usage_line = codes "%%[ usage: rip_main render, plain, spec, split or sample ]%%\n"

-- the refusal of a job by its bytes
abbrev pub too_large_line : List ℕ
too_large_line = codes "%%[ job refused: too large ]%%\n"

-- the refusal of a job by its pages
abbrev pub too_many_line : ℕ → List ℕ
too_many_line count = codes "%%[ job refused: " ++ decimal count ++ codes " pages ]%%\n"

-- the closing line: so many pages were shown
abbrev pub done_line : ℕ → List ℕ
done_line shown = codes "%%[ done: " ++ decimal shown ++ codes " shown ]%%\n"

-- a section's line in the list of sections
abbrev pub section_line : Section → List ℕ
section_line section = section_text section ++ codes "\n"
