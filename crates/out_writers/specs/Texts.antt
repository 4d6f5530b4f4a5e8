-- The texts that are written.
use Rattle.std.specs.Prelude.{ℕ, List, ◌++◌, codes, flat_map}
use Rattle.std.specs.Fmt.{decimal}
use Rattle.ps_shapes.specs.Picture.{picture_bytes}
use Rattle.ps_shapes.specs.Sheet.{Sheet}

-- `P4`, then width and height
abbrev pub picture_header : Sheet → List ℕ
picture_header s = codes "P4\n" ++ decimal s.width ++ codes " " ++ decimal s.height ++ codes "\n"

-- a picture: its header, then its rows
abbrev pub picture_text : Sheet → List ℕ
picture_text s = picture_header s ++ picture_bytes s

-- pictures in order
unfoldable pub pictures : List Sheet → List ℕ
pictures = flat_map picture_text

-- the rest of the job is dropped
abbrev pub flushing_line : List ℕ
flushing_line = codes "%%[ Flushing: rest of job (to end-of-file) will be ignored ]%%\n"

-- the report of an error that stopped a section: the error's name, and the plain text of the object that was executed
abbrev pub report_text : List ℕ → List ℕ → List ℕ
report_text name command = codes "%%[ Error: " ++ name ++ codes "; OffendingCommand: " ++ command ++ codes " ]%%\n" ++ flushing_line
