-- The cells of the start, in the order of their counts, without those that are always on the dictionary stack.
use Rattle.ps_objects.specs.declared.cell.Cell.{Cell}
use Rattle.ps_objects.specs.declared.cell.Space.TheVariants.{Local, Global}

-- `errordict`, by which errors are handled
abbrev pub error_dict : Cell
error_dict = record { section = 0; count = 3; space = Local }

-- `$error`, where errors are recorded
abbrev pub error_record : Cell
error_record = record { section = 0; count = 4; space = Local }

-- `statusdict`
abbrev pub status_dict : Cell
status_dict = record { section = 0; count = 5; space = Local }

-- `FontDirectory`
abbrev pub font_directory : Cell
font_directory = record { section = 0; count = 6; space = Local }

-- `GlobalFontDirectory`
abbrev pub global_font_directory : Cell
global_font_directory = record { section = 0; count = 7; space = Global }

-- the string of `version`
abbrev pub version : Cell
version = record { section = 0; count = 8; space = Local }

-- the string of `product`
abbrev pub product : Cell
product = record { section = 0; count = 9; space = Global }

-- the cell of the empty dash array
abbrev pub empty_dash : Cell
empty_dash = record { section = 0; count = 10; space = Local }
