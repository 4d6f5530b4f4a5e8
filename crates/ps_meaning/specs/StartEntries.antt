-- The entries of the dictionaries of the start.
use Rattle.std.specs.Prelude.{ℕ, suc, pos, false, true, List, [], ◌∷◌, ◌++◌, take, codes}
use Rattle.ps_names.specs.declared.places.TheConstants.{FIRST_DEFAULT_ENTRY}
use Rattle.ps_objects.specs.Object.{whole_of}
use Rattle.ps_objects.specs.declared.access.Access.TheVariants.{Unlimited, ReadOnly}
use Rattle.ps_objects.specs.declared.cell.Cell.{Cell}
use Rattle.ps_objects.specs.declared.key.Key.{Key}
use Rattle.ps_objects.specs.declared.key.Key.TheVariants as key
use Rattle.ps_objects.specs.declared.object.Object.{Object}
use Rattle.ps_objects.specs.declared.object.Kind.{Kind}
use Rattle.ps_objects.specs.declared.object.Kind.TheVariants as kind
use Rattle.ps_names.specs.Operators.{operator_names, error_names}
use Rattle.ps_memory.specs.Memory.{dictionary}
use Rattle.ps_meaning.specs.Registers.{system_dict, global_dict, user_dict}
use Rattle.ps_meaning.specs.StartCells.{error_dict, error_record, status_dict, font_directory, global_font_directory, version, product}

-- a literal object with unlimited access
abbrev pub literal : Kind → Object
literal k = record { kind = k; exec = false; access = Unlimited }

-- an executable operator, by its place in the list
abbrev pub operator : ℕ → Object
operator n = record { kind = kind.Operator n; exec = true; access = Unlimited }

-- a string of eight bytes that may be read
abbrev pub read_only_string : Cell → Object
read_only_string c = record { kind = kind.Str (whole_of c 8); exec = false; access = ReadOnly }

-- the operators from a place in the list on, under their names
abbrev pub numbered : ℕ → List (List ℕ) → List (Key × Object)
numbered n [] = []
numbered n (name ∷ names) = (key.Name name, operator n) ∷ numbered (suc n) names

-- the values of the system dictionary that are no operators
abbrev pub system_values : List (Key × Object)
system_values =
    (key.Name (codes "true"), literal (kind.Boolean true)) ∷ (key.Name (codes "false"), literal (kind.Boolean false)) ∷ (key.Name (codes "null"), literal kind.Null)
    ∷ (key.Name (codes "systemdict"), literal (kind.Dict system_dict)) ∷ (key.Name (codes "globaldict"), literal (kind.Dict global_dict))
    ∷ (key.Name (codes "userdict"), literal (kind.Dict user_dict)) ∷ (key.Name (codes "errordict"), literal (kind.Dict error_dict))
    ∷ (key.Name (codes "$error"), literal (kind.Dict error_record)) ∷ (key.Name (codes "statusdict"), literal (kind.Dict status_dict))
    ∷ (key.Name (codes "FontDirectory"), literal (kind.Dict font_directory)) ∷ (key.Name (codes "GlobalFontDirectory"), literal (kind.Dict global_font_directory))
    ∷ (key.Name (codes "languagelevel"), literal (kind.Integer (pos 2))) ∷ (key.Name (codes "version"), read_only_string version)
    ∷ (key.Name (codes "product"), read_only_string product) ∷ []

-- all operators but the default entries of errors
abbrev pub system_entries : List (Key × Object)
system_entries = system_values ++ numbered 0 (take FIRST_DEFAULT_ENTRY operator_names)

-- the default entries of errors under their names
abbrev pub error_entries : List (Key × Object)
error_entries = numbered FIRST_DEFAULT_ENTRY error_names

-- no error has been recorded
abbrev pub error_record_entries : List (Key × Object)
error_record_entries = (key.Name (codes "newerror"), literal (kind.Boolean false)) ∷ []
