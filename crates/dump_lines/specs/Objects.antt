-- Object text.
use Rattle.std.specs.Prelude.{ℕ, Bool, true, false, ◌&&◌, not, List, [], ◌∷◌, ◌++◌, nat_le, nat_eq, codes, flat_map, slice_get, Option, Some, None, if◌then◌else◌}
use Rattle.std.specs.Fmt.{decimal, signed_decimal}
use Rattle.ps_names.specs.Operators.{operator_names}
use Rattle.ps_objects.specs.declared.access.Access.{Access}
use Rattle.ps_objects.specs.declared.access.Access.TheVariants as access
use Rattle.ps_objects.specs.declared.cell.Cell.{Cell}
use Rattle.ps_objects.specs.declared.cell.SaveName.{SaveName}
use Rattle.ps_objects.specs.declared.object.Object.{Object}
use Rattle.ps_objects.specs.declared.object.Kind.{Kind}
use Rattle.ps_objects.specs.declared.object.Kind.TheVariants as kind
use Rattle.ps_objects.specs.declared.objects.Interval.{Interval}
use Rattle.dump_lines.specs.Hex.{hex_byte}

-- 33 to 126, but for `#` and `!`
abbrev pub stands_plain : ℕ → Bool
stands_plain b = nat_le 33 b && nat_le b 126 && not (nat_eq b 35) && not (nat_eq b 33)

-- a byte of a name: itself, or `#` and its hex
abbrev pub name_byte : ℕ → List ℕ
name_byte b = if stands_plain b then b ∷ [] else 35 ∷ hex_byte b

-- the bytes of a name
abbrev pub name_text : List ℕ → List ℕ
name_text name = flat_map name_byte name

-- a section and a count, `S.C`
abbrev pub place_text : ℕ → ℕ → List ℕ
place_text section count = decimal section ++ codes "." ++ decimal count

-- a cell by its name
abbrev pub cell_text : Cell → List ℕ
cell_text c = place_text c.section c.count

-- where a part begins and how long it is, `[START:LEN]`
abbrev pub range_text : Interval → List ℕ
range_text p = codes "[" ++ decimal p.start ++ codes ":" ++ decimal p.len ++ codes "]"

-- a part of an array or a string, `S.C[START:LEN]`
abbrev pub part_text : Interval → List ℕ
part_text p = cell_text p.cell ++ range_text p

-- a dictionary
abbrev pub dict_text : Cell → List ℕ
dict_text c = codes "d" ++ cell_text c

-- a save
abbrev pub save_text : SaveName → List ℕ
save_text s = codes "v" ++ place_text s.section s.count

-- the name of an operator
abbrev pub operator_text : Option (List ℕ) → List ℕ
operator_text (Some name) = codes "@" ++ name
operator_text None = codes "@"

-- a truth value
abbrev pub truth_text : Bool → List ℕ
truth_text b = if b then codes "true" else codes "false"

-- the letter of an array, packed or not
abbrev pub array_letter : Bool → List ℕ
array_letter packed = if packed then codes "p" else codes "a"

-- the text of a type and value
abbrev pub kind_text : Kind → List ℕ
kind_text (kind.Integer n) = signed_decimal n
kind_text (kind.Real r) = codes "r" ++ signed_decimal r.count
kind_text (kind.Boolean b) = truth_text b
kind_text kind.Null = codes "null"
kind_text kind.Mark = codes "mark"
kind_text (kind.Name name) = codes "/" ++ name_text name
kind_text (kind.Operator op) = operator_text (slice_get operator_names op)
kind_text (kind.Str part) = codes "s" ++ part_text part
kind_text (kind.Array part packed) = array_letter packed ++ part_text part
kind_text (kind.Dict c) = dict_text c
kind_text (kind.File section) = codes "f" ++ decimal section
kind_text (kind.Filter section layer) = codes "f" ++ place_text section layer
kind_text (kind.Save s) = save_text s
kind_text (kind.FontId c) = codes "i" ++ cell_text c

-- an object is executable; of an operator it isn't told
abbrev pub exec_mark : Kind → Bool → List ℕ
exec_mark (kind.Operator op) exec = []
exec_mark _ exec = if exec then codes "!" else []

-- limited access
abbrev pub access_mark : Access → List ℕ
access_mark access.Unlimited = []
access_mark access.ReadOnly = codes ".r"
access_mark access.ExecuteOnly = codes ".e"
access_mark access.NoAccess = codes ".n"

-- the text of an object
abbrev pub object_text : Object → List ℕ
object_text x = kind_text x.kind ++ exec_mark x.kind x.exec ++ access_mark x.access
