-- The full text of an object, as `==` writes it (section 8.2 of the language manual).
use Rattle.std.specs.Prelude.{ℕ, zero, suc, ◌+◌, Bool, if◌then◌else◌, List, [], ◌∷◌, ◌++◌, codes, slice_get, Result, Ok, Err}
use Rattle.ps_names.specs.Operators.{operator_names}
use Rattle.ps_names.specs.declared.error_name.ErrorName.{ErrorName}
use Rattle.ps_objects.specs.Access.{read_right}
use Rattle.ps_objects.specs.declared.access.Access.{Access}
use Rattle.ps_objects.specs.declared.object.Kind.{Kind}
use Rattle.ps_objects.specs.declared.object.Kind.TheVariants as kind
use Rattle.ps_objects.specs.declared.object.Object.{Object}
use Rattle.ps_objects.specs.declared.objects.Interval.{Interval}
use Rattle.ps_kinds.specs.declared.state.State.{State}
use Rattle.ps_operator.specs.Looks.{look_item}
use Rattle.ps_operator.specs.Tree.{read, look_then, found}
use Rattle.plain_texts.specs.Plain.{listed, plain_of}
use Rattle.full_texts.specs.Growing.{allowed, Growth, whole}
use Rattle.full_texts.specs.Bytes.{string_shown}

-- ---- objects that need no look

-- a name, behind a slash where it is literal
abbrev pub name_text : Bool → List ℕ → List ℕ
name_text exec name = if exec then name else 47 ∷ name

-- an operator's name between hyphens
abbrev pub operator_text : ℕ → List ℕ
operator_text op = codes "--" ++ listed (slice_get operator_names op) ++ codes "--"

-- the text of an object that is neither a string nor an array
abbrev pub simple_text : Bool → Kind → List ℕ
simple_text exec (kind.Name name) = name_text exec name
simple_text exec (kind.Operator op) = operator_text op
simple_text exec kind.Null = codes "null"
simple_text exec kind.Mark = codes "-mark-"
simple_text exec (kind.Dict c) = codes "-dict-"
simple_text exec (kind.File n) = codes "-file-"
simple_text exec (kind.Filter n layer) = codes "-file-"
simple_text exec (kind.Save name) = codes "-save-"
simple_text exec (kind.FontId c) = codes "-font-"
simple_text exec k = plain_of k []

-- ---- arrays

-- a space before each item but the first
abbrev pub gap : ℕ → List ℕ
gap zero = []
gap (suc at) = codes " "

-- the brace or bracket before the items
abbrev pub opening : Bool → List ℕ
opening exec = if exec then codes "{" else codes "["

-- the one behind them
abbrev pub closing : Bool → List ℕ
closing exec = if exec then codes "}" else codes "]"

-- so many items of an array from a place on, each looked at
abbrev pub items_shown : State → (Object → Growth) → Interval → ℕ → ℕ → Growth
items_shown s item a at zero text = found text
items_shown s item a at (suc n) text =
    read (allowed s (text ++ gap at)) (λ t.
    look_item a at (λ x.
    look_then (item x t) (λ u.
    items_shown s item a (at + 1) n u)))

-- an array with its items; one that may not be read has none
abbrev pub array_if : State → (Object → Growth) → Bool → Interval → Result (Unit {0}) ErrorName → Growth
array_if s item exec a (Err e) text = whole s (text ++ codes "-array-")
array_if s item exec a (Ok _) text =
    read (allowed s (text ++ opening exec)) (λ t.
    look_then (items_shown s item a 0 a.len t) (λ u.
    whole s (u ++ closing exec)))

-- the same by its access
abbrev pub array_shown : State → (Object → Growth) → Bool → Access → Interval → Growth
array_shown s item exec right a text = array_if s item exec a (read_right right) text

-- ---- objects

-- an object, where arrays are shown as is told
abbrev pub kind_shown : State → (Bool → Access → Interval → Growth) → Bool → Access → Kind → Growth
kind_shown s array exec right (kind.Str part) text = string_shown s right part text
kind_shown s array exec right (kind.Array a packed) text = array exec right a text
kind_shown s array exec right k text = whole s (text ++ simple_text exec k)

-- the same of an object's parts
abbrev pub object_shown : State → (Bool → Access → Interval → Growth) → Object → Growth
object_shown s array x text = kind_shown s array x.exec x.access x.kind text

-- an array with so many levels of arrays, itself the first, and three points in place of those that lie deeper
unfoldable pub levels_shown : ℕ → State → Bool → Access → Interval → Growth
levels_shown zero s exec right a text = whole s (text ++ codes "...")
levels_shown (suc n) s exec right a text =
    array_shown s (object_shown s (levels_shown n s)) exec right a text

-- an object within so many levels
abbrev pub shown_within : ℕ → State → Object → Growth
shown_within n s = object_shown s (levels_shown n s)

-- the items of an array, those that are arrays within so many levels
abbrev pub items_within : ℕ → State → Interval → Growth
items_within n s a text = items_shown s (shown_within n s) a 0 a.len text

-- the full text of an object behind a text
abbrev pub full_text : State → Object → Growth
full_text s = shown_within 16 s
