-- What is scanned from a text: one object, with the cells that it takes.
use Rattle.std.specs.Prelude.{ℕ, zero, suc, ◌+◌, Bool, true, false, not, cond, ◌&&◌, nat_lt, nat_le, ◌/◌, ◌%◌, List, [], ◌∷◌, ◌++◌, reverse, length, Option, Some, None}
use Rattle.ps_objects.specs.Object.{cell_named}
use Rattle.ps_objects.specs.Object.{whole_of}
use Rattle.ps_objects.specs.declared.access.Access.{Access}
use Rattle.ps_objects.specs.declared.access.Access.TheVariants.{Unlimited, ReadOnly}
use Rattle.ps_objects.specs.declared.cell.Cell.{Cell}
use Rattle.ps_objects.specs.declared.cell.Space.{Space}
use Rattle.ps_objects.specs.declared.cell.Space.TheVariants.{Local, Global}
use Rattle.ps_names.specs.declared.error_name.ErrorName.{ErrorName}
use Rattle.ps_names.specs.declared.error_name.ErrorName.TheVariants.{InvalidAccess, LimitCheck, SyntaxError, Undefined, VmError}
use Rattle.ps_objects.specs.declared.key.Key.TheVariants as key
use Rattle.ps_objects.specs.declared.object.Object.{Object}
use Rattle.ps_objects.specs.declared.object.Kind.{Kind}
use Rattle.ps_objects.specs.declared.object.Kind.TheVariants as kind
use Rattle.ps_objects.specs.declared.place.Loc.TheVariants as loc
use Rattle.ps_objects.specs.declared.place.Shape.TheVariants as shape
use Rattle.ps_objects.specs.declared.place.Value.TheVariants as value
use Rattle.ps_scan.specs.Token.{token_at}
use Rattle.ps_scan.specs.declared.tokens.Scan.{Scan}
use Rattle.ps_scan.specs.declared.tokens.Scan.TheVariants as scan
use Rattle.ps_scan.specs.declared.tokens.Token.{Token}
use Rattle.ps_scan.specs.declared.tokens.Token.TheVariants as token
use Rattle.ps_kinds.specs.declared.state.State.{State}
use Rattle.ps_memory.specs.Memory.{is_global}
use Rattle.ps_memory.specs.Tree.{Change, puts, makes, Application, done}
use Rattle.ps_meaning.specs.Start.{literal}
use Rattle.ps_meaning.specs.Budgets.{unit_budget}
use Rattle.ps_execution.specs.Objects.{searches}

-- an object, an error, or the end of the text
pub data Spelt : Type 0 where
  object : Object → Spelt
  bad : ErrorName → Spelt
  nothing : Spelt

-- what is spelt, the place after it, and the units spent in the section so far
pub record Scanned : Type 0 where
  pub spelt : Spelt
  pub place : ℕ
  pub units : ℕ

-- The cells that were made so far, as changes, and their number; the units spent in the section; and the items of each open brace, the
-- innermost and the newest first.
pub record Gathering : Type 0 where
  pub changes : List Change
  pub made : ℕ
  pub units : ℕ
  pub open_braces : List (List Object)

-- what was spelt is told, with the cells that were gathered
abbrev pub scanned : Spelt → ℕ → Gathering → Application Scanned
scanned x place g = done g.changes (record { spelt = x; place = place; units = g.units })

-- an executable object
abbrev pub executable : Kind → Object
executable k = record { kind = k; exec = true; access = Unlimited }

-- the memory of a mode
abbrev pub mode_space : Bool → Space
mode_space true = Global
mode_space false = Local

-- the next cell, in the memory of the mode
abbrev pub next_cell : State → Gathering → Cell
next_cell s g = record { section = s.section; count = s.count + g.made; space = mode_space s.regs.global }

-- these objects at the places of an array from one on
abbrev pub stores_items : Cell → ℕ → List Object → List Change
stores_items c i [] = []
stores_items c i (x ∷ xs) = puts (loc.Item c i) (value.Object x) ∷ stores_items c (suc i) xs

-- bytes have eight bits
abbrev pub stores_bytes : Cell → ℕ → List ℕ → List Change
stores_bytes c i [] = []
stores_bytes c i (b ∷ bs) = puts (loc.Byte c i) (value.Byte (b % 256)) ∷ stores_bytes c (suc i) bs

-- with one more array of these objects
abbrev pub with_array : Cell → List Object → Gathering → Gathering
with_array c xs g = record g { changes = g.changes ++ makes c (shape.Array (length xs)) ∷ stores_items c 0 xs; made = suc g.made }

-- with one more string of these bytes, and so many units
abbrev pub with_string : Cell → List ℕ → ℕ → Gathering → Gathering
with_string c bs units g = record g { changes = g.changes ++ makes c (shape.Str (length bs)) ∷ stores_bytes c 0 bs; made = suc g.made; units = g.units + units }

-- a packed array can't be written
abbrev pub body_access : Bool → Access
body_access true = ReadOnly
body_access false = Unlimited

-- a procedure that is the whole of a cell
abbrev pub body_object : Cell → ℕ → Bool → Object
body_object c n packed = record { kind = kind.Array (whole_of c n) packed; exec = true; access = body_access packed }

-- eight bytes of a string, begun, are a unit
abbrev pub string_units : ℕ → ℕ
string_units n = (n + 7) / 8

-- a local cell is named
abbrev pub names_local : Option Cell → Bool
names_local None = false
names_local (Some c) = not (is_global c)

-- what is to be scanned next: from a place, with what was gathered so far
abbrev pub Onward : Type 0
Onward = ℕ → Gathering → Application Scanned

-- An object that is complete: the whole, or an item of the innermost brace. An item costs a unit when it is scanned.
abbrev pub complete_in : Onward → State → Object → ℕ → Gathering → List (List Object) → Application Scanned
complete_in r s x place g [] = scanned (object x) place g
complete_in r s x place g (items ∷ outer) = cond (nat_lt (length items) 65535)
    (cond (nat_lt g.units (unit_budget s.kind))
    (r place (record g { units = suc g.units; open_braces = (x ∷ items) ∷ outer }))
    (scanned (bad VmError) place g))
    (scanned (bad LimitCheck) place g)

-- an object is complete: it is told, or is the next item of the newest brace
abbrev pub complete : Onward → State → Object → ℕ → Gathering → Application Scanned
complete r s x place g = complete_in r s x place g g.open_braces

-- an item of a global array names no local cell
abbrev pub complete_value_in : Onward → State → Object → ℕ → Gathering → List (List Object) → Application Scanned
complete_value_in r s x place g [] = scanned (object x) place g
complete_value_in r s x place g (items ∷ outer) = cond (s.regs.global && names_local (cell_named x.kind)) (scanned (bad InvalidAccess) place g) (complete_in r s x place g (items ∷ outer))

-- the same of the value of a name that was looked up at once
abbrev pub complete_value : Onward → State → Object → ℕ → Gathering → Application Scanned
complete_value r s x place g = complete_value_in r s x place g g.open_braces

-- a string takes its cell, where its units are left: VMerror
abbrev pub gather_string : Onward → State → List ℕ → ℕ → Gathering → Application Scanned
gather_string r s bs place g = cond (nat_le (g.units + string_units (length bs)) (unit_budget s.kind))
    (complete r s (literal (kind.Str (whole_of (next_cell s g) (length bs)))) place (with_string (next_cell s g) bs (string_units (length bs)) g))
    (scanned (bad VmError) place g)

-- one more brace is open, of at most 1,000: limitcheck
abbrev pub open_brace : Onward → ℕ → Gathering → Application Scanned
open_brace r place g = cond (nat_lt (length g.open_braces) 1000)
    (r place (record g { open_braces = [] ∷ g.open_braces }))
    (scanned (bad LimitCheck) place g)

-- an executable array takes its cell at its own end, so after those within it
abbrev pub close_in : Onward → State → ℕ → Gathering → List (List Object) → Application Scanned
close_in r s place g [] = scanned (bad SyntaxError) place g
close_in r s place g (items ∷ outer) = complete_in r s (body_object (next_cell s g) (length items) s.regs.packing) place
    (record (with_array (next_cell s g) (reverse items) g) { open_braces = outer }) outer

-- the newest brace ends
abbrev pub close_brace : Onward → State → ℕ → Gathering → Application Scanned
close_brace r s place g = close_in r s place g g.open_braces

-- nothing is spelt at the end, unless a brace is open: syntaxerror
abbrev pub end_in : ℕ → ℕ → Gathering → List (List Object) → Application Scanned
end_in end place g [] = scanned nothing place g
end_in end place g (items ∷ outer) = scanned (bad SyntaxError) end g

-- the same of what was gathered
abbrev pub at_end : ℕ → ℕ → Gathering → Application Scanned
at_end end place g = end_in end place g g.open_braces

-- what comes of a token
abbrev pub gather_token : Onward → State → Token → ℕ → Gathering → Application Scanned
gather_token r s (token.Integer z) place g = complete r s (literal (kind.Integer z)) place g
gather_token r s (token.Real x) place g = complete r s (literal (kind.Real x)) place g
gather_token r s (token.Literal n) place g = complete r s (literal (kind.Name n)) place g
gather_token r s (token.Exec n) place g = complete r s (executable (kind.Name n)) place g
gather_token r s (token.Now n) place g = searches s.regs.dicts (key.Name n) (λ x. complete_value r s x place g) (scanned (bad Undefined) place g)
gather_token r s (token.Str bs) place g = gather_string r s bs place g
gather_token r s token.BodyBegin place g = open_brace r place g
gather_token r s token.BodyEnd place g = close_brace r s place g

-- what comes of what was scanned
abbrev pub gather_scan : Onward → State → ℕ → ℕ → Scan → Gathering → Application Scanned
gather_scan r s end place (scan.Token t next) g = gather_token r s t next g
gather_scan r s end place scan.End g = at_end end place g
gather_scan r s end place (scan.Bad e next) g = scanned (bad e) next g

-- each token is at least a byte long, so the steps are never spent
abbrev pub gather_from : ℕ → List ℕ → State → Onward
gather_from zero text s place g = scanned (bad SyntaxError) place g
gather_from (suc n) text s place g = gather_scan (gather_from n text s) s (length text) place (token_at text place) g

-- the object that a text spells at a place
abbrev pub gather : List ℕ → ℕ → State → Application Scanned
gather text place s = gather_from (suc (length text)) text s place (record { changes = []; made = 0; units = s.units; open_braces = [] })
