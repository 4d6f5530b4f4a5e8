-- The reading of an object from a string or from the section's text (section 8.2 of the language manual).
use Rattle.std.specs.Prelude.{ℕ, ◌-◌, Bool, true, false, List, ◌∷◌, drop, length, Result, Ok, Err}
use Rattle.ps_names.specs.declared.error_name.ErrorName.{ErrorName}
use Rattle.ps_names.specs.declared.error_name.ErrorName.TheVariants.{TypeCheck}
use Rattle.ps_objects.specs.Operands.{needed, room_for, object_at, readable_at}
use Rattle.ps_objects.specs.declared.object.Kind.{Kind}
use Rattle.ps_objects.specs.declared.object.Kind.TheVariants as kind
use Rattle.ps_objects.specs.declared.object.Object.{Object}
use Rattle.ps_kinds.specs.declared.state.State.{State}
use Rattle.ps_memory.specs.Memory.{Memory}
use Rattle.ps_memory.specs.Tree.{Change, Application, done, restores, fail, look, ask}
use Rattle.ps_operator.specs.Tree.{Ask, read, look_then}
use Rattle.ps_operator.specs.Keys.{bytes_of}
use Rattle.ps_operator.specs.Registers.{ops, literal, quiet}
use Rattle.ps_operator.specs.Standing.{is_string}
use Rattle.ps_execution.specs.Gather.{Spelt, object, bad, nothing, Scanned, gather}
use Rattle.file_ops.specs.Files.{own, moved, moves}
use Rattle.file_ops.specs.Parts.{piece}
use Rattle.file_ops.specs.declared.parts.Whole.{Whole}
use Rattle.file_ops.specs.declared.tokens.Source.{Source}
use Rattle.file_ops.specs.declared.tokens.Source.TheVariants as source

-- ---- where a token stands

-- a string or a file
abbrev pub source_kind : Object → Kind → Result Source ErrorName
source_kind x (kind.Str part) =
    Ok (source.Held (record { interval = part; exec = x.exec; access = x.access }))
source_kind x (kind.File section) = Ok (source.Read (record { section = section; layer = 0 }))
source_kind x (kind.Filter section layer) =
    Ok (source.Read (record { section = section; layer = layer }))
source_kind x _ = Err TypeCheck

-- the same of an operand
abbrev pub source_of : Object → Result Source ErrorName
source_of x = source_kind x x.kind

-- the string stands, where there is one
abbrev pub is_source : Memory → Source → Bool
is_source M (source.Held t) = is_string M t.interval
is_source M (source.Read f) = true

-- ---- what comes of what was scanned

-- Goes on with what was scanned, and with the changes that make its cells. The looks are made before; of the changes none is done yet.
unfoldable pub scan_then : Application Scanned → (List Change → Scanned → Ask) → Ask
scan_then (done ws x) k = k ws x
scan_then (restores r ws x) k = k ws x
scan_then (fail e) k = fail e
scan_then (look l f) k = look l (λ v. scan_then (f v) k)
scan_then (ask c f) k = ask c (λ s. scan_then (f s) k)

-- ends with the changes of what was scanned, with so many units spent, these operands, and at a place of the section's text
abbrev pub takes : State → List Change → ℕ → ℕ → List Object → Ask
takes s ws units place xs = done ws (quiet (record (moved s place xs) { units = units }))

-- an object lies below true in the place of the file; an error of the scanner is refused, and then nothing is made or moved
abbrev pub file_spelt : State → ℕ → List Change → ℕ → ℕ → Spelt → Ask
file_spelt s end ws place units (object x) =
    read (room_for 1 (ops s)) (λ _.
    takes s ws units place (literal (kind.Boolean true) ∷ x ∷ drop 1 (ops s)))
file_spelt s end ws place units (bad e) = fail e
file_spelt s end ws place units nothing =
    moves s end (literal (kind.Boolean false) ∷ drop 1 (ops s))

-- the same of what was scanned; where only white space is left, the place is the text's end
abbrev pub file_ends : State → ℕ → List Change → Scanned → Ask
file_ends s end ws d = file_spelt s end ws d.place d.units d.spelt

-- what is left of a string
abbrev pub left_of : Whole → ℕ → Object
left_of t place = piece t place (t.interval.len - place)

-- the same, with what is left of the string below the object
abbrev pub string_spelt : State → Whole → List Change → ℕ → ℕ → Spelt → Ask
string_spelt s t ws place units (object x) =
    read (room_for 2 (ops s)) (λ _.
    takes s ws units s.place
    (literal (kind.Boolean true) ∷ x ∷ left_of t place ∷ drop 1 (ops s)))
string_spelt s t ws place units (bad e) = fail e
string_spelt s t ws place units nothing =
    moves s s.place (literal (kind.Boolean false) ∷ drop 1 (ops s))

-- the same of what was scanned
abbrev pub string_ends : State → Whole → List Change → Scanned → Ask
string_ends s t ws d = string_spelt s t ws d.place d.units d.spelt

-- ---- token

-- the object that stands at the string's front, which is looked at whole, or at the place of the section's text
abbrev pub token_in : List ℕ → State → Source → Ask
token_in text s (source.Held t) =
    look_then (bytes_of t.interval) (λ bs.
    scan_then (gather bs 0 s) (string_ends s t))
token_in text s (source.Read f) =
    read (own s f) (λ _.
    scan_then (gather text s.place s) (file_ends s (length text)))

-- f token x true, string token rest x true, or false where nothing but white space is left
abbrev pub token : List ℕ → State → Ask
token text s =
    read (needed 1 (ops s)) (λ _.
    read (object_at 0 (ops s)) (λ x.
    read (source_of x) (λ src.
    read (readable_at 0 (ops s)) (λ _.
    token_in text s src))))
