-- The section's text as a file (section 8.2 of the language manual).
use Rattle.std.specs.Prelude.{ℕ, ℤ, pos, ◌+◌, ◌-◌, Bool, true, false, ◌&&◌, nat_eq, nat_lt, if◌then◌else◌, List, [], ◌∷◌, drop, length, slice_get, Option, Some, None, Result, Ok, Err}
use Rattle.ps_names.specs.declared.error_name.ErrorName.{ErrorName}
use Rattle.ps_names.specs.declared.error_name.ErrorName.TheVariants.{IoError, LimitCheck}
use Rattle.ps_objects.specs.Operands.{needed, room_for, file_at, readable_at}
use Rattle.ps_objects.specs.declared.object.Kind.TheVariants as kind
use Rattle.ps_objects.specs.declared.object.Object.{Object}
use Rattle.ps_objects.specs.declared.objects.FileName.{FileName}
use Rattle.ps_kinds.specs.declared.state.State.{State}
use Rattle.ps_memory.specs.Tree.{done}
use Rattle.ps_operator.specs.Tree.{Ask, read}
use Rattle.ps_operator.specs.Registers.{ops, literal, with_ops, quiet, leaves}

-- ---- the file of the section

-- the file is the text of the section that runs
abbrev pub is_own : State → FileName → Bool
is_own s f = nat_eq f.section s.section && nat_eq f.layer 0

-- a file of another section is refused
abbrev pub own : State → FileName → Result (Unit {0}) ErrorName
own s f = if is_own s f then Ok tt else Err IoError

-- with other operands, and at another place of the text
abbrev pub moved : State → ℕ → List Object → State
moved s place xs = record (with_ops s xs) { place = place }

-- ends with these operands, and at a place of the text
abbrev pub moves : State → ℕ → List Object → Ask
moves s place xs = done [] (quiet (moved s place xs))

-- ---- operators

-- currentfile f: the text of the section that runs
abbrev pub currentfile : State → Ask
currentfile s =
    read (room_for 1 (ops s)) (λ _.
    leaves s (literal (kind.File s.section) ∷ ops s))

-- f status b: whether the file is open, which only the section's own is
abbrev pub status : State → Ask
status s =
    read (needed 1 (ops s)) (λ _.
    read (file_at 0 (ops s)) (λ f.
    leaves s (literal (kind.Boolean (is_own s f)) ∷ drop 1 (ops s))))

-- a number that is told is at most 2^31 - 1
abbrev pub number_told : ℕ → Result ℤ ErrorName
number_told n = if nat_lt 2147483647 n then Err LimitCheck else Ok (pos n)

-- f bytesavailable i: how many bytes are left
abbrev pub bytesavailable : List ℕ → State → Ask
bytesavailable text s =
    read (needed 1 (ops s)) (λ _.
    read (file_at 0 (ops s)) (λ f.
    read (own s f) (λ _.
    read (number_told (length text - s.place)) (λ n.
    leaves s (literal (kind.Integer n) ∷ drop 1 (ops s))))))

-- a byte and true, or false at the end
abbrev pub byte_told : State → Option ℕ → Ask
byte_told s None = leaves s (literal (kind.Boolean false) ∷ drop 1 (ops s))
byte_told s (Some b) =
    read (room_for 1 (ops s)) (λ _.
    moves s (s.place + 1)
    (literal (kind.Boolean true) ∷ literal (kind.Integer (pos b)) ∷ drop 1 (ops s)))

-- f read i true, f read false: the next byte
abbrev pub read_ : List ℕ → State → Ask
read_ text s =
    read (needed 1 (ops s)) (λ _.
    read (file_at 0 (ops s)) (λ f.
    read (readable_at 0 (ops s)) (λ _.
    read (own s f) (λ _.
    byte_told s (slice_get text s.place)))))

-- f closefile, f flushfile: nothing of the text is left
abbrev pub to_end : List ℕ → State → Ask
to_end text s =
    read (needed 1 (ops s)) (λ _.
    read (file_at 0 (ops s)) (λ f.
    read (own s f) (λ _.
    moves s (length text) (drop 1 (ops s)))))

-- flush: nothing is held back that could be written
abbrev pub flush : State → Ask
flush s = leaves s (ops s)
