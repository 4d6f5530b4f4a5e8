-- Access of composite objects, and where they lie (sections 3.3 and 8.2 of the language manual).
use Rattle.std.specs.Prelude.{Bool, true, false, not, [], ◌∷◌, drop, Option, Some, None, Result, Ok, Err}
use Rattle.ps_names.specs.declared.error_name.ErrorName.{ErrorName}
use Rattle.ps_names.specs.declared.error_name.ErrorName.TheVariants.{TypeCheck}
use Rattle.ps_objects.specs.declared.access.Access.{Access}
use Rattle.ps_objects.specs.declared.access.Access.TheVariants.{Unlimited, ReadOnly, ExecuteOnly, NoAccess}
use Rattle.ps_objects.specs.declared.cell.Cell.{Cell}
use Rattle.ps_objects.specs.declared.object.Kind.{Kind}
use Rattle.ps_objects.specs.declared.object.Kind.TheVariants as kind
use Rattle.ps_objects.specs.declared.object.Object.{Object}
use Rattle.ps_objects.specs.declared.place.Loc.TheVariants as loc
use Rattle.ps_objects.specs.declared.place.Value.TheVariants as value
use Rattle.ps_objects.specs.Access.{read_right, run_right}
use Rattle.ps_objects.specs.Object.{cell_named}
use Rattle.ps_objects.specs.Operands.{needed, object_at}
use Rattle.ps_kinds.specs.declared.state.State.{State}
use Rattle.ps_memory.specs.Tree.{done, puts}
use Rattle.ps_operator.specs.Tree.{Ask, read}
use Rattle.ps_operator.specs.Budgets.{is_local}
use Rattle.ps_operator.specs.Looks.{look_access}
use Rattle.ps_operator.specs.Registers.{ops, literal, quiet, leaves}

-- arrays, strings and files have an access of their own
abbrev pub own_access : Kind → Result (Unit {0}) ErrorName
own_access (kind.Str part) = Ok tt
own_access (kind.Array part packed) = Ok tt
own_access (kind.File section) = Ok tt
own_access (kind.Filter section layer) = Ok tt
own_access _ = Err TypeCheck

-- in which dictionary's cell the access lies, or none where it is the object's own
abbrev pub access_holder : Kind → Result (Option Cell) ErrorName
access_holder (kind.Dict d) = Ok (Some d)
access_holder (kind.Str part) = Ok None
access_holder (kind.Array part packed) = Ok None
access_holder (kind.File section) = Ok None
access_holder (kind.Filter section layer) = Ok None
access_holder _ = Err TypeCheck

-- the same object with this access
abbrev pub guarded : Access → Object → Object
guarded a x = record x { access = a }

-- the newest operand with this access
abbrev pub leaves_guarded : State → Access → Object → Ask
leaves_guarded s a x = leaves s (guarded a x ∷ drop 1 (ops s))

-- a dictionary gets this access; it stays where it is
abbrev pub guards_dict : State → Access → Cell → Ask
guards_dict s a d = done (puts (loc.Access d) (value.Access a) ∷ []) (quiet s)

-- x executeonly x: an array, a string or a file
abbrev pub executeonly : State → Ask
executeonly s =
    read (needed 1 (ops s)) (λ _.
    read (object_at 0 (ops s)) (λ x.
    read (own_access x.kind) (λ _.
    read (run_right x.access) (λ _.
    leaves_guarded s ExecuteOnly x))))

-- makes an object read-only, or a dictionary
abbrev pub readonly_in : State → Object → Option Cell → Ask
readonly_in s x None = read (read_right x.access) (λ _. leaves_guarded s ReadOnly x)
readonly_in s x (Some d) = look_access d (λ a. read (read_right a) (λ _. guards_dict s ReadOnly d))

-- x readonly x: an array, a string, a file or a dictionary
abbrev pub readonly : State → Ask
readonly s =
    read (needed 1 (ops s)) (λ _.
    read (object_at 0 (ops s)) (λ x.
    read (access_holder x.kind) (λ there.
    readonly_in s x there)))

-- takes the access from an object, or from a dictionary
abbrev pub noaccess_in : State → Object → Option Cell → Ask
noaccess_in s x None = leaves_guarded s NoAccess x
noaccess_in s x (Some d) = guards_dict s NoAccess d

-- x noaccess x: the same types
abbrev pub noaccess : State → Ask
noaccess s =
    read (needed 1 (ops s)) (λ _.
    read (object_at 0 (ops s)) (λ x.
    read (access_holder x.kind) (λ there.
    noaccess_in s x there)))

-- whether this access lets an object be read
abbrev pub lets_read : Access → Bool
lets_read Unlimited = true
lets_read ReadOnly = true
lets_read _ = false

-- whether it lets it be written
abbrev pub lets_write : Access → Bool
lets_write Unlimited = true
lets_write _ = false

-- a truth value in the place of the newest operand
abbrev pub tells : State → Bool → Ask
tells s b = leaves s (literal (kind.Boolean b) ∷ drop 1 (ops s))

-- tells of the object's access, or of the dictionary's
abbrev pub tells_access : State → (Access → Bool) → Object → Option Cell → Ask
tells_access s lets x None = tells s (lets x.access)
tells_access s lets x (Some d) = look_access d (λ a. tells s (lets a))

-- x rcheck b: whether an array, a string, a file or a dictionary may be read
abbrev pub rcheck : State → Ask
rcheck s =
    read (needed 1 (ops s)) (λ _.
    read (object_at 0 (ops s)) (λ x.
    read (access_holder x.kind) (λ there.
    tells_access s lets_read x there)))

-- x wcheck b: whether it may be written
abbrev pub wcheck : State → Ask
wcheck s =
    read (needed 1 (ops s)) (λ _.
    read (object_at 0 (ops s)) (λ x.
    read (access_holder x.kind) (λ there.
    tells_access s lets_write x there)))

-- x gcheck b: whether an object is simple, or lies in global memory
abbrev pub gcheck : State → Ask
gcheck s =
    read (needed 1 (ops s)) (λ _.
    read (object_at 0 (ops s)) (λ x.
    tells s (not (is_local (cell_named x.kind)))))
