-- Types and attributes of objects (sections 3.3 and 8.2 of the language manual).
use Rattle.std.specs.Prelude.{ℕ, Bool, true, false, if◌then◌else◌, List, ◌∷◌, codes, drop}
use Rattle.ps_objects.specs.declared.access.Access.TheVariants.{Unlimited}
use Rattle.ps_objects.specs.declared.object.Kind.{Kind}
use Rattle.ps_objects.specs.declared.object.Kind.TheVariants as kind
use Rattle.ps_objects.specs.declared.object.Object.{Object}
use Rattle.ps_objects.specs.Operands.{needed, object_at}
use Rattle.ps_kinds.specs.declared.state.State.{State}
use Rattle.ps_operator.specs.Tree.{Ask, read}
use Rattle.ps_operator.specs.Registers.{ops, literal, leaves}

-- the name of a type
abbrev pub type_name : Kind → List ℕ
type_name (kind.Integer n) = codes "integertype"
type_name (kind.Real r) = codes "realtype"
type_name (kind.Boolean b) = codes "booleantype"
type_name kind.Null = codes "nulltype"
type_name kind.Mark = codes "marktype"
type_name (kind.Name n) = codes "nametype"
type_name (kind.Operator op) = codes "operatortype"
type_name (kind.Str part) = codes "stringtype"
type_name (kind.Array part packed) = if packed then codes "packedarraytype" else codes "arraytype"
type_name (kind.Dict d) = codes "dicttype"
type_name (kind.File section) = codes "filetype"
type_name (kind.Filter section layer) = codes "filetype"
type_name (kind.Save save) = codes "savetype"
type_name (kind.FontId d) = codes "fonttype"

-- a name that is executable
abbrev pub executable_name : List ℕ → Object
executable_name bs = record { kind = kind.Name bs; exec = true; access = Unlimited }

-- x type name: an executable name
abbrev pub type_ : State → Ask
type_ s =
    read (needed 1 (ops s)) (λ _.
    read (object_at 0 (ops s)) (λ x.
    leaves s (executable_name (type_name x.kind) ∷ drop 1 (ops s))))

-- the same object with this attribute
abbrev pub attributed : Bool → Object → Object
attributed exec x = record x { exec = exec }

-- x cvlit x: literal
abbrev pub cvlit : State → Ask
cvlit s =
    read (needed 1 (ops s)) (λ _.
    read (object_at 0 (ops s)) (λ x.
    leaves s (attributed false x ∷ drop 1 (ops s))))

-- x cvx x: executable
abbrev pub cvx : State → Ask
cvx s =
    read (needed 1 (ops s)) (λ _.
    read (object_at 0 (ops s)) (λ x.
    leaves s (attributed true x ∷ drop 1 (ops s))))

-- x xcheck b: whether an object is executable
abbrev pub xcheck : State → Ask
xcheck s =
    read (needed 1 (ops s)) (λ _.
    read (object_at 0 (ops s)) (λ x.
    leaves s (literal (kind.Boolean x.exec) ∷ drop 1 (ops s))))
