-- The plain text of an object.
use Rattle.std.specs.Prelude.{ℕ, Bool, List, [], codes, slice_get, Option, Some, None, if◌then◌else◌}
use Rattle.std.specs.Fmt.{signed_decimal}
use Rattle.ps_names.specs.Operators.{operator_names}
use Rattle.ps_objects.specs.declared.object.Object.{Object}
use Rattle.ps_objects.specs.declared.object.Kind.{Kind}
use Rattle.ps_objects.specs.declared.object.Kind.TheVariants as kind
use Rattle.plain_texts.specs.Reals.{real_text}

-- a truth value
abbrev pub truth : Bool → List ℕ
truth b = if b then codes "true" else codes "false"

-- a name that is listed
abbrev pub listed : Option (List ℕ) → List ℕ
listed (Some name) = name
listed None = []

-- the text of an object that has none of its own
abbrev pub no_string_value : List ℕ
no_string_value = codes "--nostringval--"

-- the text of a type and value; of a string its bytes
abbrev pub plain_of : Kind → List ℕ → List ℕ
plain_of (kind.Integer n) bytes = signed_decimal n
plain_of (kind.Real r) bytes = real_text r.count
plain_of (kind.Boolean b) bytes = truth b
plain_of (kind.Str part) bytes = bytes
plain_of (kind.Name name) bytes = name
plain_of (kind.Operator op) bytes = listed (slice_get operator_names op)
plain_of _ bytes = no_string_value

-- the plain text of an object, where these are the bytes of a string
abbrev pub plain_text : Object → List ℕ → List ℕ
plain_text x bytes = plain_of x.kind bytes
