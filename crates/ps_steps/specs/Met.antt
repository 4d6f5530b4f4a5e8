-- What was met as an item, or found under a name.
use Rattle.std.specs.Prelude.{true, false, Result, Ok, Err}
use Rattle.ps_objects.specs.declared.access.Access.TheVariants.{Unlimited}
use Rattle.ps_objects.specs.declared.object.Object.{Object}
use Rattle.ps_objects.specs.declared.object.Kind.TheVariants as kind
use Rattle.ps_objects.specs.declared.refusal.Refusal.{Refusal}
use Rattle.ps_memory.specs.Tree.{Application}
use Rattle.ps_meaning.specs.Answer.{Log}
use Rattle.ps_operator.specs.Owes.{Yields, Finds}
use Rattle.ps_steps.specs.declared.met.Met.{Met}
use Rattle.ps_steps.specs.declared.met.Met.TheVariants as met

-- the object that it is
abbrev pub object_of : Met → Object
object_of (met.Operator op) = record { kind = kind.Operator op; exec = true; access = Unlimited }
object_of (met.Integer n) = record { kind = kind.Integer n; exec = false; access = Unlimited }
object_of (met.Object x) = x

-- a function met what the tree finds
abbrev pub Meets : Application Object → Log → Result Met Refusal → Log → Type 0
Meets t old (Ok m) log = Finds t old (object_of m) log
Meets t old (Err e) log = Yields t old (Err e) log
