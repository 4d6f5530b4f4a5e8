-- What is done to a page on trial between operators.
use Rattle.std.specs.Prelude.{ℕ, ℤ, [], ◌∷◌}
use Rattle.ps_objects.specs.Object.{whole_of}
use Rattle.ps_objects.specs.declared.object.Kind.TheVariants as kind
use Rattle.ps_objects.specs.declared.place.Shape.TheVariants as shape
use Rattle.ps_kinds.specs.declared.state.State.{State}
use Rattle.ps_memory.specs.Tree.{done, makes}
use Rattle.ps_operator.specs.Making.{next_cell}
use Rattle.ps_operator.specs.Registers.{ops, literal, with_ops, quiet, leaves}
use Rattle.ps_operator.specs.Tree.{Ask}

-- an integer is pushed
abbrev pub integer_pushed : ℤ → State → Ask
integer_pushed n s = leaves s (literal (kind.Integer n) ∷ ops s)

-- a new string of zeros is pushed
abbrev pub string_pushed : ℕ → State → Ask
string_pushed n s =
    done (makes (next_cell s) (shape.Str n) ∷ [])
    (quiet (with_ops s (literal (kind.Str (whole_of (next_cell s) n)) ∷ ops s)))
