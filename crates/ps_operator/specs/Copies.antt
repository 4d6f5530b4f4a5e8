-- Copies of operands.
use Rattle.std.specs.Prelude.{◌≡◌, ℕ, List, ◌∷◌, Result, Ok, OnOk}
use Rattle.copy_lists.specs.declared.memory.NoMemory.{NoMemory}
use Rattle.ps_objects.specs.declared.object.Object.{Object}
use Rattle.ps_objects.specs.Operands.{object_at}

-- the operand at a depth lies on top once more
abbrev pub IsCopied : List Object → ℕ → Result (Unit {0}) NoMemory → List Object → Type 0
IsCopied old depth r new = (x : Object) → object_at depth old ≡ Ok x → OnOk r (new ≡ x ∷ old)
