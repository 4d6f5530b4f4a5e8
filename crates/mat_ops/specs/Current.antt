-- The current transformation matrix (section 4.3.2 of the language manual).
use Rattle.std.specs.Prelude.{ℕ, [], drop, Result}
use Rattle.ps_shapes.specs.declared.numbers.Matrix.{Matrix}
use Rattle.ps_fixed.specs.Matrices.{matrix_product}
use Rattle.ps_names.specs.declared.error_name.ErrorName.{ErrorName}
use Rattle.ps_objects.specs.Operands.{needed, array_at, readable_at}
use Rattle.ps_kinds.specs.declared.graphics.GState.{GState}
use Rattle.ps_kinds.specs.declared.state.State.{State}
use Rattle.ps_memory.specs.Tree.{done}
use Rattle.ps_meaning.specs.Start.{default_matrix}
use Rattle.ps_operator.specs.Registers.{ops, quiet}
use Rattle.ps_operator.specs.Tree.{Ask, read, look_then}
use Rattle.real_operands.specs.Reals.{defined}
use Rattle.mat_ops.specs.Matrices.{six, matrix_in}

-- the current matrix
abbrev pub current : State → Matrix
current s = s.regs.state.ctm

-- the default matrix of the page
abbrev pub default_of : State → Matrix
default_of s = default_matrix s.settings.dpi s.regs.state.high

-- first a matrix, and then the current one; no operator's proof opens this
unfoldable pub before_current : Matrix → State → Result Matrix ErrorName
before_current m s = defined (matrix_product m (current s))

-- with this current matrix; no operator's proof opens this
unfoldable pub with_matrix : GState → Matrix → GState
with_matrix g m = record g { ctm = m }

-- without the newest n operands, and with this current matrix
abbrev pub with_current : State → ℕ → Matrix → State
with_current s n m =
    record s { regs = record s.regs { operands = drop n (ops s); state = with_matrix s.regs.state m } }

-- ends so
abbrev pub becomes : State → ℕ → Matrix → Ask
becomes s n m = done [] (quiet (with_current s n m))

-- M setmatrix
abbrev pub setmatrix : State → Ask
setmatrix s =
    read (needed 1 (ops s)) (λ _.
    read (array_at 0 (ops s)) (λ a.
    read (readable_at 0 (ops s)) (λ _.
    read (six a) (λ _.
    look_then (matrix_in a) (λ m.
    becomes s 1 m)))))

-- initmatrix: the default matrix
abbrev pub initmatrix : State → Ask
initmatrix s = becomes s 0 (default_of s)

-- M concat: first M, then what the current matrix did
abbrev pub concat : State → Ask
concat s =
    read (needed 1 (ops s)) (λ _.
    read (array_at 0 (ops s)) (λ a.
    read (readable_at 0 (ops s)) (λ _.
    read (six a) (λ _.
    look_then (matrix_in a) (λ m.
    read (before_current m s) (λ p.
    becomes s 1 p))))))
