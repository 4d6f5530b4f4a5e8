-- The table of all operators that are there: which crate gives which of them.
use Rattle.std.specs.Prelude.{ℕ, Bool, ◌-◌, false, ◌&&◌, nat_le, cond, List, [], ◌∷◌}
use Rattle.ps_names.specs.declared.error_name.ErrorName.TheVariants.{Undefined}
use Rattle.ps_names.specs.declared.places.TheConstants as at
use Rattle.ps_kinds.specs.declared.frame.Frame.{Frame}
use Rattle.ps_kinds.specs.declared.show.ShowRun.{ShowRun}
use Rattle.ps_kinds.specs.declared.state.State.{State}
use Rattle.ps_memory.specs.Tree.{fail}
use Rattle.ps_operator.specs.Registers.{ops}
use Rattle.ps_operator.specs.Tree.{Ask}
use Rattle.ps_execution.specs.Lawful.{LawfulTable}
use Rattle.ps_execution.specs.Table.{Leaving, Table}
use Rattle.stack_arith.specs.Operators as stack_arith
use Rattle.text_ops.specs.Operators as text_ops
use Rattle.dict_ops.specs.Operators as dict_ops
use Rattle.array_ops.specs.Operators as array_ops
use Rattle.object_ops.specs.Operators as object_ops
use Rattle.control_ops.specs.Operators as control_ops
use Rattle.control_ops.specs.Rounds as rounds
use Rattle.file_ops.specs.Operators as file_ops
use Rattle.save_restore.specs.Operators as save_restore
use Rattle.mat_ops.specs.Operators as mat_ops
use Rattle.gstate.specs.Operators as gstate
use Rattle.colour_ops.specs.Operators as colour_ops
use Rattle.path_build.specs.Operators as path_build
use Rattle.path_build.specs.Walks as walks
use Rattle.clip_ops.specs.Operators as clip_ops
use Rattle.paint_ops.specs.Operators as paint_ops
use Rattle.error_ops.specs.Operators as error_ops

-- ---- operators

-- A crate's operators stand together in the list of operators: the first place, the last, and what the operator at a place between does
-- in a section of this text.
pub record Family : Type 0 where
  pub first : ℕ
  pub last : ℕ
  pub run : ℕ → List ℕ → State → Ask

-- where an operator is one of several types of containers, a dictionary is for the operators on dictionaries, and all else for those on
-- arrays and strings
abbrev pub on_container : ℕ → State → Ask
on_container n s = cond (dict_ops.is_on_dict n (ops s)) (dict_ops.run n s) (array_ops.run n s)

-- the crates that are there, in the order of their operators
abbrev pub families : List Family
families =
    record { first = at.POP; last = at.BITSHIFT; run = λ n text s. stack_arith.run n s }
    ∷ record { first = at.STRING; last = at.PSTACK; run = λ n text s. text_ops.run n s }
    ∷ record { first = at.DICT; last = at.DICTSTACK; run = λ n text s. on_container n s }
    ∷ record { first = at.ARRAY; last = at.ASTORE; run = λ n text s. array_ops.run n s }
    ∷ record { first = at.TYPE; last = at.BIND; run = λ n text s. object_ops.run n s }
    ∷ record { first = at.EXEC; last = at.STOPPED; run = λ n text s. control_ops.run n s }
    ∷ record { first = at.CURRENTFILE; last = at.FLUSH; run = λ n text s. file_ops.run n text s }
    ∷ record { first = at.SAVE; last = at.USERTIME; run = λ n text s. save_restore.run n s }
    ∷ record { first = at.MATRIX; last = at.IDTRANSFORM; run = λ n text s. mat_ops.run n s }
    ∷ record { first = at.GSAVE; last = at.CURRENTDASH; run = λ n text s. gstate.run n s }
    ∷ record { first = at.SETGRAY; last = at.CURRENTHALFTONE; run = λ n text s. colour_ops.run n s }
    ∷ record { first = at.NEWPATH; last = at.CLOSEPATH; run = λ n text s. path_build.run n s }
    ∷ record { first = at.FLATTENPATH; last = at.FLATTENPATH; run = λ n text s. clip_ops.run n s }
    ∷ record { first = at.PATHBBOX; last = at.PATHFORALL; run = λ n text s. path_build.run n s }
    ∷ record { first = at.INITCLIP; last = at.EOCLIP; run = λ n text s. clip_ops.run n s }
    ∷ record { first = at.FILL; last = at.COPYPAGE; run = λ n text s. paint_ops.run n s }
    ∷ record { first = at.FIRST_DEFAULT_ENTRY; last = at.OPERATOR_COUNT - 1; run = λ n text s. error_ops.run n s }
    ∷ []

-- the operator at a place is one of a crate's
abbrev pub is_of : ℕ → Family → Bool
is_of n f = nat_le f.first n && nat_le n f.last

-- what the operator at a place does; one of no crate is undefined
abbrev pub run_among : List Family → ℕ → List ℕ → State → Ask
run_among [] n text s = fail Undefined
run_among (f ∷ fs) n text s = cond (is_of n f) (f.run n text s) (run_among fs n text s)

-- ---- frames

-- a crate's frames, and one step of such a frame
pub record Walker : Type 0 where
  pub walks : Frame → Bool
  pub step : Frame → List ℕ → State → Ask

-- the crates that are there whose frames take steps
abbrev pub walkers : List Walker
walkers =
    record { walks = rounds.walks; step = λ f text s. rounds.step f s }
    ∷ record { walks = walks.walks; step = λ f text s. walks.step f s }
    ∷ []

-- the step of a frame; that of no crate's frame is undefined
abbrev pub step_among : List Walker → Frame → List ℕ → State → Ask
step_among [] f text s = fail Undefined
step_among (w ∷ ws) f text s = cond (w.walks f) (w.step f text s) (step_among ws f text s)

-- a show leaves the registers as they are, and no paper of another size
abbrev pub registers_left : ShowRun → State → Leaving
registers_left r s = record { regs = s.regs; wipes = false }

-- ---- the table

-- the table of all that is there
abbrev pub table : Table
table = record { run = run_among families; step = step_among walkers; leave = registers_left }

-- it keeps memory and states sound
abbrev pub TableLaw : Type 0
TableLaw = LawfulTable table
