-- The table is lawful, since each of its crates is.
use Rattle.std.proofs.Common.{◌≡◌, ℕ, Bool, true, false, cond, List, [], ◌∷◌, refl}
use Rattle.std.specs.List.{AllByRecursion}
use Rattle.ps_kinds.specs.declared.act.Act.TheVariants as act
use Rattle.ps_kinds.specs.declared.frame.Frame.{Frame}
use Rattle.ps_kinds.specs.declared.state.State.{State}
use Rattle.ps_meaning.specs.Answer.{act_done, newest, Effect}
use Rattle.ps_meaning.specs.Ready.{Fits}
use Rattle.ps_meaning.specs.Sound.{World}
use Rattle.ps_operator.specs.Lawful.{Keeps, IsLawfulIn}
use Rattle.ps_operator.specs.Registers.{ops}
use Rattle.ps_operator.specs.Tree.{Ask}
use Rattle.ps_execution.specs.Execution.{on}
use Rattle.ps_execution.specs.Frames.{costs}
use Rattle.ps_execution.specs.Lawful.{names_in_turn, LawfulTable}
use Rattle.ps_execution.specs.Machine.{Effects, LeavesCalm}
use Rattle.ps_table.specs.Table.{IsLawfulStep, KeptTable}
use Rattle.ps_table.proofs.Entry.{kept_table}
use Rattle.stack_arith.proofs.Keeping as stack_arith
use Rattle.text_ops.proofs.Keeping as text_ops
use Rattle.dict_ops.proofs.Keeping as dict_ops
use Rattle.dict_ops.specs.Operators as dicts
use Rattle.array_ops.proofs.Keeping as array_ops
use Rattle.array_ops.specs.Operators as arrays
use Rattle.object_ops.proofs.Keeping as object_ops
use Rattle.control_ops.proofs.Keeping as control_ops
use Rattle.control_ops.proofs.StepKeeping as steps
use Rattle.file_ops.proofs.Keeping as file_ops
use Rattle.save_restore.proofs.Keeping as save_restore
use Rattle.mat_ops.proofs.Keeping as mat_ops
use Rattle.gstate.proofs.Keeping as gstate
use Rattle.colour_ops.proofs.Keeping as colour_ops
use Rattle.path_build.proofs.Keeping as path_build
use Rattle.path_build.proofs.StepKeeping as path_steps
use Rattle.clip_ops.proofs.Keeping as clip_ops
use Rattle.paint_ops.proofs.Keeping as paint_ops
use Rattle.error_ops.proofs.Keeping as error_ops
use Rattle.operator_table.specs.Operators.{on_container, Family, families, is_of, run_among, Walker, walkers, step_among, table}

-- ---- operators

-- a crate's operators keep the states that fit
abbrev IsKept : Family → Type 0
IsKept f = (n : ℕ) → IsLawfulIn (f.run n)

either_keeps : (b : Bool) (t u : Ask) (text : List ℕ) (most : ℕ) (below : List Frame) (s : State) (W : World) → Keeps text most below t s W → Keeps text most below u s W → Keeps text most below (cond b t u) s W
either_keeps true t u text most below s W h g = h
either_keeps false t u text most below s W h g = g

among_keeps : (fs : List Family) → AllByRecursion IsKept fs → (n : ℕ) → IsLawfulIn (run_among fs n)
among_keeps [] h n text s W f = record { lawful = tt }
among_keeps (t ∷ ts) h n text s W f = either_keeps (is_of n t) (t.run n text s) (run_among ts n text s) text 4 s.frames s W (h.0 n text s W f) (among_keeps ts h.1 n text s W f)

-- whatever the container is
container_keeps : (n : ℕ) → IsLawfulIn (λ text s. on_container n s)
container_keeps n text s W f =
    either_keeps (dicts.is_on_dict n (ops s)) (dicts.run n s) (arrays.run n s) text 4 s.frames s W (dict_ops.run_keeps n text s W f) (array_ops.run_keeps n text s W f)

-- the law of each crate, in the order of the families
families_keep : AllByRecursion IsKept families
families_keep = (λ n text. stack_arith.run_keeps n text, (λ n text. text_ops.run_keeps n text, (λ n text. container_keeps n text, (λ n text. array_ops.run_keeps n text, (λ n text. object_ops.run_keeps n text, (λ n text. control_ops.run_keeps n text, (λ n text. file_ops.run_keeps n text, (λ n text. save_restore.run_keeps n text, (λ n text. mat_ops.run_keeps n text, (λ n text. gstate.run_keeps n text, (λ n text. colour_ops.run_keeps n text, (λ n text. path_build.run_keeps n text, (λ n text. clip_ops.run_keeps n text, (λ n text. path_build.run_keeps n text, (λ n text. clip_ops.run_keeps n text, (λ n text. paint_ops.run_keeps n text, (λ n text. error_ops.run_keeps n text, tt)))))))))))))))))

-- ---- frames

-- what a step that costs no turn leaves
abbrev IsCalm : Frame → Effect → Type 0
IsCalm f e = (act_done e.act ≡ act.Done) × LeavesCalm f (newest e.frames)

-- a crate's frames keep the states that fit, and are steady
record KeptWalker (w : Walker) : Type 0 where
  lawful : (f : Frame) → IsLawfulStep f (w.step f)
  steady : (f : Frame) (text : List ℕ) (s : State) → costs f ≡ false → Effects (IsCalm f) (w.step f text s)

-- the laws of each crate, in the order of the walkers
walkers_keep : AllByRecursion KeptWalker walkers
walkers_keep = (
  record { lawful = steps.steps_keep; steady = λ f text s. steps.steps_calm f s },
  (record { lawful = path_steps.steps_keep; steady = λ f text s. path_steps.steps_calm f s }, tt),
)

steps_keep : (ws : List Walker) → AllByRecursion KeptWalker ws → (f : Frame) → IsLawfulStep f (step_among ws f)
steps_keep [] h f text s W g = record { lawful = tt }
steps_keep (w ∷ ws) h f text s W g =
    let u = on (f ∷ s.frames) s in
    either_keeps (w.walks f) (w.step f text u) (step_among ws f text u) text (names_in_turn (costs f)) s.frames u W (h.0.lawful f text s W g) (steps_keep ws h.1 f text s W g)

either_calm : (b : Bool) (f : Frame) (t u : Ask) → Effects (IsCalm f) t → Effects (IsCalm f) u → Effects (IsCalm f) (cond b t u)
either_calm true f t u h g = h
either_calm false f t u h g = g

steps_steady : (ws : List Walker) → AllByRecursion KeptWalker ws → (f : Frame) (text : List ℕ) (s : State) → costs f ≡ false → Effects (IsCalm f) (step_among ws f text s)
steps_steady [] h f text s c = tt
steps_steady (w ∷ ws) h f text s c = either_calm (w.walks f) f (w.step f text s) (step_among ws f text s) (h.0.steady f text s c) (steps_steady ws h.1 f text s c)

-- ---- the table

kept : KeptTable table
kept = record {
  steady = steps_steady walkers walkers_keep;
  run = among_keeps families families_keep;
  step = λ f b. steps_keep walkers walkers_keep f;
  leave = λ r text s W h. (
    record {
      operands = h.state.registers.operands;
      dicts = h.state.registers.dicts;
      bottom = h.state.registers.bottom;
      state = h.state.registers.state;
      states = h.state.registers.states;
      marks = h.state.registers.marks;
      size = refl;
    },
    λ _. h.state.registers.size,
  );
}

-- so runs over it keep memory and states sound
pub table_lawful : LawfulTable table
table_lawful = kept_table table kept
