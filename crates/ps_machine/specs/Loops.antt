-- What the loop over the steps keeps.
use Rattle.std.specs.Prelude.{◌≡◌, ℕ, List, [], ◌++◌, Option, ⊤}
use Rattle.ps_shapes.specs.Sheet.{Sheet}
use Rattle.ps_kinds.specs.declared.state.State.{State}
use Rattle.ps_memory.specs.Memory.{Memory, Output}
use Rattle.ps_memory.specs.Tree.{Tree}
use Rattle.ps_meaning.specs.Answer.{Log}
use Rattle.ps_execution.specs.Execution.{Ending}
use Rattle.ps_execution.specs.Lawful.{SoundAt}
use Rattle.ps_execution.specs.Machine.{rest_of}
use Rattle.ps_execution.specs.Reached.{Reached, outer, reached}
use Rattle.ps_execution.specs.Table.{Program}
use Rattle.ps_steps.specs.Next.{move_of}
use Rattle.ps_steps.specs.declared.next.Next.{Next}
use Rattle.ps_steps.specs.declared.next.Next.TheVariants as next
use Rattle.ps_machine.specs.Runs.{told, is_quiet, Since}
use Rattle.ps_machine.specs.Lines.{messages_of, last_byte}

-- a sound move
abbrev pub SoundNext : List ℕ → Next → State → Memory → Type 0
SoundNext text (next.Outer q) s M = ⊤
SoundNext text n s M = SoundAt text (move_of n s) M

-- what is left comes to
abbrev pub rest_reached : Program → Next → State → Log → List Output → Reached Ending
rest_reached P (next.Outer q) s log out = outer q
rest_reached P n s log out = reached (rest_of P (move_of n s)) log out

-- the outputs of the whole are those so far and those of what is left
abbrev pub IsFront : Program → List Output → List Output → Next → State → Memory → Type 0
IsFront P all out (next.Outer q) s M = ⊤
IsFront P all out n s M = all ≡ out ++ told (rest_of P (move_of n s)) M

-- so far a run gave out these, and what is left is sound and comes to what the whole comes to
pub record Stands {O : Type 0} (since : O → O → List Sheet → List ℕ → Type 0) (P : Program) (t : Tree Ending) (old : Log) (out : O) (n : Next) (s : State) (log : Log) (new : O) (last : Option ℕ) : Type 0 where
  pub outputs : List Output
  pub sound : SoundNext P.text n s log.view
  pub quiet : is_quiet n
  pub rest : rest_reached P n s log outputs ≡ reached t old []
  pub front : IsFront P (told t old.view) outputs n s log.view
  pub gave : Since since new out outputs
  pub ended : last ≡ last_byte (messages_of outputs)
