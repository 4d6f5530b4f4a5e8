-- One round of the loop.
use Rattle.std.specs.Bool.{⊤}
use Rattle.std.proofs.Common.{◌≡◌, ℕ, suc, ◌<◌, ◌≤◌, ◌+◌, ◌*◌, min, true, false, List, [], ◌∷◌, ◌++◌, Option, refl, sym, ap, ◌∙◌, true≢false, arith, subst, Result, Ok, append_assoc}
use Rattle.ps_shapes.specs.Sheet.{Sheet}
use Rattle.ps_kinds.specs.declared.state.State.{State}
use Rattle.ps_memory.specs.Memory.{Memory, Output}
use Rattle.ps_memory.specs.Tree.{Tree, ◌>>=◌, result, after}
use Rattle.ps_meaning.specs.Answer.{Log}
use Rattle.ps_execution.specs.Budgets.{left}
use Rattle.ps_execution.specs.Execution.{Ending}
use Rattle.ps_execution.specs.Lawful.{LawfulTable, SoundAt}
use Rattle.ps_execution.specs.Machine.{Move, step, rest_of}
use Rattle.ps_execution.specs.Reached.{Reached, came, outer, reached}
use Rattle.ps_execution.specs.Table.{Table, Program}
use Rattle.ps_execution.proofs.Loop.{sound_step, smaller_step, same_rest, outer_rest}
use Rattle.ps_execution.proofs.Machine.{machine_law}
use Rattle.ps_execution.proofs.Weight.{heights, weight}
use Rattle.ps_steps.specs.Next.{program, is_step, move_of}
use Rattle.ps_steps.specs.declared.next.Next.{Next}
use Rattle.ps_steps.specs.declared.next.Next.TheVariants as next
use Rattle.ps_machine.specs.Loops.{SoundNext, rest_reached, IsFront}
use Rattle.ps_machine.specs.Runs.{told, given, stepped, Advances}
use Rattle.ps_machine.proofs.Outputs.{told_bind, shifted, shift, came_is}

-- an outer restore leaves nothing to do
abbrev pub weight_of : Next → State → ℕ
weight_of (next.Outer q) s = 0
weight_of n s = weight (move_of n s)

-- a number below which the weight of a move that isn't the last is no more
abbrev below : Next → State → ℕ
below next.Goes s = 8 * left s + heights s.frames + 1
below _ s = 8 * left s + heights s.frames

pub sound_before : (text : List ℕ) (n : Next) (s : State) (M : Memory) → is_step n ≡ true → SoundNext text n s M → SoundAt text (move_of n s) M
sound_before text next.Goes s M l h = h
sound_before text (next.Raised e x) s M l h = h
sound_before text (next.Says t) s M l h = h
sound_before text (next.Shows w) s M l h = h
sound_before text (next.Ended o) s M l h = h
sound_before text (next.Outer q) s M l h = absurd (true≢false (sym l))

module _ (T : Table) (lawful : LawfulTable T) (text : List ℕ) where
  abbrev P : Program
  P = program T text

  -- what holds of each that isn't an outer restore
  abbrev Came : Next → Next → State → State → Log → Log → Type 0
  Came n r s t log there = stepped T text n s log ≡ came (move_of r t) there (given (stepped T text n s log))

  pub sound_after : (n r : Next) (s t : State) (log there : Log) → SoundAt text (move_of n s) log.view → Advances (stepped T text n s log) (Ok r) t there → SoundNext text r t there.view
  sound_after n r s t log there h e = go r e
    where
      so : (r : Next) → Came n r s t log there → SoundAt text (move_of r t) there.view
      so r e = sound_step P lawful (move_of n s) (move_of r t) log there [] (given (stepped T text n s log)) h e

      go : (r : Next) → Advances (stepped T text n s log) (Ok r) t there → SoundNext text r t there.view
      go next.Goes e = so next.Goes e
      go (next.Raised c x) e = so (next.Raised c x) e
      go (next.Says m) e = so (next.Says m) e
      go (next.Shows w) e = so (next.Shows w) e
      go (next.Ended o) e = so (next.Ended o) e
      go (next.Outer q) e = tt

  weight_suc : (n : Next) (s : State) → is_step n ≡ true → weight (move_of n s) ≡ suc (below n s)
  weight_suc next.Goes s l = omega arith
  weight_suc (next.Raised e x) s l = omega arith
  weight_suc (next.Says t) s l = absurd (true≢false (sym l))
  weight_suc (next.Shows w) s l = absurd (true≢false (sym l))
  weight_suc (next.Ended o) s l = absurd (true≢false (sym l))
  weight_suc (next.Outer q) s l = absurd (true≢false (sym l))

  same_weight : (n : Next) (s : State) → is_step n ≡ true → weight_of n s ≡ weight (move_of n s)
  same_weight next.Goes s l = refl
  same_weight (next.Raised e x) s l = refl
  same_weight (next.Says t) s l = absurd (true≢false (sym l))
  same_weight (next.Shows w) s l = absurd (true≢false (sym l))
  same_weight (next.Ended o) s l = absurd (true≢false (sym l))
  same_weight (next.Outer q) s l = absurd (true≢false (sym l))

  pub smaller_after : (n r : Next) (s t : State) (log there : Log) → is_step n ≡ true → Advances (stepped T text n s log) (Ok r) t there → weight_of r t < weight_of n s
  smaller_after n r s t log there l e = go r e
    where
      w : weight (move_of n s) ≡ suc (below n s)
      w = weight_suc n s l

      v : weight_of n s ≡ weight (move_of n s)
      v = same_weight n s l

      so : (r : Next) → Came n r s t log there → weight (move_of r t) < weight_of n s
      so r e = let h = smaller_step P lawful (move_of n s) (move_of r t) (below n s) log there [] (given (stepped T text n s log)) w e in omega (arith, v, h)

      go : (r : Next) → Advances (stepped T text n s log) (Ok r) t there → weight_of r t < weight_of n s
      go next.Goes e = so next.Goes e
      go (next.Raised c x) e = so (next.Raised c x) e
      go (next.Says m) e = so (next.Says m) e
      go (next.Shows w) e = so (next.Shows w) e
      go (next.Ended o) e = so (next.Ended o) e
      go (next.Outer q) e = omega (arith, v, w)

  whole : (n : Next) (s : State) (log : Log) (out : List Output) → is_step n ≡ true → reached (rest_of P (move_of n s)) log out ≡ rest_reached P n s log out
  whole next.Goes s log out l = refl
  whole (next.Raised c x) s log out l = refl
  whole (next.Says t) s log out l = absurd (true≢false (sym l))
  whole (next.Shows w) s log out l = absurd (true≢false (sym l))
  whole (next.Ended o) s log out l = absurd (true≢false (sym l))
  whole (next.Outer q) s log out l = absurd (true≢false (sym l))

  pub rest_after : (n r : Next) (s t : State) (log there : Log) (out : List Output) → is_step n ≡ true → Advances (stepped T text n s log) (Ok r) t there
      → rest_reached P r t there (out ++ given (stepped T text n s log)) ≡ rest_reached P n s log out
  rest_after n r s t log there out l e = go r e ∙ whole n s log out l
    where
      m : Move
      m = move_of n s

      told_so : List Output
      told_so = out ++ given (stepped T text n s log)

      so : (r : Next) → Came n r s t log there → reached (rest_of P (move_of r t)) there told_so ≡ reached (rest_of P m) log out
      so r e = same_rest P lawful m (move_of r t) log there out told_so (shift (step P m) log out ∙ ap (shifted out) e)

      go : (r : Next) → Advances (stepped T text n s log) (Ok r) t there → rest_reached P r t there told_so ≡ reached (rest_of P m) log out
      go next.Goes e = so next.Goes e
      go (next.Raised c x) e = so (next.Raised c x) e
      go (next.Says w) e = so (next.Says w) e
      go (next.Shows w) e = so (next.Shows w) e
      go (next.Ended o) e = so (next.Ended o) e
      go (next.Outer q) e = sym (outer_rest P lawful m q log out (shift (step P m) log out ∙ ap (shifted out) e))

  -- the outputs of what is left begin with those of the step
  pub told_first : (m n : Move) (log there : Log) (os : List Output) → reached (step P m) log [] ≡ came n there os → told (rest_of P m) log.view ≡ os ++ told (rest_of P n) there.view
  told_first m n log there os e =
      let h = came_is (step P m) log there n os e in
      sym (ap (λ t. told t log.view) (machine_law P lawful.steady m))
      ∙ told_bind (step P m) (rest_of P) log.view
      ∙ ap (λ o. o ++ told (rest_of P (result (step P m) log.view)) (after (step P m) log.view)) h.outputs
      ∙ ap (λ x. os ++ told (rest_of P x) (after (step P m) log.view)) h.ended
      ∙ ap (λ M. os ++ told (rest_of P n) M) h.memory

  before_front : (n : Next) (s : State) (M : Memory) (all out : List Output) → is_step n ≡ true → IsFront P all out n s M → all ≡ out ++ told (rest_of P (move_of n s)) M
  before_front next.Goes s M all out l h = h
  before_front (next.Raised c x) s M all out l h = h
  before_front (next.Says t) s M all out l h = h
  before_front (next.Shows w) s M all out l h = h
  before_front (next.Ended o) s M all out l h = h
  before_front (next.Outer q) s M all out l h = absurd (true≢false (sym l))

  pub front_after : (n r : Next) (s t : State) (log there : Log) (all out : List Output) → is_step n ≡ true → IsFront P all out n s log.view → Advances (stepped T text n s log) (Ok r) t there
      → IsFront P all (out ++ given (stepped T text n s log)) r t there.view
  front_after n r s t log there all out l h e = go r e
    where
      os : List Output
      os = given (stepped T text n s log)

      so : (r : Next) → Came n r s t log there → all ≡ (out ++ os) ++ told (rest_of P (move_of r t)) there.view
      so r e =
          before_front n s log.view all out l h
          ∙ ap (λ o. out ++ o) (told_first (move_of n s) (move_of r t) log there os e)
          ∙ sym (append_assoc out os (told (rest_of P (move_of r t)) there.view))

      go : (r : Next) → Advances (stepped T text n s log) (Ok r) t there → IsFront P all (out ++ os) r t there.view
      go next.Goes e = so next.Goes e
      go (next.Raised c x) e = so (next.Raised c x) e
      go (next.Says w) e = so (next.Says w) e
      go (next.Shows w) e = so (next.Shows w) e
      go (next.Ended o) e = so (next.Ended o) e
      go (next.Outer q) e = tt

  -- whatever a step comes to, its outputs are a front of what is left
  pub given_first : (n : Next) (s : State) (log : Log) (all out : List Output) → is_step n ≡ true → IsFront P all out n s log.view
      → (rest : List Output) × (all ≡ (out ++ given (stepped T text n s log)) ++ rest)
  given_first n s log all out l h = go (stepped T text n s log) refl
    where
      m : Move
      m = move_of n s

      go : (r : Reached Move) → stepped T text n s log ≡ r → (rest : List Output) × (all ≡ (out ++ given r) ++ rest)
      go (came x there os) e = (
        told (rest_of P x) there.view,
        before_front n s log.view all out l h
            ∙ ap (λ o. out ++ o) (told_first m x log there os e)
            ∙ sym (append_assoc out os (told (rest_of P x) there.view)),
      )
      go (outer q) e = (told (rest_of P m) log.view, before_front n s log.view all out l h ∙ ap (λ o. o ++ told (rest_of P m) log.view) (sym (nil out)))
        where
          nil : (o : List Output) → o ++ [] ≡ o
          nil [] = refl
          nil (x ∷ o) = ap (λ p. x ∷ p) (nil o)
