-- A page on trial stays ready.
use Rattle.std.proofs.Common.{◌≡◌, ℕ, ℤ, ◌+◌, ◌<◌, ◌≤◌, ◌^◌, List, [], ◌∷◌, Ok, nat_le, true, refl, sym, subst, add-zero, arith}
use Rattle.std.proofs.lemmas.Bool.Decides.{nat_tests}
use Rattle.copy_lists.specs.declared.memory.NoMemory.{NoMemory}
use Rattle.ps_objects.specs.Object.{whole_of}
use Rattle.ps_objects.specs.declared.object.Kind.TheVariants as kind
use Rattle.ps_objects.specs.declared.object.Object.{Object}
use Rattle.ps_objects.specs.declared.place.Shape.TheVariants as shape
use Rattle.ps_kinds.specs.declared.act.Act.{Act}
use Rattle.ps_kinds.specs.declared.act.Act.TheVariants as act
use Rattle.ps_kinds.specs.declared.state.State.{State}
use Rattle.ps_memory.specs.Memory.{Memory, fresh, perform}
use Rattle.ps_meaning.specs.Answer.{Log, acted_in}
use Rattle.ps_meaning.specs.Ready.{ReadyIn}
use Rattle.ps_operator.specs.Lawful.{IsLawful}
use Rattle.ps_operator.specs.Making.{next_cell}
use Rattle.ps_operator.specs.Owes.{Runs}
use Rattle.ps_operator.specs.Registers.{ops, literal, with_ops}
use Rattle.ps_operator.proofs.Lawful.{leaves_keeps}
use Rattle.ps_operator.proofs.Growing.{free_keeps, new_fits}
use Rattle.ps_operator.proofs.Storing.{whole_lies}
use Rattle.stack_arith.specs.Operators.{run, OperatorsLaw}
use Rattle.operator_trial.specs.Going.{integer_pushed, string_pushed}
use Rattle.operator_trial.proofs.Again.{quiet_log, ready_again}

integer_keeps : (n : ℤ) → IsLawful (integer_pushed n)
integer_keeps n text s W f = leaves_keeps f (literal (kind.Integer n) ∷ ops s) (tt, f.state.registers.operands)

string_keeps : (n : ℕ) → n < 4294967296 → IsLawful (string_pushed n)
string_keeps n h text s W f =
    let x : Object = literal (kind.Str (whole_of (next_cell s) n)) in
    free_keeps f (shape.Str n) (x ∷ ops s) (new_fits f (shape.Str n) x (ops s) refl (whole_lies n h) f.state.registers.operands)

module _ (s : State) (M : Memory) (r : ReadyIn [] s M) where
  pub integer_ready : (n : ℤ) → ReadyIn [] (with_ops s (literal (kind.Integer n) ∷ ops s)) M
  integer_ready n =
      let P : ℕ → Type 0 = λ k. ReadyIn [] (record (with_ops s (literal (kind.Integer n) ∷ ops s)) { count = k }) M in
      subst P (add-zero s.count) (ready_again [] (integer_pushed n) (integer_keeps n) s M r act.Done (record (with_ops s (literal (kind.Integer n) ∷ ops s)) { count = s.count + 0 }) (quiet_log M) refl (subst (λ k. k ≤ 2 ^ 31) (sym (add-zero s.count)) r.ready.count))

  pub string_ready : (n : ℕ) → n < 4294967296 → s.count + 1 ≤ 2 ^ 31
      → ReadyIn [] (record (with_ops s (literal (kind.Str (whole_of (next_cell s) n)) ∷ ops s)) { count = s.count + 1 }) (perform (fresh (next_cell s) (shape.Str n)) M)
  string_ready n h l = ready_again [] (string_pushed n) (string_keeps n h) s M r act.Done (record (with_ops s (literal (kind.Str (whole_of (next_cell s) n)) ∷ ops s)) { count = s.count + 1 }) (acted_in (quiet_log M) (fresh (next_cell s) (shape.Str n))) refl l

  pub run_ready : OperatorsLaw → (op : ℕ) (a : Act) (u : State) (N : Memory) → Runs (run op) s (quiet_log M) (Ok a) u (quiet_log N) → u.count ≤ 2 ^ 31 → ReadyIn [] u N
  run_ready law op a u N e l = ready_again [] (run op) (law op) s M r a u (quiet_log N) e l

pub few : (n : ℕ) → nat_le n 2147483648 ≡ true → n ≤ 2 ^ 31
few n l = grind (arith, nat_tests)
