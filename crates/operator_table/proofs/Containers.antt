-- An operator on containers is one on dictionaries, or one of the same name on arrays and strings.
use Rattle.std.proofs.Common.{◌≡◌, ℕ, Bool, true, false, cond, ◌||◌, ◌&&◌, nat_eq, List, Result, refl, sym, ap, ◌∙◌, subst}
use Rattle.copy_lists.specs.declared.memory.NoMemory.{NoMemory}
use Rattle.ps_names.specs.declared.places.TheConstants as at
use Rattle.ps_objects.specs.declared.object.Object.{Object}
use Rattle.ps_kinds.specs.declared.act.Act.{Act}
use Rattle.ps_kinds.specs.declared.state.State.{State}
use Rattle.ps_meaning.specs.Answer.{Log, answer}
use Rattle.ps_operator.specs.Owes.{Gives, Runs}
use Rattle.ps_operator.specs.Registers.{ops}
use Rattle.dict_ops.specs.Operators as dicts
use Rattle.array_ops.specs.Operators as arrays
use Rattle.operator_table.specs.Operators.{on_container}

module _ (n : ℕ) (s : State) (log : Log) (r : Result Act NoMemory) (t : State) (there : Log) (o : dicts.is_offered n ≡ true) where
  -- a dictionary is for the operators on dictionaries
  pub on_dictionary : dicts.belongs n s ≡ true → Runs (dicts.run n) s log r t there → Runs (on_container n) s log r t there
  on_dictionary h p =
      let e : dicts.is_on_dict n (ops s) ≡ true = sym (ap (λ b. b && dicts.is_on_dict n (ops s)) o) ∙ h in
      subst (λ a. Gives (answer a s log) r t there) (sym (ap (λ b. cond b (dicts.run n s) (arrays.run n s)) e)) p

  -- all else is for those on arrays and strings
  pub on_array : dicts.belongs n s ≡ false → Runs (arrays.run n) s log r t there → Runs (on_container n) s log r t there
  on_array h p =
      let e : dicts.is_on_dict n (ops s) ≡ false = sym (ap (λ b. b && dicts.is_on_dict n (ops s)) o) ∙ h in
      subst (λ a. Gives (answer a s log) r t there) (sym (ap (λ b. cond b (dicts.run n s) (arrays.run n s)) e)) p

-- what is refused for its container is one of four
shared : (l c g p x y z : Bool) → cond (l || c) x (cond g y (cond p z true)) ≡ false → (l || g || p || c) ≡ true
shared true c g p x y z h = refl
shared false true true p x y z h = refl
shared false true false true x y z h = refl
shared false true false false x y z h = refl
shared false false true p x y z h = refl
shared false false false true x y z h = refl
shared false false false false x y z h = absurd cc

or_holds : (b : Bool) → (b || true) ≡ true
or_holds true = refl
or_holds false = refl

-- it is an operator on arrays and strings, too
pub is_array_too : (n : ℕ) (s : State) → dicts.is_offered n ≡ true → dicts.belongs n s ≡ false → arrays.is_offered n ≡ true
is_array_too n s o h =
    let e : dicts.is_on_dict n (ops s) ≡ false = sym (ap (λ b. b && dicts.is_on_dict n (ops s)) o) ∙ h in
    ap (λ b. arrays.is_alone n || b) (shared (nat_eq n at.LENGTH) (nat_eq n at.COPY) (nat_eq n at.GET) (nat_eq n at.PUT) (dicts.is_dict_at 0 (ops s)) (dicts.is_dict_at 1 (ops s)) (dicts.is_dict_at 2 (ops s)) e) ∙ or_holds (arrays.is_alone n)
