-- The ways through executing an object.
use Rattle.std.proofs.Common.{Bool, true, false, cond, true≢false, ◌≡◌, ℕ, zero, suc, ◌+◌, List, [], ◌∷◌, ◌++◌, Some, None, Result, Ok, Err, refl, sym, ap, ◌∙◌, subst, arith}
use Rattle.ps_objects.specs.Access.{run_right}
use Rattle.ps_names.specs.declared.error_name.ErrorName.{ErrorName}
use Rattle.ps_objects.specs.declared.object.Object.{Object}
use Rattle.ps_objects.specs.declared.object.Kind.{Kind}
use Rattle.ps_objects.specs.declared.object.Kind.TheVariants as kind
use Rattle.ps_objects.specs.declared.objects.Interval.{Interval}
use Rattle.ps_objects.specs.declared.place.Loc.TheVariants as loc
use Rattle.ps_objects.specs.declared.place.Value.{Value}
use Rattle.ps_objects.specs.declared.place.Value.TheVariants as value
use Rattle.ps_kinds.specs.Frames.{frames_room}
use Rattle.ps_kinds.specs.declared.act.Act.TheVariants as act
use Rattle.ps_kinds.specs.declared.frame.Frame.{Frame}
use Rattle.ps_kinds.specs.declared.frame.Frame.TheVariants as frame
use Rattle.ps_kinds.specs.declared.state.State.{State}
use Rattle.ps_memory.specs.Memory.{Memory, value_at}
use Rattle.ps_memory.specs.Tree.{Application, done, fail}
use Rattle.ps_objects.specs.declared.key.Key.{Key}
use Rattle.ps_names.specs.declared.error_name.ErrorName.TheVariants.{Undefined}
use Rattle.ps_meaning.specs.Answer.{Log, looked_in, read, Effect, answer, answer_over}
use Rattle.ps_operator.specs.Tree.{Reading, reads}
use Rattle.ps_operator.specs.Looks.{byte_then}
use Rattle.ps_operator.specs.Keys.{bytes_from, bytes_of}
use Rattle.ps_operator.specs.Standing.{is_string, is_named}
use Rattle.ps_operator.proofs.Standing.{named}
use Rattle.ps_steps.specs.Operators.{FitsHere, Executed}
use Rattle.ps_reader.specs.Reading.{IsReady}
use Rattle.copy_lists.specs.declared.memory.NoMemory.{NoMemory}
use Rattle.ps_kinds.specs.declared.act.Act.{Act}
use Rattle.ps_steps.proofs.Turns.{ready_in}
use Rattle.ps_execution.specs.Objects.{looks_at_bytes, byte_in, goes_on, pushes, runs_procedure, runs_string, runs_kind, value_kind, runs_value, searches, met_kind, executes}
use Rattle.ps_execution.specs.Table.{Program}
use Rattle.ps_steps.specs.Executing.{operator_in, string_in, procedure_in, is_null, key_in}

append_one : (xs : List ℕ) (b : ℕ) (bs : List ℕ) → (xs ++ b ∷ []) ++ bs ≡ xs ++ b ∷ bs
append_one [] b bs = refl
append_one (x ∷ xs) b bs = ap (λ ys. x ∷ ys) (append_one xs b bs)

append_none : (xs : List ℕ) → xs ++ [] ≡ xs
append_none [] = refl
append_none (x ∷ xs) = ap (λ ys. x ∷ ys) (append_none xs)

abbrev same_result : {A : Type 0} → Result A ErrorName → Result A ErrorName → Type 0
same_result p q = p ≡ q

ok_same : {A : Type 0} {x y : A} → same_result (Ok x) (Ok y) → x ≡ y
ok_same e = cc

some_same : {A : Type 0} {x y : A} → Some x ≡ Some y → x ≡ y
some_same e = cc

not_some : {A : Type 0} {y : A} → None ≡ Some y → ⊥
not_some e = cc

some_none : {A : Type 0} {y : A} → Some y ≡ None → ⊥
some_none e = cc

not_ok : {A : Type 0} {x : ErrorName} {y : A} → same_result (Err x) (Ok y) → ⊥
not_ok e = cc

-- ---- the bytes of a string, as both trees look at them

module _ (below : List Frame) (s : State) (there : Log) (bs : List ℕ) (a : Interval) where
  from : (n at : ℕ) (seen : List ℕ) (k : List ℕ → Application Effect) (log : Log) → reads (bytes_from a at n seen) log ≡ record { outcome = Ok bs; log = there }
      → answer_over below (looks_at_bytes a.cell (a.start + at) n (λ cs. k (seen ++ cs))) s log ≡ answer_over below (k bs) s there
  from zero at seen k log e =
      let p : seen ≡ bs = ok_same (ap (λ (r : Reading (List ℕ)). r.outcome) e) in
      let q : log ≡ there = ap (λ (r : Reading (List ℕ)). r.log) e in
      ap (λ cs. answer_over below (k cs) s log) (append_none seen ∙ p) ∙ ap (answer_over below (k bs) s) q
  from (suc n) at seen k log e = go (value_at log.view (loc.Byte a.cell (a.start + at))) (from n (at + 1)) e
    where
      next : Log
      next = looked_in log (loc.Byte a.cell (a.start + at))

      step : a.start + (at + 1) ≡ suc (a.start + at)
      step = omega arith

      go : (v : Value) → ((seen : List ℕ) (k : List ℕ → Application Effect) (log : Log) → reads (bytes_from a (at + 1) n seen) log ≡ record { outcome = Ok bs; log = there } → answer_over below (looks_at_bytes a.cell (a.start + (at + 1)) n (λ cs. k (seen ++ cs))) s log ≡ answer_over below (k bs) s there) → reads (byte_then (λ b. bytes_from a (at + 1) n (seen ++ b ∷ [])) v) next ≡ record { outcome = Ok bs; log = there }
          → answer_over below (looks_at_bytes a.cell (suc (a.start + at)) n (λ cs. k (seen ++ byte_in v ∷ cs))) s next ≡ answer_over below (k bs) s there
      go (value.Byte b) r e =
          ap (λ i. answer_over below (looks_at_bytes a.cell i n (λ cs. k (seen ++ b ∷ cs))) s next) (sym step)
          ∙ ap (λ f. answer_over below (looks_at_bytes a.cell (a.start + (at + 1)) n f) s next) (λ i cs. k (sym (append_one seen b cs) i))
          ∙ r (seen ++ b ∷ []) k next e
      go value.Absent r e = absurd (not_ok (ap (λ (r : Reading (List ℕ)). r.outcome) e))
      go (value.Object x) r e = absurd (not_ok (ap (λ (r : Reading (List ℕ)). r.outcome) e))
      go (value.Access x) r e = absurd (not_ok (ap (λ (r : Reading (List ℕ)). r.outcome) e))
      go (value.Keys ks) r e = absurd (not_ok (ap (λ (r : Reading (List ℕ)). r.outcome) e))
      go (value.Rand m) r e = absurd (not_ok (ap (λ (r : Reading (List ℕ)). r.outcome) e))
      go (value.Paper p) r e = absurd (not_ok (ap (λ (r : Reading (List ℕ)). r.outcome) e))

  pub looked_whole : (k : List ℕ → Application Effect) (log : Log) → reads (bytes_of a) log ≡ record { outcome = Ok bs; log = there } → answer_over below (looks_at_bytes a.cell a.start a.len k) s log ≡ answer_over below (k bs) s there
  looked_whole k log e = ap (λ i. answer_over below (looks_at_bytes a.cell i a.len k) s log) start ∙ from a.len 0 [] k log e
    where
      start : a.start ≡ a.start + 0
      start = omega arith

-- ---- strings

module _ (x : Object) (a : Interval) (s : State) (log : Log) where
  pub string_denied : (e : ErrorName) → run_right x.access ≡ Err e → answer (runs_string x a s) s log ≡ record { act = act.Fail e; state = s; log = log }
  string_denied e h = ap (λ r. answer_over s.frames (read r (λ _. read (frames_room 1 s.frames) (λ _. looks_at_bytes a.cell a.start a.len (λ bs. done [] (record { state = s; frames = []; act = act.Body (frame.Text x bs 0) }))))) s log) h

  pub string_full : (e : ErrorName) → run_right x.access ≡ Ok tt → frames_room 1 s.frames ≡ Err e → answer (runs_string x a s) s log ≡ record { act = act.Fail e; state = s; log = log }
  string_full e h f =
      ap (λ r. answer_over s.frames (read r (λ _. read (frames_room 1 s.frames) (λ _. looks_at_bytes a.cell a.start a.len (λ bs. done [] (record { state = s; frames = []; act = act.Body (frame.Text x bs 0) }))))) s log) h
      ∙ ap (λ r. answer_over s.frames (read r (λ _. looks_at_bytes a.cell a.start a.len (λ bs. done [] (record { state = s; frames = []; act = act.Body (frame.Text x bs 0) })))) s log) f

  as_bytes : (there : Log) (bs : List ℕ) → run_right x.access ≡ Ok tt → frames_room 1 s.frames ≡ Ok tt → reads (bytes_of a) log ≡ record { outcome = Ok bs; log = there } → answer (runs_string x a s) s log ≡ record { act = act.Body (frame.Text x bs 0); state = s; log = there }
  as_bytes there bs h f e =
      ap (λ r. answer_over s.frames (read r (λ _. read (frames_room 1 s.frames) (λ _. looks_at_bytes a.cell a.start a.len (λ bs. done [] (record { state = s; frames = []; act = act.Body (frame.Text x bs 0) }))))) s log) h
      ∙ ap (λ r. answer_over s.frames (read r (λ _. looks_at_bytes a.cell a.start a.len (λ bs. done [] (record { state = s; frames = []; act = act.Body (frame.Text x bs 0) })))) s log) f
      ∙ looked_whole s.frames s there bs a (λ bs. done [] (record { state = s; frames = []; act = act.Body (frame.Text x bs 0) })) log e
      ∙ ap (λ n. record { act = act.Body (frame.Text x bs 0); state = record s { count = n }; log = there }) same
    where
      same : s.count + 0 ≡ s.count
      same = omega arith

  pub string_runs : (there : Log) (bs cs : List ℕ) → run_right x.access ≡ Ok tt → frames_room 1 s.frames ≡ Ok tt → reads (bytes_of a) log ≡ record { outcome = Ok bs; log = there } → cs ≡ bs → answer (runs_string x a s) s log ≡ record { act = act.Body (frame.Text x cs 0); state = s; log = there }
  string_runs there bs cs h f e p = as_bytes there bs h f e ∙ ap (λ ds. record { act = act.Body (frame.Text x ds 0); state = s; log = there }) (sym p)

-- ---- what stands

pub string_here : (text : List ℕ) (s : State) (M : Memory) (x : Object) (a : Interval) → IsReady 1 text s M → FitsHere M x → string_in x.kind ≡ Some a → is_string M a ≡ true
string_here text s M x a r h e = go x.kind (named s M (ready_in text s M r).ready x.kind h) e
  where
    go : (k : Kind) → is_named M k ≡ true → string_in k ≡ Some a → is_string M a ≡ true
    go (kind.Str part) h e = subst (λ b. is_string M b ≡ true) (some_same e) h
    go _ h e = absurd (not_some e)

-- ---- an object to which a name led

module _ (P : Program) (x : Object) (s : State) where
  operator_is : (k : Kind) (n : ℕ) → operator_in k ≡ Some n → value_kind P x k s ≡ P.table.run n P.text s
  operator_is (kind.Operator m) n e = ap (λ i. P.table.run i P.text s) (some_same e)
  operator_is _ n e = absurd (not_some e)

  no_operator : (k : Kind) (b : Bool) → operator_in k ≡ None → x.exec ≡ b → value_kind P x k s ≡ cond b (runs_kind P x k s) (pushes x s)
  no_operator (kind.Operator m) b e f = absurd (some_none e)
  no_operator (kind.Array part packed) b e f = ap (λ t. cond t (runs_kind P x (kind.Array part packed) s) (pushes x s)) f
  no_operator (kind.Str part) b e f = ap (λ t. cond t (runs_kind P x (kind.Str part) s) (pushes x s)) f
  no_operator (kind.Integer z) b e f = ap (λ t. cond t (pushes x s) (pushes x s)) f
  no_operator (kind.Real z) b e f = ap (λ t. cond t (pushes x s) (pushes x s)) f
  no_operator (kind.Boolean z) b e f = ap (λ t. cond t (pushes x s) (pushes x s)) f
  no_operator kind.Null b e f = ap (λ t. cond t (goes_on s) (pushes x s)) f
  no_operator kind.Mark b e f = ap (λ t. cond t (pushes x s) (pushes x s)) f
  no_operator (kind.Name z) b e f = ap (λ t. cond t (pushes x s) (pushes x s)) f
  no_operator (kind.Dict z) b e f = ap (λ t. cond t (pushes x s) (pushes x s)) f
  no_operator (kind.File z) b e f = ap (λ t. cond t (pushes x s) (pushes x s)) f
  no_operator (kind.Filter z m) b e f = ap (λ t. cond t (pushes x s) (pushes x s)) f
  no_operator (kind.Save z) b e f = ap (λ t. cond t (pushes x s) (pushes x s)) f
  no_operator (kind.FontId z) b e f = ap (λ t. cond t (pushes x s) (pushes x s)) f

  procedure_is : (k : Kind) (n : ℕ) → procedure_in k ≡ Some n → runs_kind P x k s ≡ runs_procedure x n s
  procedure_is (kind.Array part packed) n e = ap (λ m. runs_procedure x m s) (some_same e)
  procedure_is _ n e = absurd (not_some e)

  string_is : (k : Kind) (a : Interval) → string_in k ≡ Some a → runs_kind P x k s ≡ runs_string x a s
  string_is (kind.Str part) a e = ap (λ (a : Interval). runs_string x a s) (some_same e)
  string_is _ a e = absurd (not_some e)

  null_is : (k : Kind) → is_null k ≡ true → runs_kind P x k s ≡ goes_on s
  null_is kind.Null e = refl
  null_is _ e = absurd (true≢false (sym e))

  other_is : (k : Kind) → procedure_in k ≡ None → string_in k ≡ None → is_null k ≡ false → runs_kind P x k s ≡ pushes x s
  other_is (kind.Array part packed) e f g = absurd (some_none e)
  other_is (kind.Str part) e f g = absurd (some_none f)
  other_is kind.Null e f g = absurd (true≢false g)
  other_is _ e f g = refl

module _ (P : Program) (x : Object) (s : State) (log : Log) where
  pub value_operator : (n : ℕ) → operator_in x.kind ≡ Some n → answer (runs_value P x s) s log ≡ answer (P.table.run n P.text s) s log
  value_operator n e = ap (λ t. answer t s log) (operator_is P x s x.kind n e)

  pub value_literal : operator_in x.kind ≡ None → x.exec ≡ false → answer (runs_value P x s) s log ≡ answer (pushes x s) s log
  value_literal e f = ap (λ t. answer t s log) (no_operator P x s x.kind false e f)

  pub value_procedure : (n : ℕ) → operator_in x.kind ≡ None → x.exec ≡ true → procedure_in x.kind ≡ Some n → answer (runs_value P x s) s log ≡ answer (runs_procedure x n s) s log
  value_procedure n e f g = ap (λ t. answer t s log) (no_operator P x s x.kind true e f ∙ procedure_is P x s x.kind n g)

  pub value_string : (a : Interval) → operator_in x.kind ≡ None → x.exec ≡ true → string_in x.kind ≡ Some a → answer (runs_value P x s) s log ≡ answer (runs_string x a s) s log
  value_string a e f g = ap (λ t. answer t s log) (no_operator P x s x.kind true e f ∙ string_is P x s x.kind a g)

  pub value_null : operator_in x.kind ≡ None → x.exec ≡ true → is_null x.kind ≡ true → answer (runs_value P x s) s log ≡ answer (goes_on s) s log
  value_null e f g = ap (λ t. answer t s log) (no_operator P x s x.kind true e f ∙ null_is P x s x.kind g)

  pub value_other : operator_in x.kind ≡ None → x.exec ≡ true → procedure_in x.kind ≡ None → string_in x.kind ≡ None → is_null x.kind ≡ false → answer (runs_value P x s) s log ≡ answer (pushes x s) s log
  value_other e f g h i = ap (λ t. answer t s log) (no_operator P x s x.kind true e f ∙ other_is P x s x.kind g h i)

  -- as functions do it
  pub by_push : (r : Result (Act × Object) NoMemory) (t : State) → answer (runs_value P x s) s log ≡ answer (pushes x s) s log → ((k : Log) → Executed x (answer (pushes x s) s k) r t k) → Executed x (answer (runs_value P x s) s log) r t log
  by_push r t e h = subst (λ a. Executed x a r t log) (sym e) (h log)

  pub by_procedure : (n : ℕ) (r : Result (Act × Object) NoMemory) → answer (runs_value P x s) s log ≡ answer (runs_procedure x n s) s log → ((k : Log) → Executed x (answer (runs_procedure x n s) s k) r s k) → Executed x (answer (runs_value P x s) s log) r s log
  by_procedure n r e h = subst (λ a. Executed x a r s log) (sym e) (h log)

-- ---- an object that was met

module _ (P : Program) (x : Object) (s : State) where
  met_operator_is : (k : Kind) (n : ℕ) → operator_in k ≡ Some n → met_kind P x k s ≡ P.table.run n P.text s
  met_operator_is (kind.Operator m) n e = ap (λ i. P.table.run i P.text s) (some_same e)
  met_operator_is _ n e = absurd (not_some e)

  met_string_is : (k : Kind) (a : Interval) → string_in k ≡ Some a → met_kind P x k s ≡ runs_string x a s
  met_string_is (kind.Str part) a e = ap (λ (a : Interval). runs_string x a s) (some_same e)
  met_string_is _ a e = absurd (not_some e)

  met_null_is : (k : Kind) → is_null k ≡ true → met_kind P x k s ≡ goes_on s
  met_null_is kind.Null e = refl
  met_null_is _ e = absurd (true≢false (sym e))

  pub met_name_is : (k : Kind) (j : Key) → key_in k ≡ Some j → met_kind P x k s ≡ searches s.regs.dicts j (λ y. runs_value P y s) (fail Undefined)
  met_name_is (kind.Name n) j e = ap (λ i. searches s.regs.dicts i (λ y. runs_value P y s) (fail Undefined)) (some_same e)
  met_name_is _ j e = absurd (not_some e)

  met_other_is : (k : Kind) → operator_in k ≡ None → string_in k ≡ None → is_null k ≡ false → key_in k ≡ None → met_kind P x k s ≡ pushes x s
  met_other_is (kind.Operator n) d e f g = absurd (some_none d)
  met_other_is (kind.Str part) d e f g = absurd (some_none e)
  met_other_is kind.Null d e f g = absurd (true≢false f)
  met_other_is (kind.Name n) d e f g = absurd (some_none g)
  met_other_is _ d e f g = refl

  pub met_as : (t : Application Effect) → x.exec ≡ true → met_kind P x x.kind s ≡ t → executes P x s ≡ t
  met_as t e f = ap (λ b. cond b (met_kind P x x.kind s) (pushes x s)) e ∙ f

module _ (P : Program) (x : Object) (s : State) (log : Log) where
  pub met_operator : (n : ℕ) → x.exec ≡ true → operator_in x.kind ≡ Some n → answer (executes P x s) s log ≡ answer (P.table.run n P.text s) s log
  met_operator n e f = ap (λ t. answer t s log) (met_as P x s (P.table.run n P.text s) e (met_operator_is P x s x.kind n f))

  pub met_string : (a : Interval) → x.exec ≡ true → string_in x.kind ≡ Some a → answer (executes P x s) s log ≡ answer (runs_string x a s) s log
  met_string a e f = ap (λ t. answer t s log) (met_as P x s (runs_string x a s) e (met_string_is P x s x.kind a f))

  pub met_null : x.exec ≡ true → is_null x.kind ≡ true → answer (executes P x s) s log ≡ answer (goes_on s) s log
  met_null e f = ap (λ t. answer t s log) (met_as P x s (goes_on s) e (met_null_is P x s x.kind f))

  pub met_literal : x.exec ≡ false → answer (executes P x s) s log ≡ answer (pushes x s) s log
  met_literal e = ap (λ b. answer (cond b (met_kind P x x.kind s) (pushes x s)) s log) e

  pub met_other : x.exec ≡ true → operator_in x.kind ≡ None → string_in x.kind ≡ None → is_null x.kind ≡ false → key_in x.kind ≡ None → answer (executes P x s) s log ≡ answer (pushes x s) s log
  met_other e f g h i = ap (λ t. answer t s log) (met_as P x s (pushes x s) e (met_other_is P x s x.kind f g h i))
