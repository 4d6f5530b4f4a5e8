-- Steps of the loops that show operands.
use Rattle.std.proofs.Common.{◌≡◌, ℕ, zero, suc, ◌+◌, ◌<◌, ◌≤◌, Bool, true, false, cond, nat_lt, List, [], ◌∷◌, ◌++◌, drop, length, slice_get, Some, Result, Ok, Err, refl, sym, ap, ◌∙◌, subst, add-one, arith}
use Rattle.ps_names.specs.declared.error_name.ErrorName.{ErrorName}
use Rattle.ps_names.specs.declared.error_name.ErrorName.TheVariants.{LimitCheck}
use Rattle.ps_objects.specs.Operands.{object_at}
use Rattle.ps_objects.specs.declared.object.Object.{Object}
use Rattle.ps_objects.specs.declared.refusal.Refusal.{Refusal}
use Rattle.ps_kinds.specs.declared.state.State.{State}
use Rattle.ps_memory.specs.Memory.{Memory}
use Rattle.ps_memory.specs.Tree.{Application}
use Rattle.ps_meaning.specs.Answer.{Log}
use Rattle.ps_meaning.specs.Budgets.{message_budget}
use Rattle.ps_meaning.specs.Ready.{Ready}
use Rattle.ps_operator.specs.Budgets.{message_room}
use Rattle.ps_operator.specs.Keys.{key_right_at}
use Rattle.ps_operator.specs.Standing.{is_named}
use Rattle.ps_operator.specs.Tree.{reads, look_then, went_on}
use Rattle.ps_operator.proofs.LookSteps.{drop_at_get}
use Rattle.ps_operator.proofs.Standing.{object_stands}
use Rattle.ps_operator.proofs.Then.{reads_then}
use Rattle.full_texts.specs.Growing.{if_room, allowed, Growth, whole, Makes, Grows}
use Rattle.full_texts.specs.Full.{full_text}
use Rattle.full_texts.proofs.Steps.{grows_as, last_piece, looks_refused, looks_end}
use Rattle.text_ops.specs.Plain.{plain_form, plain_length, plain_told, stands}
use Rattle.text_ops.specs.Listing.{full_line, full_lines, first_of, all_readable, lines_length, lines_room, plain_lines}
use Rattle.text_ops.proofs.Ends.{plain_stands}

-- ---- operands

operand_is : (xs : List Object) (i : ℕ) (x : Object) → slice_get xs i ≡ Some x → object_at i xs ≡ Ok x
operand_is [] i x e = cc
operand_is (y ∷ ys) zero x e = let p : y ≡ x = cc in ap (λ z. Ok z) p
operand_is (y ∷ ys) (suc i) x e = operand_is ys i x e

module _ (s : State) (M N : Memory) (v : N ≡ M) (r : Ready s M) (i : ℕ) (x : Object) (e : slice_get s.regs.operands i ≡ Some x) where
  pub named_at : is_named N x.kind ≡ true
  named_at = ap (λ M. is_named M x.kind) v ∙ object_stands s M r i x (operand_is s.regs.operands i x e)

  pub stands_at : stands N (plain_form x.kind) ≡ true
  stands_at = ap (λ M. stands M (plain_form x.kind)) v ∙ plain_stands s M r i x (operand_is s.regs.operands i x e)

-- ---- full texts

module _ (s : State) (x : Object) (text : List ℕ) (log : Log) where
  abbrev line_ends : Growth
  line_ends t = whole s (t ++ 10 ∷ [])

  pub line_cut : (r : Refusal) (u w : List ℕ) (new : Log) → Grows (full_text s x text) log (Err r) u new → Grows (full_line s x text) log (Err r) w new
  line_cut r u w new h = looks_refused (full_text s x text) line_ends r u w log new h

  pub line_ended : (t : List ℕ) (new : Log) (r : Result (Unit {0}) Refusal) (w : List ℕ) → reads (full_text s x text) log ≡ record { outcome = Ok t; log = new } → Makes (allowed s (t ++ 10 ∷ [])) r w → Grows (full_line s x text) log r w new
  line_ended t new r w h m = grows_as (line_ends t) (full_line s x text) new log r w new (sym (looks_end (full_text s x text) line_ends t log new h)) (last_piece s (t ++ 10 ∷ []) r w new m)

module _ (s : State) (xs : List Object) (i : ℕ) (x : Object) (text : List ℕ) (log : Log) (e : slice_get xs i ≡ Some x) where
  abbrev lines_left : Growth
  lines_left t = full_lines s (drop (i + 1) xs) t

  line_begins : reads (full_lines s (drop i xs) text) log ≡ reads (look_then (full_line s x text) lines_left) log
  line_begins = ap (λ ys. reads (full_lines s ys text) log) (drop_at_get xs i x e)

  pub line_step : (t : List ℕ) (new : Log) → reads (full_line s x text) log ≡ record { outcome = Ok t; log = new } → reads (full_lines s (drop i xs) text) log ≡ reads (full_lines s (drop (i + 1) xs) t) new
  line_step t new h = line_begins ∙ looks_end (full_line s x text) lines_left t log new h

  -- the refusal is that of the whole
  pub line_refused : (text0 : List ℕ) (old : Log) (r : Refusal) (u w : List ℕ) (new : Log) → reads (full_lines s (drop i xs) text) log ≡ reads (full_lines s xs text0) old → Grows (full_line s x text) log (Err r) u new
      → Grows (full_lines s xs text0) old (Err r) w new
  line_refused text0 old r u w new told h =
      grows_as (look_then (full_line s x text) lines_left) (full_lines s xs text0) log old (Err r) w new (sym line_begins ∙ told) (looks_refused (full_line s x text) lines_left r u w log new h)

-- ---- strings that may be read

pub right_step : (xs : List Object) (i : ℕ) → i < length xs → key_right_at i xs ≡ Ok tt → all_readable (drop i xs) ≡ all_readable (drop (i + 1) xs)
right_step [] i l e = absurd (omega (arith, l))
right_step (x ∷ xs) zero l e = ap (λ (r : Result (Unit {0}) ErrorName). first_of r (all_readable xs)) e
right_step (x ∷ xs) (suc i) l e = rw (add-one (suc i)) (rw (add-one i) at (right_step xs i (omega (arith, l)) e))

right_fails : (xs : List Object) (i : ℕ) (y : ErrorName) → i < length xs → key_right_at i xs ≡ Err y → all_readable (drop i xs) ≡ Err y
right_fails [] i y l e = absurd (omega (arith, l))
right_fails (x ∷ xs) zero y l e = ap (λ (r : Result (Unit {0}) ErrorName). first_of r (all_readable xs)) e
right_fails (x ∷ xs) (suc i) y l e = right_fails xs i y (omega (arith, l)) e

-- the refusal is that of all
pub right_refused : (xs : List Object) (i : ℕ) (y : ErrorName) → i < length xs → all_readable (drop i xs) ≡ all_readable xs → key_right_at i xs ≡ Err y → all_readable xs ≡ Err y
right_refused xs i y l told e = sym told ∙ right_fails xs i y l e

-- ---- plain texts

pub length_step : (xs : List Object) (i : ℕ) (x : Object) → slice_get xs i ≡ Some x → lines_length (drop i xs) ≡ plain_length (plain_form x.kind) + 1 + lines_length (drop (i + 1) xs)
length_step xs i x e = ap lines_length (drop_at_get xs i x e)

refused_by : (b m : ℕ) (y : ErrorName) (t : Bool) → nat_lt b m ≡ t → cond {A = Result (Unit {0}) ErrorName} t (Err LimitCheck) (Ok tt) ≡ Err y → (b < m) × (y ≡ LimitCheck)
refused_by b m y true p q = (grind arith, cc)
refused_by b m y false p q = cc

refused_then : (b m : ℕ) → b < m → cond {A = Result (Unit {0}) ErrorName} (nat_lt b m) (Err LimitCheck) (Ok tt) ≡ Err LimitCheck
refused_then b m l = go (nat_lt b m) refl
  where
    go : (t : Bool) → nat_lt b m ≡ t → cond {A = Result (Unit {0}) ErrorName} t (Err LimitCheck) (Ok tt) ≡ Err LimitCheck
    go true e = refl
    go false e = let h : m ≤ b = grind arith in absurd (omega (arith, l, h))

-- what is too much in part is too much
pub part_refused : (s : State) (xs : List Object) (m : ℕ) (y : ErrorName) → m ≤ lines_length xs → message_room s.kind s.said m ≡ Err y → lines_room s xs ≡ Err y
part_refused s xs m y l e =
    let (a, b) = refused_by (message_budget s.kind) (s.said + m) y (nat_lt (message_budget s.kind) (s.said + m)) refl e in
    ap (λ (r : Result (Unit {0}) ErrorName). if_room r (lines_length xs)) (refused_then (message_budget s.kind) (s.said + lines_length xs) (omega (arith, a, l)))
    ∙ ap (λ y. Err y) (sym b)

pub all_allowed : (s : State) (xs : List Object) (n : ℕ) → n ≡ lines_length xs → message_room s.kind s.said n ≡ Ok tt → lines_room s xs ≡ Ok n
all_allowed s xs n p e =
    ap (λ m. if_room (message_room s.kind s.said m) m) (sym p)
    ∙ ap (λ (r : Result (Unit {0}) ErrorName). if_room r n) e

by_lines : (n m : ℕ) (r : Result (Unit {0}) ErrorName) → if_room r m ≡ Ok n → (r ≡ Ok tt) × (m ≡ n)
by_lines n m (Ok x) e = (refl, cc)
by_lines n m (Err x) e = cc

pub lines_allowed : (s : State) (xs : List Object) (n : ℕ) → lines_room s xs ≡ Ok n → message_room s.kind s.said n ≡ Ok tt
lines_allowed s xs n e =
    let (r, p) = by_lines n (lines_length xs) (message_room s.kind s.said (lines_length xs)) e in
    subst (λ m. message_room s.kind s.said m ≡ Ok tt) p r

module _ (xs : List Object) (i : ℕ) (x : Object) (text : List ℕ) (log : Log) (e : slice_get xs i ≡ Some x) where
  abbrev plain_left : List ℕ → Application (List ℕ)
  plain_left t = plain_lines (drop (i + 1) xs) (text ++ t ++ 10 ∷ [])

  pub plain_step : (t : List ℕ) (new : Log) → reads (plain_told (plain_form x.kind)) log ≡ record { outcome = Ok t; log = new }
      → reads (plain_lines (drop i xs) text) log ≡ reads (plain_lines (drop (i + 1) xs) (text ++ t ++ 10 ∷ [])) new
  plain_step t new h =
      ap (λ ys. reads (plain_lines ys text) log) (drop_at_get xs i x e)
      ∙ reads_then (plain_told (plain_form x.kind)) plain_left log
      ∙ ap (λ g. went_on g plain_left) h
