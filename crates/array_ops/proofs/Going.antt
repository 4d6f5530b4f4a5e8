-- Operators whose rows go on in a function of their own.
use Rattle.std.proofs.Common.{◌≡◌, ℕ, ◌+◌, ℤ, true, false, cond, Result, Ok, sym, ap, ◌∙◌, subst}
use Rattle.ps_names.specs.declared.error_name.ErrorName.{ErrorName}
use Rattle.ps_objects.specs.Operands.{needed, integer_at, readable_at, writable_at}
use Rattle.ps_objects.specs.declared.refusal.Refusal.{Refusal}
use Rattle.ps_kinds.specs.declared.state.State.{State}
use Rattle.ps_memory.specs.Tree.{Application}
use Rattle.ps_meaning.specs.Answer.{Log}
use Rattle.ps_operator.specs.Marks.{above_mark}
use Rattle.ps_operator.specs.Owes.{Does}
use Rattle.ps_operator.specs.Registers.{ops}
use Rattle.ps_operator.specs.Tree.{Ask, read}
use Rattle.array_ops.specs.Making.{gathers, right_bracket, packedarray}
use Rattle.array_ops.specs.Members.{member_told, get, member_put, put}
use Rattle.array_ops.specs.Parts.{count_at, part_at}
use Rattle.array_ops.specs.Intervals.{move_of, put_move, putinterval, copy_part, copy_operands, is_integer_at, copy}
use Rattle.array_ops.specs.declared.intervals.Move.{Move}
use Rattle.array_ops.specs.declared.parts.Part.{Part}

-- what was read is there
read_ok : {A B : Type 0} (r : Result A ErrorName) (x : A) (k : A → Application B) → r ≡ Ok x → read r k ≡ k x
read_ok r x k e = ap (λ r. read r k) e

-- a function does what the row goes on with, so it does the row
pub does_as : (t u : State → Ask) (s new : State) (old log : Log) (r : Result (Unit {0}) Refusal) → t s ≡ u s → Does u s old r new log → Does t s old r new log
does_as t u s new old log r e h = subst (λ a. Does (λ _. a) s old r new log) (sym e) h

pub bracket_goes : (s : State) (n : ℕ) → above_mark (ops s) ≡ Ok n → right_bracket s ≡ gathers s 0 n false
bracket_goes s n p = read_ok (above_mark (ops s)) n (λ n. gathers s 0 n false) p

pub packed_goes : (s : State) (n : ℕ) → needed 1 (ops s) ≡ Ok tt → count_at 0 (ops s) ≡ Ok n → needed (n + 1) (ops s) ≡ Ok tt → packedarray s ≡ gathers s 1 n true
packed_goes s n p q t =
    read_ok (needed 1 (ops s)) tt (λ _. read (count_at 0 (ops s)) (λ n. read (needed (n + 1) (ops s)) (λ _. gathers s 1 n true))) p
    ∙ read_ok (count_at 0 (ops s)) n (λ n. read (needed (n + 1) (ops s)) (λ _. gathers s 1 n true)) q
    ∙ read_ok (needed (n + 1) (ops s)) tt (λ _. gathers s 1 n true) t

pub get_goes : (s : State) (p : Part) → needed 2 (ops s) ≡ Ok tt → part_at 1 (ops s) ≡ Ok p → get s ≡ member_told s p
get_goes s p a c =
    read_ok (needed 2 (ops s)) tt (λ _. read (part_at 1 (ops s)) (λ p. member_told s p)) a
    ∙ read_ok (part_at 1 (ops s)) p (λ p. member_told s p) c

pub put_goes : (s : State) (p : Part) → needed 3 (ops s) ≡ Ok tt → part_at 2 (ops s) ≡ Ok p → put s ≡ member_put s p
put_goes s p a c =
    read_ok (needed 3 (ops s)) tt (λ _. read (part_at 2 (ops s)) (λ p. member_put s p)) a
    ∙ read_ok (part_at 2 (ops s)) p (λ p. member_put s p) c

pub interval_goes : (s : State) (i : ℤ) (source target : Part) (m : Move) → needed 3 (ops s) ≡ Ok tt → part_at 0 (ops s) ≡ Ok source → integer_at 1 (ops s) ≡ Ok i → part_at 2 (ops s) ≡ Ok target → move_of target source ≡ Ok m
    → readable_at 0 (ops s) ≡ Ok tt → writable_at 2 (ops s) ≡ Ok tt → putinterval s ≡ put_move s m
interval_goes s i source target m a b c d e g h =
    read_ok (needed 3 (ops s)) tt (λ _. read (part_at 0 (ops s)) (λ source. read (integer_at 1 (ops s)) (λ _. read (part_at 2 (ops s)) (λ target. read (move_of target source) (λ m. read (readable_at 0 (ops s)) (λ _. read (writable_at 2 (ops s)) (λ _. put_move s m))))))) a
    ∙ read_ok (part_at 0 (ops s)) source (λ source. read (integer_at 1 (ops s)) (λ _. read (part_at 2 (ops s)) (λ target. read (move_of target source) (λ m. read (readable_at 0 (ops s)) (λ _. read (writable_at 2 (ops s)) (λ _. put_move s m)))))) b
    ∙ read_ok (integer_at 1 (ops s)) i (λ _. read (part_at 2 (ops s)) (λ target. read (move_of target source) (λ m. read (readable_at 0 (ops s)) (λ _. read (writable_at 2 (ops s)) (λ _. put_move s m))))) c
    ∙ read_ok (part_at 2 (ops s)) target (λ target. read (move_of target source) (λ m. read (readable_at 0 (ops s)) (λ _. read (writable_at 2 (ops s)) (λ _. put_move s m)))) d
    ∙ read_ok (move_of target source) m (λ m. read (readable_at 0 (ops s)) (λ _. read (writable_at 2 (ops s)) (λ _. put_move s m))) e
    ∙ read_ok (readable_at 0 (ops s)) tt (λ _. read (writable_at 2 (ops s)) (λ _. put_move s m)) g
    ∙ read_ok (writable_at 2 (ops s)) tt (λ _. put_move s m) h

pub operands_go : (s : State) → needed 1 (ops s) ≡ Ok tt → is_integer_at 0 (ops s) ≡ true → copy s ≡ copy_operands s
operands_go s p q = read_ok (needed 1 (ops s)) tt (λ _. cond (is_integer_at 0 (ops s)) (copy_operands s) (copy_part s)) p ∙ ap (λ b. cond b (copy_operands s) (copy_part s)) q

pub part_goes : (s : State) → needed 1 (ops s) ≡ Ok tt → is_integer_at 0 (ops s) ≡ false → copy s ≡ copy_part s
part_goes s p q = read_ok (needed 1 (ops s)) tt (λ _. cond (is_integer_at 0 (ops s)) (copy_operands s) (copy_part s)) p ∙ ap (λ b. cond b (copy_operands s) (copy_part s)) q
