-- What `concat` answers where nothing is refused.
use Rattle.std.proofs.Common.{◌≡◌, ℕ, ◌+◌, List, drop, Result, Ok, sym, ap, ◌∙◌, arith}
use Rattle.ps_shapes.specs.declared.numbers.Matrix.{Matrix}
use Rattle.ps_names.specs.declared.error_name.ErrorName.{ErrorName}
use Rattle.ps_objects.specs.Operands.{needed, array_at, readable_at}
use Rattle.ps_objects.specs.declared.object.Object.{Object}
use Rattle.ps_objects.specs.declared.objects.Interval.{Interval}
use Rattle.ps_kinds.specs.declared.act.Act.TheVariants as act
use Rattle.ps_kinds.specs.declared.graphics.GState.{GState}
use Rattle.ps_kinds.specs.declared.state.State.{State}
use Rattle.ps_memory.specs.Tree.{Application}
use Rattle.ps_meaning.specs.Answer.{Log, Answer, answer, answer_over}
use Rattle.ps_operator.specs.Registers.{ops}
use Rattle.ps_operator.specs.Tree.{Ask, Reading, read, look_then, reads, continued}
use Rattle.ps_operator.proofs.Then.{answer_then}
use Rattle.mat_ops.specs.Current.{before_current, with_matrix, becomes, concat}
use Rattle.mat_ops.specs.Matrices.{six, matrix_in}

-- what was read is there
read_ok : {A B : Type 0} (r : Result A ErrorName) (x : A) (k : A → Application B) → r ≡ Ok x → read r k ≡ k x
read_ok r x k e = ap (λ r. read r k) e

-- what `concat` goes on with
abbrev product_of : State → Matrix → Ask
product_of s m = read (before_current m s) (λ p. becomes s 1 p)

abbrev looked : State → Interval → Ask
looked s a = look_then (matrix_in a) (product_of s)

goes : (s : State) (a : Interval) → needed 1 (ops s) ≡ Ok tt → array_at 0 (ops s) ≡ Ok a → readable_at 0 (ops s) ≡ Ok tt → six a ≡ Ok tt → concat s ≡ looked s a
goes s a n e r q =
    read_ok (needed 1 (ops s)) tt (λ _. read (array_at 0 (ops s)) (λ a. read (readable_at 0 (ops s)) (λ _. read (six a) (λ _. looked s a)))) n
    ∙ read_ok (array_at 0 (ops s)) a (λ a. read (readable_at 0 (ops s)) (λ _. read (six a) (λ _. looked s a))) e
    ∙ read_ok (readable_at 0 (ops s)) tt (λ _. read (six a) (λ _. looked s a)) r
    ∙ read_ok (six a) tt (λ _. looked s a) q

-- with these operands and this graphics state
abbrev end_of : State → List Object → GState → ℕ → Log → Answer
end_of s xs g n log = record { act = act.Done; state = record s { regs = record s.regs { operands = xs; state = g }; count = n }; log = log }

no_more : (n : ℕ) → n + 0 ≡ n
no_more n = omega arith

pub concat_answer : (s : State) (a : Interval) (m p : Matrix) (old new : Log) (xs : List Object) (g : GState)
    → needed 1 (ops s) ≡ Ok tt → array_at 0 (ops s) ≡ Ok a → readable_at 0 (ops s) ≡ Ok tt → six a ≡ Ok tt
    → reads (matrix_in a) old ≡ record { outcome = Ok m; log = new } → before_current m s ≡ Ok p
    → xs ≡ drop 1 (ops s) → g ≡ with_matrix s.regs.state p
    → answer (concat s) s old ≡ end_of s xs g s.count new
concat_answer s a m p old new xs g n e r q f b x y =
    ap (λ t. answer t s old) (goes s a n e r q)
    ∙ answer_then s.frames (matrix_in a) (product_of s) s old
    ∙ ap (λ (w : Reading Matrix). continued s.frames w (product_of s) s) f
    ∙ ap (λ (o : Result Matrix ErrorName). answer_over s.frames (read o (λ p. becomes s 1 p)) s new) b
    ∙ ap (λ xs. end_of s xs (with_matrix s.regs.state p) (s.count + 0) new) (sym x)
    ∙ ap (λ g. end_of s xs g (s.count + 0) new) (sym y)
    ∙ ap (λ n. end_of s xs g n new) (no_more s.count)
