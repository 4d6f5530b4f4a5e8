-- Arrays of six items, and the stores of a matrix.
use Rattle.std.proofs.Common.{◌≡◌, ℕ, Bool, true, false, cond, nat_eq, Result, Ok, Err, refl, ap, ◌∙◌, arith}
use Rattle.ps_shapes.specs.declared.numbers.Matrix.{Matrix}
use Rattle.ps_names.specs.declared.error_name.ErrorName.{ErrorName}
use Rattle.ps_names.specs.declared.error_name.ErrorName.TheVariants.{RangeCheck}
use Rattle.ps_objects.specs.declared.objects.Interval.{Interval}
use Rattle.ps_meaning.specs.Answer.{Log, acted_in, changed_in}
use Rattle.ps_operator.specs.Storing.{item_put, item_stores}
use Rattle.mat_ops.specs.Matrices.{six, item, matrix_stores}

six_by : (n : ℕ) (t : Bool) → nat_eq n 6 ≡ t → cond {A = Result (Unit {0}) ErrorName} t (Ok tt) (Err RangeCheck) ≡ Ok tt → n ≡ 6
six_by n true p e = grind arith
six_by n false p e = cc

pub six_items : (a : Interval) → six a ≡ Ok tt → a.len ≡ 6
six_items a e = six_by a.len (nat_eq a.len 6) refl e

-- the logs after the stores
module _ (a : Interval) (m : Matrix) (l0 l1 l2 l3 l4 l5 l6 : Log) where
  pub six_stored : l1 ≡ acted_in l0 (item_put a 0 (item m.a)) → l2 ≡ acted_in l1 (item_put a 1 (item m.b)) → l3 ≡ acted_in l2 (item_put a 2 (item m.c))
      → l4 ≡ acted_in l3 (item_put a 3 (item m.d)) → l5 ≡ acted_in l4 (item_put a 4 (item m.tx)) → l6 ≡ acted_in l5 (item_put a 5 (item m.ty))
      → l6 ≡ changed_in l0 (matrix_stores a m)
  unfolding item_stores
  six_stored e1 e2 e3 e4 e5 e6 =
      e6
      ∙ ap (λ l. acted_in l (item_put a 5 (item m.ty))) (e5
      ∙ ap (λ l. acted_in l (item_put a 4 (item m.tx))) (e4
      ∙ ap (λ l. acted_in l (item_put a 3 (item m.d))) (e3
      ∙ ap (λ l. acted_in l (item_put a 2 (item m.c))) (e2
      ∙ ap (λ l. acted_in l (item_put a 1 (item m.b))) e1))))
